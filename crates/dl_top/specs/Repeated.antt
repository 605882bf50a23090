-- A text that `cert` writes, handed to `verify`.
use Rattle.std.specs.Prelude.{ℕ, ◌≡◌, List}
use Rattle.dl_plan.specs.declared.plan.Plan.{Plan}
use Rattle.dl_plan.specs.declared.settings.Settings.{Settings}
use Rattle.dl_cert.specs.Verified.{IsCertificate}
use Rattle.dl_top.specs.Inputs.{steps_of}
use Rattle.dl_top.specs.Answers.{Certifies, Verifies, HasPlan, SpellsProgram}

-- The first words want a certificate of the program in their input, and this text is one; the
-- second words want steps checked on the same grid, and their input has the same program and that
-- text.
pub record IsHandedOn (words : List (List ℕ)) (input text : List ℕ) (words' : List (List ℕ))
    (input' : List ℕ) : Type 0 where
  pub writer : Settings
  pub certifies : Certifies words writer
  pub plan : Plan
  pub means : HasPlan input writer plan
  pub written : IsCertificate plan text
  pub reader : Settings
  pub verifies : Verifies words' reader
  pub bucket : reader.bs ≡ writer.bs
  pub cells : reader.log2 ≡ writer.log2
  pub program : SpellsProgram reader.form input' means.program
  pub steps : steps_of reader.form input' ≡ text
