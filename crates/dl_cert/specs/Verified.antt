-- When a text is a certificate of a plan's total, and which of its steps is the first bad one.
use Rattle.std.specs.Prelude.{ℕ, ◌≡◌, ◌⊎◌, ◌<◌, ⊤, List, [], ◌∷◌, ◌++◌, length, take, get_or}
use Rattle.dl_iv.specs.declared.interval.Iv.{Iv}
use Rattle.dl_grid.specs.Cells.{low_at, high_at}
use Rattle.dl_plan.specs.declared.plan.Plan.{Plan}
use Rattle.dl_cert.specs.declared.fault.VerifyFault.{VerifyFault}
use Rattle.dl_cert.specs.declared.fault.VerifyFault.TheVariants as verifies
use Rattle.dl_cert.specs.declared.fault.CertFault.{CertFault}
use Rattle.dl_cert.specs.declared.fault.CertFault.TheVariants as certifies
use Rattle.dl_cert.specs.Covered.{IsCovered, IsNotCovered}
use Rattle.dl_cert.specs.Targets.{target}
use Rattle.dl_cert.specs.Steps.{Step, Made, made_by}
use Rattle.dl_cert.specs.Numbers.{low_number, high_number}
use Rattle.dl_cert.specs.Passes.{Passes, AllPass, Certifies, made_after}
use Rattle.dl_cert.specs.Lines.{lines_of, IsStep, AreSteps}

-- the text spells steps that certify the plan's total with this grid
pub record Verifies (plan : Plan) (text : List ℕ) (grid : List (Iv 56)) : Type 0 where
  pub steps : List Step
  pub spelled : AreSteps (lines_of text) steps
  pub certify : Certifies plan steps grid

-- the line is misspelled, or its step does not pass after the earlier ones
abbrev pub IsBadLine : Plan → List Made → List ℕ → Type 0
IsBadLine plan before line = (step : Step) → IsStep line step → ¬ Passes plan before step

-- there is a last step, and it has the label of the target
pub record EndsAtTarget (plan : Plan) (made : List Made) : Type 0 where
  pub before : List Made
  pub last : Made
  pub ends : made ≡ before ++ last ∷ []
  pub label : (i : ℕ) → last.label i ≡ target plan i

-- The first k lines are steps that pass. Line k, counted from 0, is bad; or there are only k lines,
-- and they do not end at the target.
pub record IsBadStep (plan : Plan) (text : List ℕ) (k : ℕ) : Type 0 where
  pub steps : List Step
  pub spelled : AreSteps (take k (lines_of text)) steps
  pub pass : AllPass plan [] steps
  pub bad : ((k < length (lines_of text))
      × IsBadLine plan (made_after [] steps) (get_or (lines_of text) k []))
      ⊎ ((k ≡ length (lines_of text)) × ¬ EndsAtTarget plan (made_after [] steps))

-- the ends of a step are the numbers that they are compared with
pub record IsExact (plan : Plan) (before : List Made) (step : Step) : Type 0 where
  pub low : (y : ℕ) → y < plan.cells
      → low_at step.cells y ≡ low_number plan.units before step.kind (low_at step.cells) y
  pub high : (y : ℕ) → y < plan.cells
      → high_at step.cells y ≡ high_number plan.units before step.kind (high_at step.cells) y

-- each step, after those before it
abbrev pub AllExact : Plan → List Made → List Step → Type 0
AllExact plan before [] = ⊤
AllExact plan before (step ∷ steps) =
    IsExact plan before step × AllExact plan (before ++ made_by before step ∷ []) steps

-- the text spells steps that certify the plan's total, as narrow as such steps can be
pub record IsCertificate (plan : Plan) (text : List ℕ) : Type 0 where
  pub covered : IsCovered plan
  pub grid : List (Iv 56)
  pub verifies : Verifies plan text grid
  pub exact : AllExact plan [] verifies.steps

-- the result of `verify`: the grid of the last step; or why there is none
abbrev pub IsVerified : Plan → List ℕ → List (Iv 56) → Type 0
IsVerified plan text grid = IsCovered plan × Verifies plan text grid

abbrev pub RefusesSteps : Plan → List ℕ → VerifyFault → Type 0
RefusesSteps plan text (verifies.NotCovered u) = IsNotCovered plan u
RefusesSteps plan text (verifies.BadStep k) = IsCovered plan × IsBadStep plan text k
RefusesSteps plan text verifies.OutOfMemory = ⊤

-- why `certify` gives no steps
abbrev pub RefusesPlan : Plan → CertFault → Type 0
RefusesPlan plan (certifies.NotCovered u) = IsNotCovered plan u
RefusesPlan plan certifies.OutOfMemory = ⊤
