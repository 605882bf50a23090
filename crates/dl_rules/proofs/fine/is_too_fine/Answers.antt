-- A clause is made where its shares are fine.
use Rattle.dl_rules.proofs.Common.{◌≡◌, ◌∙◌, Bool, true, false, not, Option, Some, None, refl, sym, ap, GridClause, has_shares, made_of, shares_of, is_fine, MadeClause, most_parts}
use Rattle.dl_reading.specs.declared.made.MadeClause.TheVariants.{Missing, TooFine, Whole}
use Rattle.dl_rules.proofs.fine.is_too_fine.Goals as goal

abbrev coarse : MadeClause → Bool
coarse Missing = false
coarse TooFine = true
coarse (Whole clause span) = false

coarse_is : (o : Option GridClause) → coarse (made_of o) ≡ not (has_shares o)
coarse_is None = refl
coarse_is (Some c) = by_test (is_fine most_parts (shares_of c)) refl
  where
    by_test : (b : Bool) → is_fine most_parts (shares_of c) ≡ b → coarse (made_of (Some c)) ≡ not (is_fine most_parts (shares_of c))
    by_test true e = rw e refl
    by_test false e = rw e refl

not_coarse : (made : MadeClause) → (made ≡ TooFine → ⊥) → false ≡ coarse made
not_coarse Missing other = refl
not_coarse TooFine other = absurd (other refl)
not_coarse (Whole clause span) other = refl

pub returns-in-TooFine : goal.returns-in-TooFine
returns-in-TooFine c = λ o e. ap coarse (sym c.in-TooFine.is ∙ e) ∙ coarse_is o

pub returns-in_default : goal.returns-in_default
returns-in_default c = λ o e. not_coarse c.args.made.now c.in_default.not-TooFine ∙ ap coarse e ∙ coarse_is o
