-- A unit that is read tells of the rules that its text breaks, and where it breaks none it is the unit of the text.
use Rattle.dl_rules.proofs.Common.{ℕ, ◌≡◌, ◌∙◌, List, [], ◌∷◌, Option, Some, None, refl, sym, ap, subst, arith, Ok, Err, Fraction, Span, ◌else◌, breaks, CheckFault, GridUnit, UnitAst, length, Result, OnOk, Rule, MixAst, first_in, spans, AgreeToFirst, IsClean, IsRead, grid_mixture, grid_with, grid_of, flaws_of_mixture, flaws_with, flaws_of, HasFault, first_broken, fault_of_text, text_rules, Bounds, Flaws, Gridded}
use Rattle.dl_rules.specs.declared.rule.Rule.TheVariants as rules
use Rattle.dl_rules.proofs.RuleLists.{all_kept, none_broken}

-- each of these rules beside its place
abbrev beside : List Rule → List (Option Span) → List (Rule × Option Span)
beside [] spans = []
beside (rule ∷ rules) [] = []
beside (rule ∷ rules) (span ∷ spans) = (rule, span) ∷ beside rules spans

-- places that agree to the first tell one fault
agree_told : (unit : ℕ) (rs : List Rule) (xs ys : List (Option Span)) → length xs ≡ length ys → AgreeToFirst xs ys
    → first_broken unit (beside rs xs) ≡ first_broken unit (beside rs ys)
unfolding first_in
agree_told unit [] xs ys same h = refl
agree_told unit (r ∷ rs) [] [] same h = refl
agree_told unit (r ∷ rs) [] (y ∷ ys) same h = absurd (cc)
agree_told unit (r ∷ rs) (x ∷ xs) [] same h = absurd (cc)
agree_told unit (r ∷ rs) (x ∷ xs) (None ∷ ys) same h =
    ap (λ p. breaks unit r p else first_broken unit (beside rs xs)) h.0
    ∙ agree_told unit rs xs ys (omega (arith, same)) (h.1 refl)
agree_told unit (r ∷ rs) (x ∷ xs) (Some y ∷ ys) same h =
    ap (λ p. breaks unit r p else first_broken unit (beside rs xs)) h.0

abbrev names : List Rule
names =
    rules.BadNumeral ∷ rules.BadRange ∷ rules.ListTooLong ∷ rules.LengthsDiffer ∷ rules.NotOne ∷ rules.OffGrid
    ∷ rules.TooFar ∷ []

pub text_clean : (unit : ℕ) (flaws : Flaws) → fault_of_text unit flaws ≡ None → IsClean flaws
text_clean unit flaws e = all_kept unit (text_rules flaws) e

pub text_none : (unit : ℕ) (flaws : Flaws) → IsClean flaws → fault_of_text unit flaws ≡ None
text_none unit flaws clean = none_broken unit (text_rules flaws) clean

module _ {A : Type 0} (unit : ℕ) (flaws : Flaws) (part : A) (made : Gridded A) (read : IsRead flaws part made) where
  pub same_fault : fault_of_text unit made.flaws ≡ fault_of_text unit flaws
  same_fault = agree_told unit names (spans made.flaws) (spans flaws) refl read.first

  -- what holds of the part of a text without flaws holds of what is read, where no fault is told
  pub part_keeps : (P : A → Type 0) (r : Result Unit CheckFault) → HasFault (fault_of_text unit made.flaws) r
      → (IsClean flaws → P part) → OnOk r (P made.part)
  part_keeps P (Ok x) e keeps =
      let clean = text_clean unit flaws (sym same_fault ∙ e) in
      subst P (sym (read.right clean)) (keeps clean)
  part_keeps P (Err stop) told keeps = tt

-- the parts of a unit and its mixture
pub unit_read : (bounds : Bounds) (most : ℕ) (bs : Fraction) (u : UnitAst) (m : MixAst) (made : Gridded GridUnit)
    → IsRead (flaws_with bounds most bs (flaws_of_mixture bounds most bs m) u) (grid_with bs (grid_mixture bs m) u) made
    → IsRead (flaws_of bounds most bs u m) (grid_of bs u m) made
unfolding flaws_of grid_of
unit_read bounds most bs u m made read = read
