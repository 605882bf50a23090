-- A value that is there is the option's where it is taken.
use Rattle.dl_arguments.proofs.Common.{◌≡◌, inl, inr, Bool, refl, [], ◌∷◌, Option, Some, None, cases_Bool, if◌then◌else◌, numeral_value, Text, TakesOption, is_bucket}
use Rattle.dl_exact.specs.Fraction.{whole}
use Rattle.dl_arguments.proofs.options.bucket_size.Goals as goal

taken : {A : Type 0} (takes : Text → Bool) (default : A) (read : Text → A) (text : Text) (result : Option A)
    → result ≡ (if takes text then Some (read text) else None) → TakesOption takes default read (text ∷ []) result
taken takes default read text result is = elim (cases_Bool (takes text)) [
  | inl e ↦ rw (is, e) (refl, refl)
  | inr e ↦ rw (is, e) refl
]

pub returns-in-Some : goal.returns-in-Some
returns-in-Some c = rw (← (rw c.in-Some.is at c.get_str.ensures))
    (taken is_bucket (whole 1) numeral_value c.in-Some.text.now c.bucket.result c.bucket.ensures)
