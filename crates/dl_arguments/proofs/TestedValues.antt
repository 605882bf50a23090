-- The value of a text that passes a test, where the value must pass one more.
use Rattle.dl_arguments.proofs.Common.{◌≡◌, Bool, true, false, refl, Some, None, if◌then◌else◌, ◌&&◌, then_some}

pub none_tested : {A : Type 0} (passes : Bool) (test : A → Bool) (value : A)
    → None ≡ (if passes then Some value else None) → None ≡ (if passes && test value then Some value else None)
none_tested true test value none = absurd (cc)
none_tested false test value none = refl

then_some_if : {A : Type 0} (b : Bool) (value : A) → then_some b value ≡ (if b then Some value else None)
then_some_if true value = refl
then_some_if false value = refl

pub some_tested : {A : Type 0} (passes : Bool) (test : A → Bool) (value x : A)
    → Some x ≡ (if passes then Some value else None)
    → then_some (test x) x ≡ (if passes && test value then Some value else None)
some_tested true test value x some = let same : x ≡ value = cc in rw same (then_some_if (test value) value)
some_tested false test value x some = absurd (cc)
