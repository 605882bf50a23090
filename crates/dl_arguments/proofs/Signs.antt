-- Texts that are cut at a sign, and values that are read where a test passes.
use Rattle.dl_arguments.proofs.Common.{◌≡◌, ◌∙◌, ℕ, Bool, true, false, refl, ap, ◌∷◌, ◌++◌, Option, Some, None, ◌==◌, if◌then◌else◌, option_map, option_and_then, list_any, before_first, after_first, cut_at, Text, eq-eqb, after_at, any_at, before_at, cut_first}

pub cut_there : (s : ℕ) (front back : Text) → list_any (λ b. b == s) front ≡ false
    → cut_at s (front ++ s ∷ back) ≡ Some (front, back)
cut_there s front back h =
    let is = eq-eqb s s refl in
    rw (any_at (λ b. b == s) s is front back, before_at _ front back s h is, after_at _ front back s h is) refl

pub some_is : {A : Type 0} (x y : A) → Some x ≡ Some y → x ≡ y
some_is x y e = cc

pub not_some : {A P : Type 0} (x : A) → None ≡ Some x → P
not_some x e = absurd (cc)

-- a part that is read only where a test passes
pub tested : {A : Type 0} (b : Bool) (o : Option A) (y : A) → (if b then o else None) ≡ Some y → (b ≡ true) × (o ≡ Some y)
tested true o y e = (refl, e)
tested false o y e = not_some y e

-- a part that is read, and an ask of it
pub mapped : {A B : Type 0} (f : A → B) (o : Option A) (y : B) → option_map f o ≡ Some y
    → (x : A) × (o ≡ Some x) × (f x ≡ y)
mapped f None y e = not_some y e
mapped f (Some x) y e = (x, refl, some_is (f x) y e)

pub chained : {A B : Type 0} (f : A → Option B) (o : Option A) (y : B) → option_and_then f o ≡ Some y
    → (x : A) × (o ≡ Some x) × (f x ≡ Some y)
chained f None y e = not_some y e
chained f (Some x) y e = (x, refl, e)

pub cut_back : (s : ℕ) (text : Text) (cut : Text × Text) → cut_at s text ≡ Some cut → text ≡ cut.0 ++ s ∷ cut.1
cut_back s text cut e =
    let t = tested (list_any (λ b. b == s) text) (Some (
      before_first (λ b. b == s) text,
      after_first (λ b. b == s) text,
    )) cut e in
    cut_first s text t.0 ∙ ap (λ c. c.0 ++ s ∷ c.1) (some_is _ cut t.1)
