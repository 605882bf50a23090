-- Sums that are admitted after each number.
use Rattle.dl_rules.proofs.Common.{◌≡◌, ◌∙◌, ℕ, ◌+◌, ◌<◌, ◌≤◌, List, [], ◌∷◌, ◌++◌, length, map, take, get_or, whole, Bool, true, false, if◌then◌else◌, Option, Some, None, refl, sym, ap, subst, arith, All, All-nil, All-cons, Fraction, ◌≤ℚ◌, HasPartsOf48Bits, is_admitted, admitted, length-map, whole_num, whole_den, drop, take-map, get_or-map, take_all, ◌+ℚ◌, sum_over, plus_assoc, plus_comm, plus_zero, zero_plus, le_plus, le_trans, running_sum, take-append-drop, option_and_then, sum_over_map}
use Rattle.dl_rules.proofs.Naming.{maps_more, maps_split}
use Rattle.dl_rules.proofs.Shapes.{admitted_is}

if_some : (b : Bool) (o : Option Fraction) (s : Fraction) → (if b then o else None) ≡ Some s → (b ≡ true) × (o ≡ Some s)
if_some true o s e = (refl, e)
if_some false o s e = absurd cc

if_then : (f : Fraction → Option Fraction) (b : Bool) (o p : Option Fraction) → o ≡ option_and_then f p
    → (if b then o else None) ≡ option_and_then f (if b then p else None)
if_then f true o p e = e
if_then f false o p e = refl

-- the numbers of one list, and then those of another
running_append : (x : Fraction) (xs ys : List Fraction)
    → running_sum x (xs ++ ys) ≡ option_and_then (λ s. running_sum s ys) (running_sum x xs)
unfolding running_sum
running_append x [] ys = refl
running_append x (z ∷ zs) ys = if_then (λ s. running_sum s ys) (is_admitted (x +ℚ z)) (running_sum (x +ℚ z) (zs ++ ys))
    (running_sum (x +ℚ z) zs) (running_append (x +ℚ z) zs ys)

pub running_more : (x : Fraction) (xs : List Fraction) (y s : Fraction) → running_sum x xs ≡ Some s
    → running_sum x (xs ++ y ∷ []) ≡ admitted true (s +ℚ y)
unfolding running_sum
running_more x xs y s e = running_append x xs (y ∷ []) ∙ ap (option_and_then (λ s. running_sum s (y ∷ []))) e

pub running_none : (x : Fraction) (xs ys : List Fraction) → running_sum x xs ≡ None → running_sum x (xs ++ ys) ≡ None
running_none x xs ys e = running_append x xs ys ∙ ap (option_and_then (λ s. running_sum s ys)) e

abbrev plain_sum : List Fraction → Fraction
plain_sum xs = sum_over xs (λ y. y)

-- what it comes to
pub running_value : (x : Fraction) (xs : List Fraction) (s : Fraction) → running_sum x xs ≡ Some s
    → s ≡ x +ℚ plain_sum xs
unfolding running_sum sum_over
running_value x [] s e = let same : s ≡ x = cc in same ∙ sym (plus_zero x)
running_value x (z ∷ zs) s e =
    let told = if_some (is_admitted (x +ℚ z)) (running_sum (x +ℚ z) zs) s e in
    running_value (x +ℚ z) zs s told.1 ∙ plus_assoc x z (plain_sum zs)

-- a sum that is there, and that of the first numbers
pub running_admitted : (x : Fraction) (xs : List Fraction) (s : Fraction) → HasPartsOf48Bits x
    → running_sum x xs ≡ Some s → HasPartsOf48Bits s
unfolding running_sum
running_admitted x [] s fits e = let same : x ≡ s = cc in subst HasPartsOf48Bits same fits
running_admitted x (z ∷ zs) s fits e =
    let told = if_some (is_admitted (x +ℚ z)) (running_sum (x +ℚ z) zs) s e in
    running_admitted (x +ℚ z) zs s (admitted_is (x +ℚ z) told.0) told.1

pub running_front : (x : Fraction) (xs : List Fraction) (s : Fraction) (k : ℕ) → running_sum x xs ≡ Some s
    → (t : Fraction) × (running_sum x (take k xs) ≡ Some t)
running_front x xs s k e = there (running_sum x (take k xs)) refl
  where
    there : (o : Option Fraction) → running_sum x (take k xs) ≡ o → (t : Fraction) × (running_sum x (take k xs) ≡ Some t)
    there None none = absurd (cc (sym (running_none x (take k xs) (drop k xs) none)
        ∙ ap (running_sum x) (take-append-drop k xs) ∙ e))
    there (Some t) is = (t, is)

-- each number is at most the sum
each_within : (x : Fraction) (xs : List Fraction) → All (λ y. y ≤ℚ x +ℚ plain_sum xs) xs
unfolding sum_over
each_within x [] = All-nil (λ y. y ≤ℚ x +ℚ plain_sum [])
each_within x (z ∷ zs) =
    let regrouped : x +ℚ z +ℚ plain_sum zs ≡ x +ℚ (z +ℚ plain_sum zs) = plus_assoc x z (plain_sum zs) in
    All-cons (λ y. y ≤ℚ x +ℚ (z +ℚ plain_sum zs)) z zs (subst (λ t. z ≤ℚ t) (plus_comm (z +ℚ plain_sum zs) x)
    (le_trans z (z +ℚ plain_sum zs) (z +ℚ plain_sum zs +ℚ x) (le_plus z (plain_sum zs))
    (le_plus (z +ℚ plain_sum zs) x)))
    (λ k d inside. subst (λ t. get_or zs k d ≤ℚ t) regrouped (each_within (x +ℚ z) zs k d inside))

pub each_below : (x : Fraction) (xs : List Fraction) (s : Fraction) → running_sum x xs ≡ Some s → All (λ y. y ≤ℚ s) xs
each_below x xs s e k d inside =
    subst (λ t. get_or xs k d ≤ℚ t) (sym (running_value x xs s e)) (each_within x xs k d inside)

-- ---- over a list, by a number of each item

module _ {A : Type 0} (f : A → Fraction) (xs : List A) (i : ℕ) (x : A) (lt : i < length xs) (is : x ≡ get_or xs i x)
    (s : Fraction) (so_far : running_sum (whole 0) (map f (take i xs)) ≡ Some s) (o : Option Fraction)
    (next : o ≡ admitted true (s +ℚ f x)) where
  sums_step : running_sum (whole 0) (map f (take (i + 1) xs)) ≡ o
  sums_step =
      ap (running_sum (whole 0)) (sym (maps_more xs i x lt is f)) ∙ running_more (whole 0) (map f (take i xs)) (f x) s so_far ∙ sym next

  pub sums_more : (t : Fraction) → o ≡ Some t → running_sum (whole 0) (map f (take (i + 1) xs)) ≡ Some t
  sums_more t e = sums_step ∙ e

  pub sums_none : o ≡ None → None ≡ running_sum (whole 0) (map f xs)
  sums_none e =
      sym (ap (running_sum (whole 0)) (maps_split f xs (i + 1))
      ∙ running_none (whole 0) (map f (take (i + 1) xs)) (map f (drop (i + 1) xs)) (sums_step ∙ e))

pub sums_all : {A : Type 0} (f : A → Fraction) (xs : List A) (i : ℕ) (s : Fraction) → length xs ≤ i
    → running_sum (whole 0) (map f (take i xs)) ≡ Some s → Some s ≡ running_sum (whole 0) (map f xs)
sums_all f xs i s le so_far = sym so_far ∙ ap (λ ys. running_sum (whole 0) (map f ys)) (take_all i xs le)

zero_fits : HasPartsOf48Bits (whole 0)
zero_fits = record { num = omega (arith, whole_num 0); den = omega (arith, whole_den 0) }

pub admitted_sum : {A : Type 0} (f : A → Fraction) (xs : List A) (s : Fraction)
    → running_sum (whole 0) (map f xs) ≡ Some s → HasPartsOf48Bits s
admitted_sum f xs s e = running_admitted (whole 0) (map f xs) s zero_fits e

pub each_below_of : {A : Type 0} (f : A → Fraction) (xs : List A) (s : Fraction)
    → running_sum (whole 0) (map f xs) ≡ Some s → All (λ x. f x ≤ℚ s) xs
each_below_of f xs s e k d inside =
    subst (λ y. y ≤ℚ s) (get_or-map f xs k d (f d) inside)
    (each_below (whole 0) (map f xs) s e k (f d) (subst (λ n. k < n) (sym (length-map xs f)) inside))

-- the sum of all, and of the first k
pub sum_is : {A : Type 0} (f : A → Fraction) (xs : List A) (s : Fraction)
    → running_sum (whole 0) (map f xs) ≡ Some s → s ≡ sum_over xs f
sum_is f xs s e = running_value (whole 0) (map f xs) s e ∙ zero_plus (plain_sum (map f xs)) ∙ sum_over_map f (λ y. y) xs

pub first_admitted : {A : Type 0} (f : A → Fraction) (xs : List A) (s : Fraction)
    → running_sum (whole 0) (map f xs) ≡ Some s → (k : ℕ) → HasPartsOf48Bits (sum_over (take k xs) f)
first_admitted f xs s e k =
    let front = running_front (whole 0) (map f xs) s k e in
    let those = ap (running_sum (whole 0)) (sym (take-map f k xs)) ∙ front.1 in
    subst HasPartsOf48Bits (sum_is f (take k xs) front.0 those) (admitted_sum f (take k xs) front.0 those)
