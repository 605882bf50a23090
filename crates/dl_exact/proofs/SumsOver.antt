-- Sums over one denominator, and sums in whole units.
use Rattle.dl_exact.proofs.Common.{◌≡◌, ℕ, suc, zero, ◌+◌, ◌*◌, ◌<◌, List, [], ◌∷◌, arith, refl, sym, ap, subst₂, ◌∙◌, mul-pos, sum_by-cons, Fraction, whole, ◌over◌, ◌+ℚ◌, ◌*ℚ◌, ◌≤ℚ◌, sum_to, sum_below, sum_pairs, sum_over, count_below, count_pairs, sum_through, sum_by}
use Rattle.std.proofs.Common.{Bool, true, false, cond}
use Rattle.dl_exact.proofs.Over.{over_mul}
use Rattle.dl_exact.proofs.Laws.{times_plus, whole_plus, plus_le_both}
use Rattle.dl_exact.proofs.Sums.{sum_pairs_same}
use Rattle.dl_exact.proofs.Denominators.{over_plus, over_zero}

pub sum_to_over : (n d : ℕ) (f : ℕ → ℕ) → 0 < d → sum_to n (λ i. f i over d) ≡ sum_through f n over d
unfolding sum_to
sum_to_over zero d f h = refl
sum_to_over (suc n) d f h = ap (λ t. t +ℚ f (suc n) over d) (sum_to_over n d f h) ∙ over_plus _ _ d h

pub to_over : (n d : ℕ) (f : ℕ → ℕ) → 0 < d → sum_to n (λ i. f i over d) ≡ count_below (suc n) f over d
unfolding sum_to count_below
to_over zero d f h = ap (λ k. k over d) (omega arith)
to_over (suc n) d f h = ap (λ t. t +ℚ f (suc n) over d) (to_over n d f h) ∙ over_plus _ _ d h

pub below_over : (n d : ℕ) (f : ℕ → ℕ) → 0 < d → sum_below n (λ i. f i over d) ≡ count_below n f over d
unfolding sum_below count_below
below_over zero d f h = sym (over_zero d h)
below_over (suc n) d f h = ap (λ t. t +ℚ f n over d) (below_over n d f h) ∙ over_plus _ _ d h

pub sum_pairs_over : (n d : ℕ) (f : ℕ → ℕ → ℕ) → 0 < d
    → sum_pairs n (λ i j. f i j over d) ≡ count_pairs n f over d
unfolding sum_pairs count_pairs
sum_pairs_over zero d f h = refl
sum_pairs_over (suc n) d f h =
    ap (λ t. f zero (suc n) over d +ℚ t) (sum_pairs_over n d (λ i j. f (suc i) j) h) ∙ over_plus _ _ d h

-- products of numbers of units, of which d make 1
pub pairs_in_units : (n d : ℕ) (f g : ℕ → ℕ) → 0 < d
    → sum_pairs n (λ i j. f i over d *ℚ g j over d) ≡ count_pairs n (λ i j. f i * g j) over (d * d)
pairs_in_units n d f g h =
    sum_pairs_same n _ _ (λ i j e. over_mul (f i) d (g j) d h h)
    ∙ sum_pairs_over n (d * d) (λ i j. f i * g j) (mul-pos h h)

pub sum_over_common : {A : Type 0} (w : A → ℕ) (d : ℕ) (xs : List A) → 0 < d
    → sum_over xs (λ x. w x over d) ≡ sum_by w xs over d
unfolding sum_over
sum_over_common w d [] h = sym (over_zero d h)
sum_over_common w d (x ∷ xs) h =
    rw (sum_over_common w d xs h) (rw (sum_by-cons w x xs) (over_plus (w x) (sum_by w xs) d h))

-- one numerator or none
pub if_over : (b : Bool) (w d : ℕ) → 0 < d → cond b (w over d) (whole 0) ≡ cond b w 0 over d
if_over true w d h = refl
if_over false w d h = sym (over_zero d h)

-- ---- a sum times C, in whole units, with one more item

pub low_sum : (C : Fraction) (w : ℕ → Fraction) (n a b : ℕ) → whole a ≤ℚ C *ℚ sum_to n w
    → whole b ≤ℚ C *ℚ w (suc n) → whole (a + b) ≤ℚ C *ℚ sum_to (suc n) w
unfolding sum_to
low_sum C w n a b p q =
    subst₂ (λ x y. x ≤ℚ y) (sym (whole_plus a b)) (sym (times_plus C (sum_to n w) (w (suc n))))
    (plus_le_both _ _ _ _ p q)

pub high_sum : (C : Fraction) (w : ℕ → Fraction) (n a b : ℕ) → C *ℚ sum_to n w ≤ℚ whole a
    → C *ℚ w (suc n) ≤ℚ whole b → C *ℚ sum_to (suc n) w ≤ℚ whole (a + b)
unfolding sum_to
high_sum C w n a b p q =
    subst₂ (λ x y. x ≤ℚ y) (sym (times_plus C (sum_to n w) (w (suc n)))) (sym (whole_plus a b))
    (plus_le_both _ _ _ _ p q)
