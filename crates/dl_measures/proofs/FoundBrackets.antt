-- The bracket of a quantile from the ends of a grid's distribution, and how tight it is.
use Rattle.dl_measures.proofs.Common.{◌≡◌, inl, inr, ℕ, suc, ◌+◌, ◌<◌, ◌≤◌, min, arith, sym, subst, ◌∙◌, List, Option, Some, Fraction, whole, ◌over◌, ◌+ℚ◌, ◌-ℚ◌, ◌≤ℚ◌, ◌<ℚ◌, over_same, over_le, lt_over, one_pos, le_trans, zero_le, AtMost, AtLeast, count_below, Loss, AreDeclarable, One, Cdf, partial_sums, total, Encloses, IsBracketed, low_cdf, high_cdf, IsTight, at_most_wider, below_grows, over_plus, over_sub, by_two, plus_le_plus, lt_or_le, le_of_lt, sub_plus, plus_le_cancel, at_least_wider}
use Rattle.std.proofs.Common.{mul-pos, mul-le-mul_right}
use Rattle.dl_measures.proofs.CellEnds.{cdf_ends}

pub bracket : (us : List Loss) (S K : ℕ) (lo hi : ℕ → ℕ) (p : Fraction) (a : ℕ) (b : Option ℕ) → AreDeclarable us
    → 0 < S → Encloses S K lo hi (total us)
    → a ≤ K → ((x : ℕ) → x < a → high_cdf S hi x <ℚ p) → ((x : ℕ) → b ≡ Some x → (x < K) × (p ≤ℚ low_cdf S lo x))
    → IsBracketed (partial_sums us) a b p
bracket us S K lo hi p a b w s e ak low high = record {
  before = λ x i. (high_cdf S hi x, low x (omega arith), (cdf_ends us S K lo hi w s e x (omega arith)).1);
  reached = λ x i. at_least_wider (partial_sums us (Cdf x)) (partial_sums us One) (low_cdf S lo x) p
      (cdf_ends us S K lo hi w s e x (high x i).0).0 (high x i).1;
}

none_left : (x y : Fraction) → x <ℚ y → x -ℚ y ≡ whole 0
none_left = by_two (λ x y. x <ℚ y → x -ℚ y ≡ whole 0)
    (λ a b c d hb hd p. over_sub a b c d hb hd
    ∙ over_same _ _ _ _ (mul-pos hb hd) one_pos (omega (arith, lt_over a b c d hb hd p)))

sub_le : (x y z : Fraction) → x ≤ℚ y +ℚ z → x -ℚ z ≤ℚ y
sub_le x y z h = elim (lt_or_le x z) [
  | inl l ↦ subst (λ t. t ≤ℚ y) (sym (none_left x z l)) (zero_le y)
  | inr l ↦ plus_le_cancel _ _ z (subst (λ t. t ≤ℚ y +ℚ z) (sym (sub_plus x z l)) h)
]

spread_le : (S l h w : ℕ) → 0 < S → h ≤ l + w → min S h over S ≤ℚ l over S +ℚ w over S
spread_le S l h w s k =
    subst (λ t. min S h over S ≤ℚ t) (sym (over_plus l w S s)) (over_le _ _ _ _ s s (mul-le-mul_right S (omega arith)))

-- p lies between the ends of the cdf at x, so both are within the spread of p
near : (us : List Loss) (S K : ℕ) (lo hi : ℕ → ℕ) (p : Fraction) (x w : ℕ) → AreDeclarable us → 0 < S
    → Encloses S K lo hi (total us)
    → x < K → p ≤ℚ high_cdf S hi x → low_cdf S lo x <ℚ p → count_below (suc x) hi ≤ count_below (suc x) lo + w
    → AtMost (partial_sums us (Cdf x)) (partial_sums us One) (p +ℚ w over S) × AtLeast (partial_sums us (Cdf x))
    (partial_sums us One) (p -ℚ w over S)
near us S K lo hi p x w i s e xk high low k =
    let c = cdf_ends us S K lo hi i s e x xk in
    let g : high_cdf S hi x ≤ℚ low_cdf S lo x +ℚ w over S = spread_le S _ _ w s k in (
      at_most_wider (partial_sums us (Cdf x)) (partial_sums us One) (high_cdf S hi x) (p +ℚ w over S) c.1
          (le_trans _ _ _ g (plus_le_plus _ _ _ (le_of_lt _ _ low))),
      at_least_wider (partial_sums us (Cdf x)) (partial_sums us One) (low_cdf S lo x) (p -ℚ w over S) c.0
          (sub_le _ _ _ (le_trans _ _ _ high g)),
    )

-- Where the high ends from lo on reach p, and the low ends before hi do not, each spread below w leaves the bracket
-- tight within w.
pub tight : (us : List Loss) (S K : ℕ) (lo hi : ℕ → ℕ) (p : Fraction) (a : ℕ) (b : Option ℕ) (w : ℕ)
    → AreDeclarable us
    → 0 < S → Encloses S K lo hi (total us)
    → ((x : ℕ) → a ≤ x → x < K → p ≤ℚ high_cdf S hi x)
    → ((x : ℕ) → x < K → ((y : ℕ) → b ≡ Some y → x < y) → low_cdf S lo x <ℚ p)
    → ((x : ℕ) → x < K → count_below (suc x) hi ≤ count_below (suc x) lo + w)
    → IsTight (partial_sums us) K a b p (w over S)
tight us S K lo hi p a b w i s e high low spread x ax xk before =
    near us S K lo hi p x w i s e xk (high x ax xk) (low x xk before) (spread x xk)

-- the high ends of the cdf never fall, nor do the low ones
pub high_rises : (S : ℕ) (hi : ℕ → ℕ) (x y : ℕ) → 0 < S → x ≤ y → high_cdf S hi x ≤ℚ high_cdf S hi y
high_rises S hi x y s h =
    over_le _ _ _ _ s s (mul-le-mul_right S (omega (arith, below_grows (suc x) (suc y) hi (omega arith))))
