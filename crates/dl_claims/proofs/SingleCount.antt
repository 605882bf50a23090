-- A list of one number of claims.
use Rattle.dl_claims.proofs.Common.{ℕ, ◌≡◌, ◌^◌, ◌<◌, List, [], ◌∷◌, length, get_or, arith, sym, subst, inl, inr, eqb_tells, Fraction, over_same, one_pos, Iv, low_at, high_at, probability_at, fixed, IsWithinOne, Family, IsProper, compound, times_itself, GridEncloses, compound_proper, Item, weight_sum, true, false, fixed_claims, same_cells_enclosed}
use Rattle.std.proofs.Common.{nat_eq, ne_eqb}
use mathlib.Core.Path.{fun_ext}

-- surely that number
alike : (a n : ℕ) → a ≡ n → nat_eq n a ≡ true
alike a n e = elim (eqb_tells n a) [
  | inl p ↦ p.0
  | inr p ↦ absurd (p.1 (sym e))
]

surely : (item : Item) (n : ℕ) → 0 < weight_sum (item ∷ []) → probability_at (item ∷ []) n ≡ fixed item.amount n
surely item n pos = elim (eqb_tells item.amount n) [
  | inl p ↦ rw (p.0, alike item.amount n p.1) (over_same _ _ 1 1 (omega arith) one_pos (omega arith))
  | inr p ↦
      let other : nat_eq n item.amount ≡ false = ne_eqb n item.amount (λ e. p.1 (sym e)) in
      rw (p.0, other) (over_same _ _ 0 1 (omega arith) one_pos (omega arith))
]

pub single_count : {B : ℕ} (base : List (Iv B)) (items : List Item) (d : Item) (total : ℕ) (g : List (Iv B))
    → length items ≡ 1
    → weight_sum items ≡ total → 0 < total
    → ((F : Family) → IsProper F → GridEncloses base F → GridEncloses g (times_itself F (get_or items 0 d).amount))
    → (f : ℕ → Fraction) → IsWithinOne f → GridEncloses base (compound (fixed 1) f)
    → GridEncloses g (compound (probability_at items) f)
single_count base [] d total g one sum pos powers f q of_base = absurd (omega arith)
single_count base (i ∷ j ∷ items) d total g one sum pos powers f q of_base = absurd (omega arith)
single_count {B} base (i ∷ []) d total g one sum pos powers f q of_base =
    let there : 0 < weight_sum (i ∷ []) = omega arith in
    subst (λ w. GridEncloses g (compound w f)) (sym (fun_ext (λ n. surely i n there)))
    (same_cells_enclosed (2 ^ B) (length g) (low_at g) (high_at g) _ _ (fixed_claims f i.amount)
    (powers (compound (fixed 1) f) (compound_proper (fixed 1) f q) of_base))
