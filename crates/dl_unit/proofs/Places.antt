-- At how many places listed amounts lie.
use Rattle.dl_unit.proofs.Common.{ℕ, zero, suc, ◌≡◌, ◌+◌, ◌≤◌, List, [], ◌∷◌, length, arith, inl, inr, ap, min, cases_lt, ne_eqb, count_below, below_same, below_le, below_plus, below_constant, Item, weight_at, ◌≢◌, ◌==◌, if◌then◌else◌, sum_by-cons}

-- the weight w at the place a alone
abbrev pub at_place : (a w : ℕ) → ℕ → ℕ
at_place a w y = if a == y then w else 0

elsewhere : (a w y : ℕ) → a ≢ y → min (at_place a w y) 1 ≡ 0
elsewhere a w y other = ap (λ b. min (if b then w else 0) 1) (ne_eqb a y other)

none_before : (n a w : ℕ) → n ≤ a → count_below n (λ y. min (at_place a w y) 1) ≡ 0
none_before n a w before =
    let same = below_same n (λ y. min (at_place a w y) 1) (λ y. 0)
    (λ y h. elsewhere a w y (λ e. absurd (omega (arith, h, e)))) in
    omega (arith, same, below_constant n 0)

one_place : (n a w : ℕ) → count_below n (λ y. min (at_place a w y) 1) ≤ 1
unfolding count_below
one_place zero a w = omega arith
one_place (suc n) a w = elim (cases_lt a n) [
  | inl before ↦ omega (arith, one_place n a w, elsewhere a w n (λ e. absurd (omega (arith, before, e))))
  | inr here ↦ omega (arith, none_before n a w here)
]

-- no more than there are items
pub places : (items : List Item) (n : ℕ) → count_below n (λ y. min (weight_at items y) 1) ≤ length items
places [] n = omega (arith, below_constant n 0)
places (item ∷ items) n =
    let each = below_le n (λ y. min (weight_at (item ∷ items) y) 1)
    (λ y. min (at_place item.amount item.weight y) 1 + min (weight_at items y) 1)
    (λ y h. omega (arith, sum_by-cons (λ (i : Item). if i.amount == y then i.weight else 0) item items)) in
    omega (
      arith,
      each,
      below_plus n (λ y. min (at_place item.amount item.weight y) 1) (λ y. min (weight_at items y) 1),
      one_place n item.amount item.weight,
      places items n,
    )
