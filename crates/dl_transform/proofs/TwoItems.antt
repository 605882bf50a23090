-- One step of a pass at two items.
use Rattle.dl_transform.proofs.Common.{ℕ, ◌≡◌, ◌+◌, ◌-◌, ◌*◌, ◌<◌, inl, inr, List, ◌∙◌, length, slice_index, get_or, arith, cases_lt, set_each, Same, eval, point, set, get_or-set_same, get_or-set_other, length-set, AreBelow, AreItemsBelow, AreValuesBelow, IsPart, Table}
use Rattle.dl_transform.proofs.AfterSteps.{small_roots}
use Rattle.dl_transform.proofs.Halves.{high_back, low_back}
use Rattle.dl_transform.proofs.Nodes.{point_even, point_odd}
use Rattle.dl_transform.proofs.Residues.{same_of, same_trans}

module _ (t : Table) (node bound : ℕ) (x : List ℕ) (part : IsPart t 2 node bound x) where
  abbrev p : ℕ
  p = t.p

  abbrev roots : List ℕ
  roots = t.roots.items

  first_set : (a b : ℕ) → get_or (set (set x 0 a) 1 b) 0 0 ≡ a
  first_set a b =
      get_or-set_other (set x 0 a) 1 0 b 0 (λ e. absurd (omega (arith, e)))
      ∙ get_or-set_same x 0 a 0 (omega (arith, part.size))

  second_set : (a b : ℕ) → get_or (set (set x 0 a) 1 b) 1 0 ≡ b
  second_set a b = get_or-set_same (set x 0 a) 1 b 0 (rw length-set (omega (arith, part.size)))

  pub two_small : (a b : ℕ) → a < bound → b < bound → AreBelow bound (set (set x 0 a) 1 b)
  two_small a b small other =
      set_each (λ _ v. v < bound) (set x 0 a) 1 b (rw length-set (omega (arith, part.size)))
      (set_each (λ _ v. v < bound) x 0 a (omega (arith, part.size)) part.small small) other

  inside : node < length roots
  inside = omega (arith, part.within)

  -- the values at the two nodes
  first_value : (f : ℕ → ℕ) → eval 2 f (point p roots (node * 2 + 0)) ≡ f 0 + slice_index roots node * f 1
  unfolding eval
  first_value f =
      let e : node * 2 + 0 ≡ 2 * node = omega arith in
      rw (e, point_even p roots node) (omega arith)

  second_value : (f : ℕ → ℕ) → eval 2 f (point p roots (node * 2 + 1)) ≡ f 0 + (p - slice_index roots node) * f 1
  unfolding eval
  second_value f =
      let e : node * 2 + 1 ≡ 2 * node + 1 = omega arith in
      rw (e, point_odd p roots node) (omega arith)

  pub two_values : (r a b : ℕ) → r ≡ slice_index roots node → Same p a (get_or x 0 0 + r * get_or x 1 0)
      → Same p b (get_or x 0 0 + (p - r) * get_or x 1 0)
      → AreValuesBelow t 2 node (λ i. get_or x i 0) (set (set x 0 a) 1 b)
  two_values r a b is first second k below = elim (cases_lt k 1) [
    | inl h ↦
        let e : k ≡ 0 = omega (arith, h) in
        rw (e, first_set a b, first_value (λ i. get_or x i 0)) (rw is at first)
    | inr h ↦
        let e : k ≡ 1 = omega (arith, h, below) in
        rw (e, second_set a b, second_value (λ i. get_or x i 0)) (rw is at second)
  ]

  pub two_items : (v a b : ℕ) → v ≡ slice_index t.inverses.items node → Same p a (get_or x 0 0 + get_or x 1 0)
      → Same p (b + v * get_or x 1 0) (v * get_or x 0 0) → AreItemsBelow t 2 node x (set (set x 0 a) 1 b)
  two_items v a b is first second f known k below =
      let c = slice_index roots node in
      let one : (y : ℕ) → y ≡ 1 * y = λ y. omega arith in
      let low : Same p (get_or x 0 0) (1 * (f 0 + c * f 1)) =
      same_trans (known 0 (omega arith)) (same_of p (first_value f ∙ one (f 0 + c * f 1))) in
      let high : Same p (get_or x 1 0) (1 * (f 0 + (p - c) * f 1)) =
      same_trans (known 1 (omega arith)) (same_of p (second_value f ∙ one (f 0 + (p - c) * f 1))) in
      elim (cases_lt k 1) [
        | inl h ↦
            let e : k ≡ 0 = omega (arith, h) in
            rw (e, first_set a b) (low_back p 1 (f 0) (f 1) c (get_or x 0 0) (get_or x 1 0) a
            (small_roots part.table node) low high first)
        | inr h ↦
            let e : k ≡ 1 = omega (arith, h, below) in
            rw (e, second_set a b) (high_back p 1 (f 0) (f 1) c v (get_or x 0 0) (get_or x 1 0) b
            (omega (arith, part.table.modulus.large)) (small_roots part.table node)
            (rw is (part.table.root node inside).inverse) low high second)
      ]
