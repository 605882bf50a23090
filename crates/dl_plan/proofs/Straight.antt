-- Between the ends of its layers, what a clause keeps is a straight line.
use Rattle.dl_plan.proofs.Common.{ℕ, ◌≡◌, ◌+◌, ◌*◌, ◌/◌, ◌≤◌, ◌⊎◌, List, [], ◌∷◌, Option, Some, None, true, false, refl, ap, arith, inl, inr, All, sum_by, All-head, All-tail, sum_by-cons, CedeLayer, Clause, layer, IsClause, edge_of, edge, layer_parts, kept_parts}
use Rattle.dl_plan.proofs.Apart.{ceded_le}

-- b is not between x and y
abbrev pub IsOutside : ℕ → ℕ → ℕ → Type 0
IsOutside x y b = (b ≤ x) ⊎ (y ≤ b)

-- neither end of the layer is between x and y
pub record IsClear (x y : ℕ) (l : CedeLayer) : Type 0 where
  pub attach : IsOutside x y l.attach
  pub edge : IsOutside x y (edge l)

layer_straight : (limit : Option ℕ) (a x s : ℕ) → IsOutside x (x + 2 * s) a → IsOutside x (x + 2 * s) (edge_of limit a)
    → layer limit a x + layer limit a (x + 2 * s) ≡ 2 * layer limit a (x + s)
layer_straight None a x s (inl p) q = omega (arith, p)
layer_straight None a x s (inr p) q = omega (arith, p)
layer_straight (Some l) a x s (inl p) (inl q) = omega (arith, p, q)
layer_straight (Some l) a x s (inl p) (inr q) = omega (arith, p, q)
layer_straight (Some l) a x s (inr p) q = omega (arith, p)

ceded_straight : (c x s : ℕ) (ls : List CedeLayer) → All (IsClear x (x + 2 * s)) ls
    → sum_by (layer_parts c x) ls + sum_by (layer_parts c (x + 2 * s)) ls ≡ 2 * sum_by (layer_parts c (x + s)) ls
ceded_straight c x s [] clear = refl
ceded_straight c x s (l ∷ ls) clear =
    let here = All-head (IsClear x (x + 2 * s)) l ls clear in
    omega (
      arith,
      sum_by-cons (layer_parts c x) l ls,
      sum_by-cons (layer_parts c (x + 2 * s)) l ls,
      sum_by-cons (layer_parts c (x + s)) l ls,
      ap (λ n. l.share.num * (c / l.share.den) * n) (layer_straight l.limit l.attach x s here.attach here.edge),
      ceded_straight c x s ls (All-tail (IsClear x (x + 2 * s)) l ls clear),
    )

-- with no end between x and x + 2s, the middle value is the mean of the outer ones
pub kept_straight : (clause : Clause) (c x s : ℕ) → IsClause clause → All (IsClear x (x + 2 * s)) clause.1
    → kept_parts clause c x + kept_parts clause c (x + 2 * s) ≡ 2 * kept_parts clause c (x + s)
kept_straight (true, layers) c x s accepted clear =
    omega (
      arith,
      ceded_straight c x s layers clear,
      ceded_le (true, layers) c x accepted,
      ceded_le (true, layers) c (x + s) accepted,
      ceded_le (true, layers) c (x + 2 * s) accepted,
    )
kept_straight (false, layers) c x s accepted clear = ceded_straight c x s layers clear
