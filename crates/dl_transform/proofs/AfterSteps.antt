-- One step of a pass at a node of a right table: what it makes of the two halves of a list.
use Rattle.dl_transform.proofs.Common.{ℕ, ◌≡◌, ◌+◌, ◌-◌, ◌*◌, ◌/◌, ◌^◌, ◌<◌, ◌≤◌, List, ◌++◌, ◌∙◌, take, drop, length, slice_index, get_or, ap, arith, refl, sym, length-take, Same, eval, point, IsTable, length-drop, AreBelow, AreHalves, AreItemsBelow, AreValuesBelow, IsPart, Table}
use Rattle.dl_transform.proofs.Parts.{below, take_small, drop_small, roots_small, values_step, items_step}
use Rattle.dl_transform.proofs.Residues.{same_refl}
use Rattle.dl_transform.proofs.Wholes.{undone}

-- the two halves of a list for the lowest nodes below a node, where levels are left
pub record AreParts (t : Table) (levels node b : ℕ) (x low high : List ℕ) : Type 0 where
  pub first : IsPart t (2 ^ (levels - 1)) (2 * node) b low
  pub second : IsPart t (2 ^ (levels - 1)) (2 * node + 1) b high
  pub inside : node < length t.roots.items
  pub twice : 2 ^ levels ≡ 2 ^ (levels - 1) * 2
  pub front : low ≡ take (2 ^ (levels - 1)) x
  pub back : high ≡ drop (2 ^ (levels - 1)) x

pub part_inside : {t : Table} {levels node b : ℕ} {x : List ℕ} → (levels ≡ 0 → ⊥) → IsPart t (2 ^ levels) node b x
    → node < length t.roots.items
part_inside {t = t} {levels = levels} {node = node} {b = b} {x = x} some part =
    (below levels node (length t.roots.items) (length x) some part.within part.size).inside

pub split_part : (t : Table) (levels node b half : ℕ) (x low high : List ℕ) → (levels ≡ 0 → ⊥)
    → IsPart t (2 ^ levels) node b x → half ≡ length x / 2 → low ≡ take half x → high ≡ drop half x
    → AreParts t levels node b x low high
split_part t levels node b half x low high some part e front back =
    let h = below levels node (length t.roots.items) (length x) some part.within part.size in
    record {
      first = record {
        table = part.table;
        size = rw front (omega (arith, length-take half x, h.half, e));
        within = h.first;
        small = rw front (take_small half b x part.small);
      };
      second = record {
        table = part.table;
        size = rw back (omega (arith, length-drop half x, h.rest, e));
        within = h.second;
        small = rw back (drop_small half b x part.small);
      };
      inside = h.inside;
      twice = h.twice;
      front = front ∙ ap (λ t. take t x) (e ∙ h.half);
      back = back ∙ ap (λ t. drop t x) (e ∙ h.half);
    }

pub halves_of : {t : Table} {levels node b : ℕ} {x low high : List ℕ} → AreParts t levels node b x low high
    → AreHalves b low high
halves_of parts = record {
  alike = parts.second.size ∙ sym parts.first.size;
  low_small = parts.first.small;
  high_small = parts.second.small;
}

-- a list that has been changed stays one for the same nodes
pub changed_part : {t : Table} {n node b : ℕ} {xs : List ℕ} (ys : List ℕ) → IsPart t n node b xs
    → length ys ≡ length xs → AreBelow b ys → IsPart t n node b ys
changed_part ys part alike small =
    record { table = part.table; size = alike ∙ part.size; within = part.within; small = small }

pub tree : {t : Table} → IsTable t → (k : ℕ) → k < length t.roots.items
    → Same t.p (slice_index t.roots.items k * slice_index t.roots.items k) (point t.p t.roots.items k)
tree right k h = (right.root k h).square

pub small_roots : {t : Table} → IsTable t → (k : ℕ) → slice_index t.roots.items k ≤ t.p
small_roots {t = t} right = roots_small t.p t.roots.items (λ k h. (right.root k h).factor.below)

module _ (t : Table) (levels node bound : ℕ) (x a b : List ℕ) (parts : AreParts t levels node bound x a b) where
  abbrev p : ℕ
  p = t.p

  abbrev roots : List ℕ
  roots = t.roots.items

  abbrev m : ℕ
  m = 2 ^ (levels - 1)

  both_within : (node + 1) * (m * 2) ≤ 2 * length roots
  both_within = omega (arith, parts.second.within)

  -- towards values, by the root r of the node
  pub values_after : (r : ℕ) (low high first second : List ℕ) → r ≡ slice_index roots node
      → ((i : ℕ) → i < length a → Same p (get_or low i 0) (get_or a i 0 + r * get_or b i 0))
      → ((i : ℕ) → i < length a → Same p (get_or high i 0) (get_or a i 0 + (p - r) * get_or b i 0))
      → length first ≡ m
      → AreValuesBelow t m (2 * node) (λ i. get_or low i 0) first
      → AreValuesBelow t m (2 * node + 1) (λ i. get_or high i 0) second
      → AreValuesBelow t (2 ^ levels) node (λ i. get_or x i 0) (first ++ second)
  values_after r low high first second is lows highs len firsts seconds =
      values_step p node m (2 ^ levels) roots x a b low high first second (levels - 1) refl parts.twice
      (tree parts.first.table) (small_roots parts.first.table) both_within parts.front parts.back
      (λ i h. rw is at (lows i (rw parts.first.size h))) (λ i h. rw is at (highs i (rw parts.first.size h)))
      len firsts seconds

  -- back towards items, by its inverse v
  pub items_after : (v : ℕ) (low high first second : List ℕ) → v ≡ slice_index t.inverses.items node
      → AreItemsBelow t m (2 * node) a low → AreItemsBelow t m (2 * node + 1) b high
      → length low ≡ m → length first ≡ m
      → ((i : ℕ) → i < length low → Same p (get_or first i 0) (get_or low i 0 + get_or high i 0))
      → ((i : ℕ) → i < length low → Same p (get_or second i 0 + v * get_or high i 0) (v * get_or low i 0))
      → AreItemsBelow t (2 ^ levels) node x (first ++ second)
  items_after v low high first second is lowered raised long len firsts seconds =
      items_step p node m (2 ^ levels) v roots x a b low high first second (levels - 1) refl parts.twice
      (omega (arith, parts.first.table.modulus.large)) (tree parts.first.table) (small_roots parts.first.table)
      both_within (rw is (parts.first.table.root node parts.inside).inverse)
      parts.front parts.back lowered raised len
      (λ i h. firsts i (rw long h)) (λ i h. seconds i (rw long h))

-- values over 2^64, brought back to items, are those of the polynomial that has them, once they are scaled
pub items_back : (t : Table) (l : ℕ) (h : ℕ → ℕ) (z v : List ℕ) → IsTable t → l < length t.scales.items
    → ((f : ℕ → ℕ) → ((k : ℕ) → k < 2 ^ l → Same t.p (get_or z k 0)
    (eval (2 ^ l) f (point t.p t.roots.items (0 * 2 ^ l + k)))) → (k : ℕ) → k < 2 ^ l
    → Same t.p (get_or v k 0) (2 ^ l * f k))
    → ((k : ℕ) → k < 2 ^ l → Same t.p (get_or z k 0 * 2 ^ 64) (eval (2 ^ l) h (point t.p t.roots.items k)))
    → (k : ℕ) → k < 2 ^ l → Same t.p (get_or v k 0 * slice_index t.scales.items l) (h k)
items_back t l h z v right inside back known =
    let n = 2 ^ l in
    let g : ℕ → ℕ = λ k. eval n h (point t.p t.roots.items k) in
    undone t.p n (2 ^ 64) t.unit (get_or t.scales.items l 0) h (λ k. get_or z k 0) (λ k. get_or v k 0)
    g (λ k. point t.p t.roots.items k) right.unit ((right.scale l inside).same)
    known (λ k b. same_refl t.p (g k)) (λ f g. back f (λ k b. rw (place n k) (g k b)))
  where
    place : (n k : ℕ) → 0 * n + k ≡ k
    place n k = omega arith
