-- The constants of a transform. The nodes at each level of a binary tree are counted from 0 on;
-- below node k lie the nodes 2 * k and 2 * k + 1 of the next level. Nodes that are counted alike
-- have one number at all levels. A transform turns items into the values of their polynomial at the
-- numbers of the lowest nodes.
use Rattle.std.specs.Prelude.{ℕ, ◌≡◌, ◌+◌, ◌-◌, ◌*◌, ◌/◌, ◌%◌, ◌^◌, ◌<◌, ◌≤◌, ◌==◌, if◌then◌else◌}
use Rattle.std.specs.Prelude.{List, length, slice_index}
use Rattle.dl_transform.specs.Residue.{Same, IsFactor, IsModulus, IsPair}
use Rattle.dl_transform.specs.Polynomial.{eval}
use Rattle.dl_transform.specs.declared.tables.Table.{Table}

-- the number at node k: the root above it on the left, and what that root lacks of p on the right
unfoldable pub point : ℕ → List ℕ → ℕ → ℕ
point p roots k = if k % 2 == 0 then slice_index roots (k / 2) else p - slice_index roots (k / 2)

-- the value of a polynomial of n items at the number of node k
abbrev pub value_at : Table → ℕ → (ℕ → ℕ) → ℕ → ℕ
value_at t n f k = eval n f (point t.p t.roots.items k)

-- root k, its inverse and their quotients are right: the square of root k is the number at node k
abbrev pub IsRoot : Table → ℕ → Type 0
IsRoot t k = IsPair t.p
    (slice_index t.roots.items k) (slice_index t.quotients.items k)
    (slice_index t.inverses.items k) (slice_index t.inverse_quotients.items k)
    (point t.p t.roots.items k)

-- the scale of l levels undoes 2^l and the unit
pub record IsScale (t : Table) (l : ℕ) : Type 0 where
  pub factor : IsFactor t.p (slice_index t.scales.items l) (slice_index t.scale_quotients.items l)
  pub same : Same t.p (t.unit * 2 ^ l * slice_index t.scales.items l) 1

-- all constants are right
pub record IsTable (t : Table) : Type 0 where
  pub modulus : IsModulus t.p
  pub few : length t.roots.items ≤ 2 ^ 40
  pub quotients_alike : length t.quotients.items ≡ length t.roots.items
  pub inverses_alike : length t.inverses.items ≡ length t.roots.items
  pub inverse_quotients_alike : length t.inverse_quotients.items ≡ length t.roots.items
  pub root : (k : ℕ) → k < length t.roots.items → IsRoot t k
  pub montgomery : (t.p * t.minus_inverse + 1) % 2 ^ 64 ≡ 0
  pub unit : Same t.p (t.unit * 2 ^ 64) 1
  pub levels : length t.scales.items ≤ 40
  pub scale_quotients_alike : length t.scale_quotients.items ≡ length t.scales.items
  pub scale : (l : ℕ) → l < length t.scales.items → IsScale t l
