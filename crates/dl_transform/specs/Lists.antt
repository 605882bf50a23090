-- Lists of remainders: their bounds, and the polynomial that they have the values or the items of.
use Rattle.std.specs.Prelude.{ℕ, ◌≡◌, ◌+◌, ◌*◌, ◌^◌, ◌<◌, ◌≤◌, List, length, slice_index}
use Rattle.dl_transform.specs.Residue.{Same}
use Rattle.dl_transform.specs.Table.{value_at, IsTable}
use Rattle.dl_transform.specs.declared.tables.Table.{Table}

-- each item is below b
abbrev pub AreBelow : ℕ → List ℕ → Type 0
AreBelow b xs = (i : ℕ) → slice_index xs i < b

-- n items, each below b
pub record IsListOf (n b : ℕ) (xs : List ℕ) : Type 0 where
  pub size : length xs ≡ n
  pub small : AreBelow b xs

-- the table is right, and has the roots and the scale of `levels` levels
pub record IsTableFor (t : Table) (levels : ℕ) : Type 0 where
  pub table : IsTable t
  pub inside : levels < length t.scales.items
  pub within : 2 ^ levels ≤ 2 * length t.roots.items

-- a list for the n lowest nodes below a node of a right table, its items below b
pub record IsPart (t : Table) (n node b : ℕ) (xs : List ℕ) : Type 0 where
  pub table : IsTable t
  pub size : length xs ≡ n
  pub within : (node + 1) * n ≤ 2 * length t.roots.items
  pub small : AreBelow b xs

-- two lists of one length, their items below b
pub record AreHalves (b : ℕ) (low high : List ℕ) : Type 0 where
  pub alike : length high ≡ length low
  pub low_small : AreBelow b low
  pub high_small : AreBelow b high

-- the items are the values of the polynomial f at the n lowest nodes below a node
abbrev pub AreValuesBelow : Table → (n node : ℕ) → (ℕ → ℕ) → List ℕ → Type 0
AreValuesBelow t n node f xs =
    (k : ℕ) → k < n → Same t.p (slice_index xs k) (value_at t n f (node * n + k))

-- ys are the items of the polynomial that has the values xs there, times n
abbrev pub AreItemsBelow : Table → (n node : ℕ) → (xs ys : List ℕ) → Type 0
AreItemsBelow t n node xs ys =
    (f : ℕ → ℕ) → AreValuesBelow t n node f xs
    → (k : ℕ) → k < n → Same t.p (slice_index ys k) (n * f k)

-- the first n items are, over 2^64 and modulo p, the numbers f
abbrev pub AreOver : ℕ → ℕ → (ℕ → ℕ) → List ℕ → Type 0
AreOver p n f xs = (i : ℕ) → i < n → Same p (slice_index xs i * 2 ^ 64) (f i)

-- the items are the values of the polynomial f at the lowest nodes
abbrev pub AreValues : Table → ℕ → (ℕ → ℕ) → List ℕ → Type 0
AreValues t levels f xs =
    (k : ℕ) → k < 2 ^ levels → Same t.p (slice_index xs k) (value_at t (2 ^ levels) f k)

-- the items, each times the scale of `levels` levels, are the numbers f
abbrev pub AreItems : Table → ℕ → (ℕ → ℕ) → List ℕ → Type 0
AreItems t levels f xs =
    (k : ℕ) → k < 2 ^ levels → Same t.p (slice_index xs k * slice_index t.scales.items levels) (f k)

-- the product at a place
abbrev pub product_at : (x y : List ℕ) → ℕ → ℕ
product_at x y i = slice_index x i * slice_index y i

-- what the product of two high ends has beyond that of the low ends x and y, with widths u and v
abbrev pub mixed_at : (x y u v : List ℕ) → ℕ → ℕ
mixed_at x y u v i =
    slice_index x i * slice_index v i + slice_index u i * (slice_index y i + slice_index v i)
