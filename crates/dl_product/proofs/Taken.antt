-- The first cells of a grid as the ends of its head.
use Rattle.dl_product.proofs.Common.{ℕ, ◌≡◌, ◌<◌, ◌≤◌, List, length, get_or, take, arith, sym, ◌∙◌, inl, inr, cases_lt, get_or_past, get_or-take, length-take, most_cells, most_cell_end, AreHeadEnds}

-- the first e of the first n items of a list
module _ (xs : List ℕ) (n e : ℕ) (inside : n ≤ length xs) (within : e ≤ n) where
  pub taken_long : length (take e (take n xs)) ≡ e
  taken_long = omega (arith, length-take e (take n xs), length-take n xs)

  pub taken_at : (k d : ℕ) → k < e → get_or (take e (take n xs)) k d ≡ get_or xs k d
  taken_at k d b = get_or-take e (take n xs) k d b ∙ get_or-take n xs k d (omega (arith, b, within))

  pub taken_past : (k d : ℕ) → e ≤ k → get_or (take e (take n xs)) k d ≡ d
  taken_past k d past = get_or_past (take e (take n xs)) k d (omega (arith, taken_long, past))

pub head_ends : (lows highs : List ℕ) (n e : ℕ) → n ≤ length lows → n ≤ length highs → e ≤ n → n ≤ most_cells
    → ((k : ℕ) → get_or lows k 0 ≤ get_or highs k 0) → ((k : ℕ) → get_or highs k 0 ≤ most_cell_end)
    → AreHeadEnds (take e (take n lows)) (take e (take n highs))
head_ends lows highs n e first second within few order small = record {
  paired = record {
    alike = taken_long highs n e second within ∙ sym (taken_long lows n e first within);
    order = λ k. elim (cases_lt k e) [
      | inl b ↦ omega (arith, taken_at lows n e first within k 0 b, taken_at highs n e second within k 0 b, order k)
      | inr past ↦ omega (arith, taken_past lows n e first within k 0 past)
    ];
  };
  few = omega (arith, taken_long lows n e first within, within, few);
  small = λ k. elim (cases_lt k e) [
    | inl b ↦ omega (arith, taken_at highs n e second within k 0 b, small k)
    | inr past ↦ omega (arith, taken_past highs n e second within k 0 past)
  ];
}
