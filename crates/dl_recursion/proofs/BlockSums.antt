-- What the cells before a cell give to it, where each amount counts by itself alone.
use Rattle.std.proofs.lemmas.List.Sums.{sum_by_more_le_part}
use Rattle.std.proofs.Common.{get_or-take}
use Rattle.dl_exact.proofs.Counts.{below_grows, below_more, below_pairs, below_rest, below_same, nothing_times, pairs_same}
use Rattle.dl_transform.specs.Ends.{high_sum, low_sum}
use Rattle.dl_recursion.proofs.Common.{◌≡◌, ◌≢◌, inl, inr, ℕ, suc, zero, ◌+◌, ◌-◌, ◌*◌, ◌^◌, ◌<◌, ◌≤◌, List, [], length, take, get_or, set, arith, refl, sym, ap, ap₂, ◌∙◌, le-max_right, max, cond, nat_eq, cases_eq, eqb_tells, add-zero, get_or_past, get_or-set_other, get_or-set_same, mul-le-mul, mul-le-mul_left, mul-le-mul_right, sum_by, sum_by_more, All, Part, part_at, part_sum, contribution, HasRoom, count_below, count_pairs}
use Rattle.dl_recursion.specs.declared.cells.ScaledCells.{ScaledCells}
use Rattle.dl_recursion.specs.declared.blocks.Given.{Given}
use Rattle.dl_recursion.specs.Recursion.{HasCellsAs}
use Rattle.dl_recursion.specs.Blocks.{AreFactors, AreGivenBefore, AreWidths, given_by}
use Rattle.dl_recursion.proofs.Pairs.{contribution_pairs}
use Rattle.dl_recursion.proofs.Runs.{contributions_top}

-- ---- sums over pairs

pairs_last : (n : ℕ) (f : ℕ → ℕ → ℕ) → count_pairs (suc n) f ≡ count_pairs n (λ i j. f i (suc j)) + f (suc n) zero
unfolding count_pairs
pairs_last zero f = omega arith
pairs_last (suc n) f = omega (arith, pairs_last n (λ i j. f (suc i) j))

pairs_turn : (n : ℕ) (f : ℕ → ℕ → ℕ) → count_pairs n (λ i j. f j i) ≡ count_pairs n f
unfolding count_pairs
pairs_turn zero f = refl
pairs_turn (suc n) f =
    omega (arith, pairs_turn n (λ i j. f i (suc j)), pairs_last n f)

-- where the first numbers are 0 from m on
pairs_first : (m n : ℕ) (f g : ℕ → ℕ) → m ≤ n → ((k : ℕ) → m ≤ k → f k ≡ 0)
    → count_pairs n (λ i j. f i * g j) ≡ count_below m (λ k. f k * g (n - k))
pairs_first m n f g h none =
    sym (below_pairs n (λ i j. f i * g j))
    ∙ below_rest m (suc n) (λ k. f k * g (n - k)) (omega (arith, h)) (λ k l b. nothing_times (f k) (g (n - k)) (none k l))

-- ---- a product of cells and the first factors

module _ (factors : List ℕ) (m n end : ℕ) (within : m ≤ n) (before : n < end) where
  first_factors : (cells : List ℕ) → length cells ≡ m
      → count_pairs n (λ i j. get_or cells i 0 * get_or (take end factors) j 0) ≡ given_by m cells factors n
  first_factors cells count =
      pairs_first m n (λ i. get_or cells i 0) (λ j. get_or (take end factors) j 0) within
      (λ k l. get_or_past cells k 0 (omega (arith, count, l)))
      ∙ below_same m _ _ (λ k b. ap (λ t. get_or cells k 0 * t)
      (get_or-take end factors (n - k) 0 (omega (arith, before))))

  pub low_given : (cells : List ℕ) → length cells ≡ m → low_sum cells (take end factors) n ≡ given_by m cells factors n
  low_given cells count = first_factors cells count

  pub high_given : (low high widths : List ℕ) → length high ≡ m → AreWidths low high widths
      → high_sum low widths (take end factors) [] n ≡ given_by m high factors n
  high_given low high widths count are =
      pairs_same n _ _ (λ i j. ap (λ t. t * (get_or (take end factors) j 0 + 0)) (sym (are.each i))
      ∙ ap (λ t. get_or high i 0 * t) (add-zero (get_or (take end factors) j 0)))
      ∙ first_factors high count

-- the sums of a product, for the cells of a block
pub given_made : (factors : List ℕ) (x : ScaledCells) (end : ℕ) (given : Given) (lows widths wide low high : List ℕ)
    → given.cells ≡ length x.low.items → length x.high.items ≡ length x.low.items
    → lows ≡ x.low.items → AreWidths x.low.items x.high.items widths → wide ≡ take end factors
    → given.low.items ≡ low → given.high.items ≡ high → length low ≡ end → length high ≡ end
    → ((n : ℕ) → n < end → get_or low n 0 ≡ low_sum lows wide n)
    → ((n : ℕ) → n < end → get_or high n 0 ≡ high_sum lows widths wide [] n) → AreGivenBefore factors x given
given_made factors x end given lows widths wide low high m alike lows_is widths_are wide_is low_is high_is low_end high_end
    low_sums high_sums = record {
      within = omega (arith, m);
      alike = ap length high_is ∙ high_end ∙ sym low_end ∙ sym (ap length low_is);
      low = λ n p q.
          let b : n < end = rw (← low_end, ← low_is) q in
          ap (λ t. get_or t n 0) low_is ∙ low_sums n b ∙ ap₂ (λ u v. low_sum u v n) lows_is wide_is
          ∙ low_given factors given.cells n end p b x.low.items (sym m);
      high = λ n p q.
          let b : n < end = rw (← low_end, ← low_is) q in
          ap (λ t. get_or t n 0) high_is ∙ high_sums n b ∙ ap₂ (λ u v. high_sum u widths v [] n) lows_is wide_is
          ∙ high_given factors given.cells n end p b x.low.items x.high.items widths (alike ∙ sym m) widths_are;
    }

-- ---- what is given stays given

pub given_nothing : (factors : List ℕ) (x : ScaledCells) (given : Given) → given.cells ≡ 0 → given.low.items ≡ []
    → given.high.items ≡ [] → AreGivenBefore factors x given
given_nothing factors x given m low high = record {
  within = omega (arith, m);
  alike = ap length high ∙ sym (ap length low);
  low = λ n p q. absurd (omega (arith, q, ap length low));
  high = λ n p q. absurd (omega (arith, q, ap length low));
}

-- with the same cells and more
pub given_kept : (factors : List ℕ) (x y : ScaledCells) (given : Given) → HasCellsAs x y
    → length x.low.items ≤ length y.low.items → AreGivenBefore factors x given → AreGivenBefore factors y given
given_kept factors x y given same more are = record {
  within = omega (arith, more, are.within);
  alike = are.alike;
  low = λ n p q. are.low n p q ∙ below_same given.cells _ _ (λ k b. ap (λ t. t * get_or factors (n - k) 0)
      (sym (same.low k (omega (arith, b, are.within)))));
  high = λ n p q. are.high n p q ∙ below_same given.cells _ _ (λ k b. ap (λ t. t * get_or factors (n - k) 0)
      (sym (same.high k (omega (arith, b, are.within)))));
}

-- ---- what all cells give

module _ (b : ℕ) (parts : List Part) (amounts : All (λ p. 0 < p.amount) parts) (cells factors : List ℕ) (c : ℕ)
    (are : AreFactors parts b c factors) where
  one_given : (k i x w f : ℕ) → f ≡ b * i * w → (0 * k + b * i) * w * x ≡ x * f
  one_given k i x w f e = omega (arith, ap (λ t. x * t) e)

  pub all_given : (s : ℕ) → 0 < s → s < c → sum_by (contribution 0 b cells s) parts ≡ given_by s cells factors s
  all_given zero some within = absurd (omega (arith, some))
  all_given (suc n) some within =
      let f : ℕ → ℕ → ℕ = λ k i. (0 * k + b * suc i) * part_at parts (suc i) * get_or cells k 0 in
      contribution_pairs 0 b n cells parts amounts ∙ pairs_turn n f ∙ sym (below_pairs n f)
      ∙ below_same (suc n) _ _ (λ k l.
      let j : ℕ = suc n - k in
      let e : suc (n - k) ≡ j = omega (arith, l) in
      ap (λ t. (0 * k + b * t) * part_at parts t * get_or cells k 0) e
      ∙ one_given k j (get_or cells k 0) (part_at parts j) (get_or factors j 0) (are.each j (omega (arith, l, within))))

  pub given_room : (s k : ℕ) → 0 < s → s < c → k ≤ s → ((k : ℕ) → get_or cells k 0 ≤ 2 ^ 62)
      → HasRoom 0 b (part_sum parts) s → given_by k cells factors s ≤ 2 ^ 126
  given_room s k some within l small room =
      omega (
        arith,
        below_grows k s (λ k. get_or cells k 0 * get_or factors (s - k) 0) l,
        all_given s some within,
        contributions_top 0 b s cells small parts room.weights,
      )

-- with one cell more
pub next_given : (k s : ℕ) (cells factors : List ℕ) (sum x f : ℕ) → sum ≡ given_by k cells factors s
    → x ≡ get_or cells k 0 → f ≡ get_or factors (s - k) 0 → sum + x * f ≡ given_by (k + 1) cells factors s
next_given k s cells factors sum x f p q r =
    ap₂ (λ u v. u + v) p (ap₂ (λ u v. u * v) q r)
    ∙ sym (below_more k (λ k. get_or cells k 0 * get_or factors (s - k) 0))

-- ---- factors

module _ (b n : ℕ) (parts : List Part) (i : ℕ) (d : Part) (inside : i < length parts) where
  abbrev at : ℕ → Part → ℕ
  at j p = cond (nat_eq p.amount j) p.weight 0

  at_le : (j : ℕ) (p : Part) → at j p ≤ p.weight
  at_le j p = grind (arith, eqb_tells p.amount j)

  pub factor_room : (j : ℕ) → j ≤ n → HasRoom 0 b (part_sum parts) n
      → b * j * part_at (take i parts) j + b * j * (get_or parts i d).weight < 2 ^ 64
  factor_room j l room =
      let w = part_at (take i parts) j + (get_or parts i d).weight in
      let fits : w ≤ part_sum parts = sum_by_more_le_part (at j) (λ p. p.weight) parts i d inside (at_le j) in
      let most : b * j ≤ max 0 b * n = mul-le-mul (le-max_right 0 b) l in
      omega (arith, room.weights, mul-le-mul_left (b * j) fits, mul-le-mul_right (part_sum parts) most)

  pub factor_past : (j : ℕ) → (get_or parts i d).amount ≢ j
      → b * j * part_at (take i parts) j ≡ b * j * part_at (take (i + 1) parts) j
  factor_past j off =
      let none : at j (get_or parts i d) ≡ 0 = grind (arith, eqb_tells (get_or parts i d).amount j) in
      ap (λ t. b * j * t) (omega (arith, none, sum_by_more (at j) parts i d inside))

  pub factor_added : (factors : List ℕ) (x : ℕ) → length factors ≡ n → (get_or parts i d).amount < n
      → ((j : ℕ) → j < n → get_or factors j 0 ≡ b * j * part_at (take i parts) j)
      → x ≡ get_or factors (get_or parts i d).amount 0 + b * (get_or parts i d).amount * (get_or parts i d).weight
      → (j : ℕ) → j < n
      → get_or (set factors (get_or parts i d).amount x) j 0 ≡ b * j * part_at (take (i + 1) parts) j
  factor_added factors x count l each e j h =
      let p : Part = get_or parts i d in
      elim (cases_eq p.amount j) [
        | inl same ↦
            let all : at p.amount p ≡ p.weight = grind (arith, eqb_tells p.amount p.amount) in
            let w : part_at (take (i + 1) parts) p.amount ≡ part_at (take i parts) p.amount + p.weight =
            omega (arith, all, sum_by_more (at p.amount) parts i d inside) in
            ap (λ t. get_or (set factors p.amount x) t 0) (sym same)
            ∙ get_or-set_same factors p.amount x 0 (omega (arith, count, l)) ∙ e
            ∙ omega (arith, each p.amount l, ap (λ t. b * p.amount * t) w)
            ∙ ap (λ t. b * t * part_at (take (i + 1) parts) t) same
        | inr off ↦ get_or-set_other factors p.amount j x 0 (λ e. off (sym e)) ∙ each j h ∙ factor_past j off
      ]
