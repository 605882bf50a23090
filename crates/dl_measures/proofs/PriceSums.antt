-- The sum of the terms so far: what its ends hold, how far apart they lie, and how large they are.
use Rattle.dl_measures.proofs.Common.{ℕ, suc, ◌≡◌, ◌+◌, ◌-◌, ◌*◌, ◌^◌, ◌<◌, ◌≤◌, arith, sym, ap, ap₂, subst, subst₂, ◌∙◌, List, [], ◌∷◌, ◌++◌, length, take, drop, get_or, sum_by, take-append-drop, take_all, length-map, get_or-map, pow_pos, fun_ext, div_ceil, Fraction, whole, ◌over◌, ◌+ℚ◌, ◌*ℚ◌, ◌≤ℚ◌, over_plus, ring, le_refl, le_trans, le_plus, zero_le, zero_times, plus_zero, plus_comm, plus_le_both, times_le_both, whole_plus, times_one, le_whole, Iv, spread, Term, Series, AtLeast, AtMost, Holds, plus, Loss, AreDeclarable, PricedTerm, One, Mean, Tail, Price, score, partial_sums, total, GridEncloses, AreDeclared, IsQuantile, are_units, at_least_plus, at_most_plus, outcomes_rise, AreTermsOf, AreQuantiles, term_of, term_width, price_width, most_tail, take_more, sum_by-append, sum_over, sum_over_append, over_zero, price_sums}
use Rattle.dl_measures.proofs.Parts.{part_units}

abbrev weights : List Term → Fraction
weights terms = sum_over terms (λ t. t.weight)

-- what holds of each total that the grid encloses, of which `mean` holds the mean
abbrev pub OnTotals : {B : ℕ} → List (Iv B) → Iv B → (X : Type 0) → (List Loss → X → Type 0) → Type 0
OnTotals {B} grid mean X P = (us : List Loss) (x : X) → AreDeclared us → GridEncloses grid (total us)
    → Holds (partial_sums us Mean) (partial_sums us One) (mean.lo over 2 ^ B) (mean.hi over 2 ^ B) → P us x

-- the ends lo and hi of the sum of the first i terms, in units of 1 / 2^B
pub record IsSumOf {B : ℕ} (grid : List (Iv B)) (mean : Iv B) (terms : List Term) (i lo hi : ℕ) : Type 0 where
  pub most : OnTotals grid mean (List PricedTerm) (λ us priced. AreTermsOf terms priced
      → AreQuantiles (partial_sums us) priced
      → AtMost (partial_sums us (Price (take i priced))) (partial_sums us One) (hi over 2 ^ B))
  pub least : OnTotals grid mean (List PricedTerm) (λ us priced. AreTermsOf terms priced
      → AtLeast (partial_sums us (Price (take i priced))) (partial_sums us One) (lo over 2 ^ B))
  pub narrow : hi ≤ lo + price_width (take i terms) (mean.hi - mean.lo) (length grid) (spread grid)
  pub small : whole hi ≤ℚ whole most_tail *ℚ weights (take i terms) +ℚ whole i

-- ---- a term more

module _ (us : List Loss) (w : AreDeclarable us) where
  abbrev O : Series
  O = partial_sums us One

  abbrev term : PricedTerm → Series
  term t N = t.weight *ℚ partial_sums us (Tail t.p t.quantile) N

  term_rises : (t : PricedTerm) (N : ℕ) → term t N ≤ℚ term t (suc N)
  term_rises t N = times_le_both _ _ _ _ (le_refl t.weight) (outcomes_rise us w (score (Tail t.p t.quantile)) N)

  -- the price of a term more
  price_more : (ts : List PricedTerm) (t : PricedTerm)
      → partial_sums us (Price (ts ++ t ∷ [])) ≡ plus (partial_sums us (Price ts)) (term t)
  unfolding sum_over
  price_more ts t = fun_ext (λ N.
      price_sums us (ts ++ t ∷ []) N ∙ sum_over_append (λ t. term t N) ts (t ∷ [])
      ∙ ap₂ (λ a b. a +ℚ b) (sym (price_sums us ts N)) (plus_zero (term t N)))

  more_least : (S : ℕ) → 0 < S → (ts : List PricedTerm) (t : PricedTerm) (l m : ℕ)
      → AtLeast (partial_sums us (Price ts)) O (l over S) → AtLeast (term t) O (m over S)
      → AtLeast (partial_sums us (Price (ts ++ t ∷ []))) O ((l + m) over S)
  more_least S s ts t l m a b = subst₂ (λ Q x. AtLeast Q O x) (sym (price_more ts t)) (over_plus l m S s)
      (at_least_plus (partial_sums us (Price ts)) (term t) O (l over S) (m over S)
      (outcomes_rise us w (score (Price ts))) (term_rises t) a b)

  more_most : (S : ℕ) → 0 < S → (ts : List PricedTerm) (t : PricedTerm) (l m : ℕ)
      → AtMost (partial_sums us (Price ts)) O (l over S) → AtMost (term t) O (m over S)
      → AtMost (partial_sums us (Price (ts ++ t ∷ []))) O ((l + m) over S)
  more_most S s ts t l m a b = subst₂ (λ Q x. AtMost Q O x) (sym (price_more ts t)) (over_plus l m S s)
      (at_most_plus (partial_sums us (Price ts)) (term t) O (l over S) (m over S) a b)

  -- the price of none
  none_holds : (S : ℕ) → 0 < S → Holds (partial_sums us (Price [])) O (0 over S) (0 over S)
  unfolding sum_over
  none_holds S s = (
    λ N u b. subst (λ t. t ≤ℚ u) (sym (ap (λ t. t *ℚ O N) (over_zero S s) ∙ zero_times (O N))) (zero_le u),
    λ N u b. subst (λ t. t ≤ℚ 0 over S *ℚ u) (sym (price_sums us [] N)) (zero_le (0 over S *ℚ u)),
  )

weights_more : (ts : List Term) (t : Term) → weights (ts ++ t ∷ []) ≡ weights ts +ℚ t.weight
unfolding sum_over
weights_more ts t = sum_over_append (λ (t : Term). t.weight) ts (t ∷ [])
    ∙ ap (λ x. sum_over ts (λ t. t.weight) +ℚ x) (plus_zero t.weight)

-- ---- the walk

pub start : {B : ℕ} (grid : List (Iv B)) (mean : Iv B) (terms : List Term) → IsSumOf grid mean terms 0 0 0
unfolding sum_over
start {B} grid mean terms = record {
  most = λ us priced d e m is at. (none_holds us (are_units us d) (2 ^ B) (pow_pos B)).1;
  least = λ us priced d e m is. (none_holds us (are_units us d) (2 ^ B) (pow_pos B)).0;
  narrow = omega arith;
  small = zero_le _;
}

module _ {B : ℕ} {grid : List (Iv B)} {mean : Iv B} {terms : List Term} {i lo hi : ℕ} (t : Term)
    (sum : IsSumOf grid mean terms i lo hi) (inside : i < length terms) (here : get_or terms i t ≡ t) (l h : ℕ)
    (held : OnTotals grid mean ℕ (λ us q. IsQuantile (partial_sums us) q t.p
    → Holds (λ N. t.weight *ℚ partial_sums us (Tail t.p q) N) (partial_sums us One) (l over 2 ^ B) (h over 2 ^ B)))
    (least : OnTotals grid mean ℕ (λ us q.
    AtLeast (λ N. t.weight *ℚ partial_sums us (Tail t.p q) N) (partial_sums us One) (l over 2 ^ B)))
    (narrow : h - l ≤ term_width (mean.hi - mean.lo) (length grid) (spread grid) t)
    (small : h ≤ div_ceil (most_tail * t.weight.num) t.weight.den) where
  -- the priced term in its place
  last : PricedTerm
  last = record { weight = t.weight; p = t.p; quantile = 0 }

  in_place : (priced : List PricedTerm) → AreTermsOf terms priced
      → (i < length priced) × (term_of (get_or priced i last) ≡ t)
  in_place priced is =
      let long : i < length priced = omega (arith, length-map priced term_of, ap length is) in (
        long,
        sym (get_or-map term_of priced i last t long) ∙ ap (λ xs. get_or xs i t) is ∙ here,
      )

  one_more : (us : List Loss) (priced : List PricedTerm) (P : Series → Type 0) → AreTermsOf terms priced
      → P (partial_sums us (Price (take i priced ++ get_or priced i last ∷ [])))
      → P (partial_sums us (Price (take (i + 1) priced)))
  one_more us priced P is p =
      subst (λ ts. P (partial_sums us (Price ts))) (sym (take_more priced i last (in_place priced is).0)) p

  pub step : IsSumOf grid mean terms (i + 1) (lo + l) (hi + h)
  step = record {
    most = λ us priced d e m is at.
        let here' = in_place priced is in
        let k = get_or priced i last in
        let quantile = subst (λ (t : Term). IsQuantile (partial_sums us) k.quantile t.p) here'.1 (at i last here'.0) in
        one_more us priced (λ Q. AtMost Q (partial_sums us One) ((hi + h) over 2 ^ B)) is
        (more_most us (are_units us d) (2 ^ B) (pow_pos B) (take i priced) k hi h (sum.most us priced d e m is at)
        (subst (λ (t : Term). AtMost (λ N. t.weight *ℚ partial_sums us (Tail t.p k.quantile) N) (partial_sums us One)
        (h over 2 ^ B)) (sym here'.1) (held us k.quantile d e m quantile).1));
    least = λ us priced d e m is.
        let k = get_or priced i last in
        one_more us priced (λ Q. AtLeast Q (partial_sums us One) ((lo + l) over 2 ^ B)) is
        (more_least us (are_units us d) (2 ^ B) (pow_pos B) (take i priced) k lo l (sum.least us priced d e m is)
        (subst (λ (t : Term). AtLeast (λ N. t.weight *ℚ partial_sums us (Tail t.p k.quantile) N) (partial_sums us One)
        (l over 2 ^ B)) (sym (in_place priced is).1) (least us k.quantile d e m)));
    narrow =
        let width = term_width (mean.hi - mean.lo) (length grid) (spread grid) in
        omega (arith, narrow, ap (sum_by width) all, sum_by-append width (take i terms) (t ∷ []));
    small = subst₂ (λ x y. x ≤ℚ y) (sym (whole_plus hi h))
        (turn (whole most_tail) (weights (take i terms)) t.weight (whole i) (whole 1)
        ∙ ap₂ (λ a b. whole most_tail *ℚ a +ℚ b) (sym (ap weights all ∙ weights_more (take i terms) t))
        (sym (whole_plus i 1)))
        (plus_le_both _ _ _ _ sum.small (part_units t.weight most_tail h small));
  }
    where
      all : take (i + 1) terms ≡ take i terms ++ t ∷ []
      all = take_more terms i t inside ∙ ap (λ x. take i terms ++ x ∷ []) here

      turn : (a b c d e : Fraction) → a *ℚ b +ℚ d +ℚ (a *ℚ c +ℚ e) ≡ a *ℚ (b +ℚ c) +ℚ (d +ℚ e)
      turn a b c d e = simp ring

-- ---- weights that sum to 1

weights_within : (terms : List Term) (i : ℕ) → weights (take i terms) ≤ℚ weights terms
weights_within terms i = subst (λ x. weights (take i terms) ≤ℚ x)
    (sym (sum_over_append (λ (t : Term). t.weight) (take i terms) (drop i terms))
    ∙ ap weights (take-append-drop i terms)) (le_plus _ _)

-- each is at most 1
pub weight_within : (terms : List Term) (i : ℕ) (t : Term) → i < length terms → get_or terms i t ≡ t
    → weights terms ≡ whole 1 → t.weight ≤ℚ whole 1
weight_within terms i t inside here one =
    le_trans _ _ _ (subst (λ x. t.weight ≤ℚ x) (plus_comm t.weight (weights (take i terms))
    ∙ sym (weights_more (take i terms) t)
    ∙ ap weights (sym (take_more terms i t inside ∙ ap (λ x. take i terms ++ x ∷ []) here)))
    (le_plus _ _)) (subst (λ x. weights (take (i + 1) terms) ≤ℚ x) one (weights_within terms (i + 1)))

-- the sum fits
pub sum_small : (terms : List Term) (i hi : ℕ) → weights terms ≡ whole 1
    → whole hi ≤ℚ whole most_tail *ℚ weights (take i terms) +ℚ whole i → hi ≤ most_tail + i
sum_small terms i hi one h =
    le_whole hi (most_tail + i) (le_trans _ _ _ h
    (subst (λ x. whole most_tail *ℚ weights (take i terms) +ℚ whole i ≤ℚ x)
    (ap (λ x. x +ℚ whole i) (ap (λ x. whole most_tail *ℚ x) one ∙ times_one (whole most_tail))
    ∙ sym (whole_plus most_tail i))
    (plus_le_both _ _ _ _ (times_le_both _ _ _ _ (le_refl _) (weights_within terms i)) (le_refl (whole i)))))

-- ---- all terms

module _ {B : ℕ} {grid : List (Iv B)} {mean : Iv B} {terms : List Term} {i lo hi : ℕ}
    (sum : IsSumOf grid mean terms i lo hi) (ended : length terms ≤ i) where
  every : (priced : List PricedTerm) → AreTermsOf terms priced → take i priced ≡ priced
  every priced is = take_all i priced (omega (arith, length-map priced term_of, ap length is))

  pub all_least : OnTotals grid mean (List PricedTerm) (λ us priced. AreTermsOf terms priced
      → AtLeast (partial_sums us (Price priced)) (partial_sums us One) (lo over 2 ^ B))
  all_least us priced d e m is =
      subst (λ ts. AtLeast (partial_sums us (Price ts)) (partial_sums us One) (lo over 2 ^ B))
      (every priced is) (sum.least us priced d e m is)

  pub all_hold : OnTotals grid mean (List PricedTerm) (λ us priced. AreTermsOf terms priced
      → AreQuantiles (partial_sums us) priced
      → Holds (partial_sums us (Price priced)) (partial_sums us One) (lo over 2 ^ B) (hi over 2 ^ B))
  all_hold us priced d e m is at = (
    all_least us priced d e m is,
    subst (λ ts. AtMost (partial_sums us (Price ts)) (partial_sums us One) (hi over 2 ^ B)) (every priced is)
        (sum.most us priced d e m is at),
  )

  pub all_narrow : hi - lo ≤ price_width terms (mean.hi - mean.lo) (length grid) (spread grid)
  all_narrow =
      let all = ap (sum_by (term_width (mean.hi - mean.lo) (length grid) (spread grid))) (take_all i terms ended) in
      omega arith
