-- Lists of numbers as loops make them, and the ends of a grid made from two of them.
use Rattle.dl_claims.proofs.Common.{ℕ, ◌≡◌, ◌+◌, ◌*◌, ◌^◌, ◌<◌, ◌≤◌, List, [], ◌∷◌, ◌++◌, length, get_or, arith, refl, sym, ap, ap₂, inl, inr, ◌∙◌, length-append, get_or-append_seam, get_or_append_left, get_or_default, cases_lt, Iv, AreEnds, IsGridSize, count_below, below_more, below_same, mixture_end, sum, zip, mul-le-mul, sum_by-cons, get_or_default_zero, below_first, get_or-eq_default, sum_total}

-- the items so far, and the next
pub one_more_item : (xs ys : List ℕ) (v i : ℕ) (h : ℕ → ℕ) → ys ≡ xs ++ v ∷ [] → length xs ≡ i
    → ((k : ℕ) → k < i → get_or xs k 0 ≡ h k) → v ≡ h i
    → (k : ℕ) → k < i + 1 → get_or ys k 0 ≡ h k
one_more_item xs ys v i h e many before here k inside = elim (cases_lt k i) [
  | inl less ↦ ap (λ t. get_or t k 0) e ∙ get_or_append_left xs (v ∷ []) 0 k (omega (arith, many)) ∙ before k less
  | inr last ↦
      let same : length xs ≡ k = omega (arith, many) in
      let at : i ≡ k = omega (arith, many) in
      ap₂ (λ t n. get_or t n 0) e (sym same) ∙ get_or-append_seam xs v [] 0 ∙ here ∙ ap h at
]

pub one_longer : {A : Type 0} (xs ys : List A) (v : A) {n : ℕ} → ys ≡ xs ++ v ∷ [] → length xs ≡ n → length ys ≡ n + 1
one_longer xs ys v e many = ap length e ∙ length-append xs (v ∷ []) ∙ ap (λ k. k + 1) many

-- the items of a list of all that are not 0
pub every_item : (xs : List ℕ) (i : ℕ) (h : ℕ → ℕ) → length xs ≡ i
    → ((k : ℕ) → k < i → get_or xs k 0 ≡ h k) → ((k : ℕ) → i ≤ k → h k ≡ 0) → (k : ℕ) → get_or xs k 0 ≡ h k
every_item xs i h many each none k = elim (cases_lt k i) [
  | inl inside ↦ each k inside
  | inr past ↦ get_or-eq_default xs 0 {n = k} (omega (arith, many)) ∙ sym (none k past)
]

-- a sum of ends by the places of the grids
pub mixture_end_is : {B : ℕ} (weights : List ℕ) (grids : List (List (Iv B))) (end : List (Iv B) → ℕ)
    → length weights ≡ length grids
    → mixture_end weights grids end ≡ count_below (length grids) (λ i. get_or weights i 0 * end (get_or grids i []))
unfolding count_below
mixture_end_is [] [] end e = refl
mixture_end_is [] (g ∷ gs) end e = absurd (omega (arith, e))
mixture_end_is (w ∷ ws) [] end e = absurd (omega (arith, e))
mixture_end_is {B} (w ∷ ws) (g ∷ gs) end e =
    omega (
      arith,
      sum_by-cons (λ (pair : ℕ × List (Iv B)). pair.0 * end pair.1) (w, g) (zip ws gs),
      mixture_end_is ws gs end (omega (arith, e)),
      below_first (length gs) (λ i. get_or (w ∷ ws) i 0 * end (get_or (g ∷ gs) i [])),
    )

-- two lists of ends, told place by place
pub made_ends : (B K : ℕ) (lows highs : List ℕ) (low high : ℕ → ℕ) → IsGridSize B K
    → length lows ≡ K → length highs ≡ K
    → ((x : ℕ) → x < K → get_or lows x 0 ≡ low x) → ((x : ℕ) → x < K → get_or highs x 0 ≡ high x)
    → ((x : ℕ) → x < K → low x ≤ high x) → ((x : ℕ) → x < K → high x ≤ 2 ^ B) → count_below K low ≤ 2 ^ B
    → AreEnds B lows highs
made_ends B K lows highs low high size many many' at at' order small mass = record {
  size = rw many size;
  paired = omega (arith, many, many');
  ordered = λ x. elim (cases_lt x K) [
    | inl inside ↦ omega (arith, at x inside, at' x inside, order x inside)
    | inr past ↦ omega (arith, get_or-eq_default lows 0 {n = x} (omega (arith, many)))
  ];
  small = λ x d inside. omega (
    arith,
    get_or_default_zero highs x d inside,
    at' x (omega (arith, many')),
    small x (omega (arith, many')),
  );
  mass = omega (
    arith,
    sum_total lows,
    ap (λ n. count_below n (λ i. get_or lows i 0)) many,
    below_same K (λ i. get_or lows i 0) low at,
    mass,
  );
}

-- the next grid's end
pub mixture_end_more : {B : ℕ} (weights : List ℕ) (grids : List (List (Iv B))) (g : List (Iv B)) (i sum w v : ℕ)
    (end : List (Iv B) → ℕ) → i < length grids
    → g ≡ get_or grids i g → w ≡ get_or weights i 0 → v ≡ end g
    → sum ≡ count_below i (λ k. get_or weights k 0 * end (get_or grids k []))
    → sum + w * v ≡ count_below (i + 1) (λ k. get_or weights k 0 * end (get_or grids k []))
mixture_end_more weights grids g i sum w v end inside is e h before =
    let same : get_or grids i [] ≡ g = get_or_default grids i [] g inside ∙ sym is in
    let product : w * v ≡ get_or weights i 0 * end (get_or grids i []) = ap₂ (λ s t. s * t) e (h ∙ ap end (sym same)) in
    omega (arith, product, before, below_more i (λ k. get_or weights k 0 * end (get_or grids k [])))

pub product_small : (w v : ℕ) → w ≤ 2 ^ 40 → v ≤ 2 ^ 56 → w * v ≤ 2 ^ 96
product_small w v few small = omega (arith, mul-le-mul {n₁ = w} {m₁ = v} {n₂ = 2 ^ 40} {m₂ = 2 ^ 56} few small)
