-- Values of polynomials: sums, halves, products.
use Rattle.dl_transform.proofs.Common.{ℕ, zero, suc, ◌≡◌, ◌+◌, ◌*◌, ◌^◌, ◌<◌, ◌≤◌, arith, refl, ap, ◌∙◌, pow-suc, pow-zero, Same, count_pairs, pairs_none, eval, suc-add}
use mathlib.Core.Path.{fun_ext}
use Rattle.dl_transform.proofs.Residues.{same_refl, same_plus, same_times}

pub eval_same : (p n : ℕ) (f g : ℕ → ℕ) (r : ℕ) → ((i : ℕ) → i < n → Same p (f i) (g i))
    → Same p (eval n f r) (eval n g r)
unfolding eval
eval_same p zero f g r h = same_refl p 0
eval_same p (suc n) f g r h =
    same_plus (h zero (omega arith))
    (same_times (same_refl p r) (eval_same p n (λ i. f (suc i)) (λ i. g (suc i)) r
    (λ i b. h (suc i) (omega arith))))

pub eval_linear : (n c : ℕ) (f g : ℕ → ℕ) (r : ℕ) → eval n (λ i. f i + c * g i) r ≡ eval n f r + c * eval n g r
unfolding eval
eval_linear zero c f g r = omega arith
eval_linear (suc n) c f g r = omega (arith, ap (λ t. r * t) (eval_linear n c (λ i. f (suc i)) (λ i. g (suc i)) r))

pub eval_split : (m n : ℕ) (f : ℕ → ℕ) (r : ℕ) → eval (m + n) f r ≡ eval m f r + r ^ m * eval n (λ i. f (m + i)) r
unfolding eval
eval_split zero n f r = grind (arith, pow-zero r)
eval_split (suc m) n f r =
    let k : suc m + n ≡ suc (m + n) = suc-add m n in
    let e : (λ i. f (suc m + i)) ≡ (λ i. f (suc (m + i))) = fun_ext (λ i. ap f (suc-add m i)) in
    rw (k, e, pow-suc r m) (omega (arith, ap (λ t. r * t) (eval_split m n (λ i. f (suc i)) r)))

pub eval_zero : (n : ℕ) (f : ℕ → ℕ) (r : ℕ) → ((i : ℕ) → f i ≡ 0) → eval n f r ≡ 0
unfolding eval
eval_zero zero f r h = refl
eval_zero (suc n) f r h = omega (arith, h zero, ap (λ t. r * t) (eval_zero n (λ i. f (suc i)) r (λ i. h (suc i))))

-- zeros past the end do not count
pub eval_padded : (m n : ℕ) (f : ℕ → ℕ) (r : ℕ) → ((i : ℕ) → m ≤ i → f i ≡ 0) → eval (m + n) f r ≡ eval m f r
eval_padded m n f r h = grind (arith, eval_split m n f r, eval_zero n (λ i. f (m + i)) r (λ i. h (m + i) (omega arith)))

pub eval_scale : (n c : ℕ) (f : ℕ → ℕ) (r : ℕ) → eval n (λ i. c * f i) r ≡ c * eval n f r
unfolding eval
eval_scale zero c f r = omega arith
eval_scale (suc n) c f r = omega (arith, ap (λ t. r * t) (eval_scale n c (λ i. f (suc i)) r))

first_pair : (a b : ℕ → ℕ) → count_pairs zero (λ i j. a i * b j) ≡ a zero * b zero
unfolding count_pairs
first_pair a b = refl

next_pair : (s : ℕ) (a b : ℕ → ℕ)
    → count_pairs (suc s) (λ i j. a i * b j) ≡ count_pairs s (λ i j. a (suc i) * b j) + a zero * b (suc s)
unfolding count_pairs
next_pair s a b = omega arith

zero_times : (x : ℕ) → 0 * x ≡ 0
zero_times x = omega arith

-- the value of a product is the product of the values
pub eval_product : (m n : ℕ) (a b : ℕ → ℕ) (r : ℕ) → ((i : ℕ) → m ≤ i → a i ≡ 0) → ((j : ℕ) → n ≤ j → b j ≡ 0)
    → eval (m + n) (λ s. count_pairs s (λ i j. a i * b j)) r ≡ eval m a r * eval n b r
unfolding eval
eval_product zero n a b r p q = grind (arith, zero_times (eval n b r), zero_times, eval_zero, pairs_none)
eval_product (suc m) n a b r p q =
    let H : ℕ → ℕ = λ s. count_pairs s (λ i j. a i * b j) in
    let H' : ℕ → ℕ = λ s. count_pairs s (λ i j. a (suc i) * b j) in
    let k : suc m + n ≡ suc (m + n) = suc-add m n in
    let later : (i : ℕ) → m ≤ i → a (suc i) ≡ 0 = λ i h. p (suc i) (omega arith) in
    let first : H zero ≡ a zero * b zero = first_pair a b in
    let rest : (λ s. H (suc s)) ≡ (λ s. H' s + a zero * b (suc s)) = fun_ext (λ s. next_pair s a b) in
    let low : eval (m + n) (λ s. H (suc s)) r ≡ eval (m + n) H' r + a zero * eval (m + n) (λ s. b (suc s)) r =
    ap (λ f. eval (m + n) f r) rest ∙ eval_linear (m + n) (a zero) H' (λ s. b (suc s)) r in
    let all : eval (suc (m + n)) b r ≡ eval n b r = ap (λ t. eval t b r) (e m n) ∙ eval_padded n (suc m) b r q in
    let ih : eval (m + n) H' r ≡ eval m (λ i. a (suc i)) r * eval n b r =
    eval_product m n (λ i. a (suc i)) b r later q in
    ap (λ t. eval t H r) k ∙ finish (H zero) (a zero) (b zero) r (eval (m + n) (λ s. H (suc s)) r)
    (eval (m + n) H' r) (eval (m + n) (λ s. b (suc s)) r) (eval n b r) (eval m (λ i. a (suc i)) r) first low all ih
  where
    e : (m n : ℕ) → suc (m + n) ≡ n + suc m
    e m n = omega arith

    finish : (h0 a0 b0 r h h' bs bn an : ℕ) → h0 ≡ a0 * b0 → h ≡ h' + a0 * bs → b0 + r * bs ≡ bn → h' ≡ an * bn
        → h0 + r * h ≡ (a0 + r * an) * bn
    finish h0 a0 b0 r h h' bs bn an p q t u =
        omega (arith, p, ap (λ z. r * z) q, ap (λ z. a0 * z) t, ap (λ z. r * z) u)
