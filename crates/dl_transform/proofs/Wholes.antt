-- The product of two lists from its remainders.
use Rattle.dl_transform.proofs.Common.{cases_lt, inl, inr, ℕ, zero, suc, ◌≡◌, ◌+◌, ◌-◌, ◌*◌, ◌/◌, ◌%◌, ◌^◌, ◌<◌, ◌≤◌, List, length, get_or, sum_by, mul-le-mul_left, arith, sym, ap, ap₂, ◌∙◌, div_below, get_or_past, Same, count_pairs, pairs_none, eval, [], ◌∷◌, div-add-mod, pow-le-pow_right, mul-le-mul, mod_below, All, IsTableFor, Table, sum_by-cons}
use Rattle.dl_transform.proofs.Residues.{same_refl, same_of, same_by, same_sym, same_trans, same_times, same_cancel, same_below, same_mod}
use Rattle.dl_transform.proofs.Values.{eval_scale, eval_padded, eval_product}

-- the value of the product of two lists with room for it
pub product_value : (n : ℕ) (a b : List ℕ) (r : ℕ) → length a + length b ≤ n
    → eval n (λ s. count_pairs s (λ i j. get_or a i 0 * get_or b j 0)) r ≡ eval n (λ i. get_or a i 0) r * eval n
    (λ j. get_or b j 0) r
product_value n a b r room =
    let la = length a in
    let m = n - la in
    let f : ℕ → ℕ = λ i. get_or a i 0 in
    let g : ℕ → ℕ = λ j. get_or b j 0 in
    let e : la + m ≡ n = omega (arith, room) in
    let e' : m + la ≡ la + m = omega arith in
    let za : (i : ℕ) → la ≤ i → f i ≡ 0 = λ i h. get_or_past a i 0 h in
    let zb : (j : ℕ) → m ≤ j → g j ≡ 0 = λ j h. get_or_past b j 0 (omega (arith, h, room)) in
    rw (← e) (eval_product la m f g r za zb
    ∙ ap₂ (λ s t. s * t) (sym (eval_padded la m f r za)) (sym (rw e' at (eval_padded m la g r zb))))

-- the items of a polynomial from its values over R, times n, where w undoes both
pub undone : (p n R g w : ℕ) (h z t : ℕ → ℕ) (v r : ℕ → ℕ) → Same p (g * R) 1 → Same p (g * n * w) 1
    → ((k : ℕ) → k < n → Same p (z k * R) (v k))
    → ((k : ℕ) → k < n → Same p (v k) (eval n h (r k)))
    → ((y : ℕ → ℕ) → ((k : ℕ) → k < n → Same p (z k) (eval n y (r k))) → (k : ℕ) → k < n → Same p (t k) (n * y k))
    → (k : ℕ) → k < n → Same p (t k * w) (h k)
undone p n R g w h z t v r unit scale products known back k b =
    let y : ℕ → ℕ = λ i. g * h i in
    let values : (k : ℕ) → k < n → Same p (z k) (eval n y (r k)) = λ k b.
    let one : z k * (g * R) ≡ g * (z k * R) = omega arith in
    let all : Same p (z k * 1) (z k * (g * R)) = same_times (same_refl p (z k)) (same_sym unit) in
    same_trans (same_of p (sym (times_one (z k)))) (same_trans all (same_trans (same_of p one)
    (same_trans (same_times (same_refl p g) (same_trans (products k b) (known k b)))
    (same_of p (sym (eval_scale n g h (r k))))))) in
    let here : Same p (t k) (n * (g * h k)) = back y values k b in
    let f : n * (g * h k) * w ≡ h k * (g * n * w) = omega arith in
    same_trans (same_times here (same_refl p w))
    (same_trans (same_of p f) (same_trans (same_times (same_refl p (h k)) scale) (same_of p (times_one (h k)))))
  where
    times_one : (a : ℕ) → a * 1 ≡ a
    times_one a = omega arith

-- a number from its remainders by two numbers, where w undoes the first modulo the second
pub from_two : (p1 p2 w n r1 r2 d v : ℕ) → 0 < p2 → n < p1 * p2 → Same p1 r1 n → r1 < p1 → Same p2 r2 n
    → Same p2 (p1 * w) 1
    → d + r1 ≡ r2 + p2 → Same p2 v (d * w) → v < p2 → r1 + p1 * v ≡ n
from_two p1 p2 w n r1 r2 d v pos big first small second inverse e here below =
    let q = n / p1 in
    let some : 0 < p1 = omega (arith, small) in
    let r : n % p1 ≡ r1 = sym (same_below (same_trans first (same_sym (same_mod p1 n))) small (mod_below n p1 some))
    in
    let split : p1 * q + n % p1 ≡ n = div-add-mod n p1 in
    let q_below : q < p2 = div_below n p1 p2 (omega arith) (omega (arith, big)) in
    let a : Same p2 (q * p1 + r1) (d + r1) =
    same_trans (same_of p2 (rest q p1 r1 n (n % p1) split r))
    (same_trans (same_sym second) (same_by p2 r2 (d + r1) 1 0 (omega (arith, e)))) in
    let c : Same p2 (q * p1) d = same_cancel p2 (q * p1) d r1 pos a in
    let one : q * (p1 * w) ≡ q * p1 * w = omega arith in
    let u : q * 1 ≡ q = omega arith in
    let all : Same p2 q (d * w) =
    same_trans (same_of p2 (sym u))
    (same_trans (same_times (same_refl p2 q) (same_sym inverse))
    (same_trans (same_of p2 one) (same_times c (same_refl p2 w)))) in
    let same : q ≡ v = same_below (same_trans all (same_sym here)) q_below below in
    omega (arith, split, r, ap (λ t. p1 * t) same)
  where
    rest : (q p1 r1 n m : ℕ) → p1 * q + m ≡ n → m ≡ r1 → q * p1 + r1 ≡ n
    rest q p1 r1 n m e f = omega (arith, e, f)

pub two_room : (p1 p2 : ℕ) → 3 * 2 ^ 60 ≤ p1 → 3 * 2 ^ 60 ≤ p2 → 2 ^ 123 ≤ p1 * p2
two_room p1 p2 h k = omega (arith, mul-le-mul h k)

-- a table with room for some levels has room for fewer
pub fewer_levels : {t : Table} {l most : ℕ} → l ≤ most → IsTableFor t most → IsTableFor t l
fewer_levels {l = l} {most = most} fewer h = record {
  table = h.table;
  inside = omega (arith, fewer, h.inside);
  within = omega (arith, pow-le-pow_right {n = 2} (omega arith) {i = l} {j = most} fewer, h.within);
}

-- the sum of one list times what no item of the other is above
pub pairs_bound : (a : List ℕ) (b : ℕ → ℕ) (m s : ℕ) → ((k : ℕ) → b k ≤ m)
    → count_pairs s (λ i j. get_or a i 0 * b j) ≤ sum_by (λ x. x) a * m
unfolding count_pairs
pairs_bound [] b m s h = omega (arith, pairs_none s (λ i j. 0 * b j) (λ i j. omega arith))
pairs_bound (x ∷ xs) b m zero h = rw sum_by-cons (omega (arith, mul-le-mul_left x (h 0)))
pairs_bound (x ∷ xs) b m (suc s) h =
    rw sum_by-cons (omega (arith, mul-le-mul_left x (h (suc s)), pairs_bound xs b m s h))
