-- What encloses the powers of a family, and one claim.
use Rattle.dl_claims.proofs.Common.{ℕ, ◌≡◌, ◌+◌, ◌*◌, ◌/◌, ◌^◌, ◌<◌, ◌≤◌, List, length, take, arith, refl, sym, ap, ◌∙◌, div_ceil, ne_eqb, pow_pos, Fraction, ◌over◌, ◌≤ℚ◌, whole, times_one, Iv, low_at, high_at, all_at_zero, IsConvolution, probability_at, fixed, Family, compound, times_itself, IsProper, GridEncloses, finite_encloses, power_one, Item, weight_at, weight_sum, low_take, high_take, probability_is, product, nothing, Encloses, convolution_encloses, encloses_same, encloses_power, itself_none, itself_one, itself_proper, all_at_zero_encloses, fixed_sum, fixed_cell, enclose_low, enclose_high, ◌^ℚ◌, where_true}

-- ---- powers of a family

pub no_copy : {B : ℕ} (g : List (Iv B)) (F : Family) → ((x : ℕ) → low_at g x ≡ all_at_zero (2 ^ B) x)
    → ((x : ℕ) → high_at g x ≡ all_at_zero (2 ^ B) x)
    → GridEncloses g (times_itself F 0)
unfolding ◌^ℚ◌
no_copy {B} g F low high =
    encloses_same (2 ^ B) (length g) (low_at g) (high_at g) nothing (times_itself F 0)
    (λ y N. sym (itself_none F y N)) (λ N. refl) (all_at_zero_encloses g low high)

one_copy : {B : ℕ} (g : List (Iv B)) (F : Family) → GridEncloses g F → GridEncloses g (times_itself F 1)
unfolding ◌^ℚ◌
one_copy {B} g F = encloses_same (2 ^ B) (length g) (low_at g) (high_at g) F (times_itself F 1)
    (λ y N. sym (itself_one F y N)) (λ N. sym (times_one (F.all N)))

pub first_cells : {B : ℕ} (g : List (Iv B)) (n : ℕ) (F : Family) → length (take n g) ≡ n → n ≤ length g
    → GridEncloses g F → GridEncloses (take n g) (times_itself F 1)
first_cells {B} g n F e within of_g = one_copy (take n g) F (λ y inside.
    rw (low_take g n y (omega (arith, e)), high_take g n y (omega (arith, e))) (of_g y (omega (arith, e))))

more_copies : {B : ℕ} (g : List (Iv B)) (F : Family) (m n k : ℕ) → m + n ≡ k
    → GridEncloses g (product (times_itself F m) (times_itself F n)) → GridEncloses g (times_itself F k)
more_copies {B} g F m n k e of_g = rw (← e) (encloses_power (2 ^ B) (length g) (low_at g) (high_at g) F m n of_g)

-- the square of half as many copies
pub squared : {B : ℕ} (a g : List (Iv B)) (n m k : ℕ) (F : Family) → IsProper F → m + m ≡ k → n ≤ length a
    → length g ≡ n → IsConvolution n a a g → GridEncloses a (times_itself F m) → GridEncloses g (times_itself F k)
squared a g n m k F p sum in_a e is of_a =
    let q = itself_proper F p m in
    more_copies g F m m k sum
    (convolution_encloses a a g n (times_itself F m) (times_itself F m) q q in_a in_a e is of_a of_a)

-- one copy more
pub one_more : {B : ℕ} (a b g : List (Iv B)) (n m k : ℕ) (F : Family) → IsProper F → m + 1 ≡ k → n ≤ length a
    → n ≤ length b → length g ≡ n → IsConvolution n a b g
    → GridEncloses a (times_itself F m) → GridEncloses b F → GridEncloses g (times_itself F k)
one_more a b g n m k F p sum in_a in_b e is of_a of_b =
    more_copies g F m 1 k sum
    (convolution_encloses a b g n (times_itself F m) (times_itself F 1) (itself_proper F p m)
    (itself_proper F p 1) in_a in_b e is of_a (one_copy b F of_b))

-- ---- one claim

no_more : (n : ℕ) → 1 < n → fixed 1 n ≡ whole 0
no_more n h = ap (λ t. where_true t (whole 1)) (ne_eqb n 1 (omega arith))

pub one_claim : (S K : ℕ) (lo hi : ℕ → ℕ) (f : ℕ → Fraction) → ((y : ℕ) → y < K → lo y over S ≤ℚ f y)
    → ((y : ℕ) → y < K → f y ≤ℚ hi y over S)
    → Encloses S K lo hi (compound (fixed 1) f)
one_claim S K lo hi f low high =
    let same : (y : ℕ) → (compound (fixed 1) f).cells y 1 ≡ f y = λ y. fixed_cell 1 f y 1 (omega arith)
    ∙ ap (λ g. g y) (power_one f) in
    finite_encloses (fixed 1) f 1 (fixed_sum 1 1 (omega arith)) no_more S K lo hi
    (λ y h. rw (same y) (low y h))
    (λ y h. rw (same y) (high y h))

-- ---- one claim of a listed amount

pub listed_claim : {B : ℕ} (grid : List (Iv B)) (items : List Item) (total : ℕ) → weight_sum items ≡ total → 0 < total
    → ((y : ℕ) → y < length grid → low_at grid y ≡ 2 ^ B * weight_at items y / total)
    → ((y : ℕ) → y < length grid → high_at grid y ≡ div_ceil (2 ^ B * weight_at items y) total)
    → GridEncloses grid (compound (fixed 1) (probability_at items))
listed_claim {B} grid items total sum pos low high =
    let chance : (y : ℕ) → weight_at items y over total ≡ probability_at items y = λ y.
    sym (probability_is items total sum y) in
    one_claim (2 ^ B) (length grid) (low_at grid) (high_at grid) (probability_at items)
    (λ y h. rw (low y h, ← chance y) (enclose_low (2 ^ B) (pow_pos B) (weight_at items y) total pos))
    (λ y h. rw (high y h, ← chance y) (enclose_high (2 ^ B) (pow_pos B) (weight_at items y) total pos))
