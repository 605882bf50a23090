-- Blocks of counts joined pair by pair: which counts a pair has, and how many blocks are left.
use Rattle.dl_claims.proofs.Common.{ℕ, suc, ◌≡◌, ◌+◌, ◌-◌, ◌*◌, ◌/◌, ◌^◌, ◌<◌, ◌≤◌, List, length, get_or, arith, refl, sym, ap, subst, inl, inr, ◌∙◌, cases_lt, max, All, Fraction, IsWithinOne, Iv, low_at, high_at, cell_from, power, pow_pos, IsConvolution, Between, ArePowers, AreParts, IsStep, ArePairable, div-add-mod, div-mul-le_self, mod-lt, mul-le-mul_left, mul-le-mul_right, ◌%◌, mod-eq_of_lt, pow-le-pow_right, pow-suc}
use Rattle.dl_claims.proofs.PowerGrids.{grid_at, joined_powers}
use Rattle.dl_claims.proofs.StepGrids.{from_same}

-- ---- lists of grids

pub few_at : {B : ℕ} (K n : ℕ) (grids : List (List (Iv B))) (g : List (Iv B)) → n < length grids → g ≡ get_or grids n g
    → All (λ t. length t ≤ K) grids → length g ≤ K
few_at K n grids g inside is few = omega (arith, ap length is, few n g inside)

pub powers_in : {B : ℕ} {xs ys : List (List (Iv B))} (K : ℕ) (f : ℕ → Fraction) → xs ≡ ys → ArePowers K f ys
    → ArePowers K f xs
powers_in K f e = subst (ArePowers K f) (sym e)

pub pairable_in : {B : ℕ} {xs ys : List (List (Iv B))} {step : List (Iv B)} {K m : ℕ} {w f : ℕ → Fraction} → xs ≡ ys
    → ArePairable K w f m ys step → ArePairable K w f m xs step
pairable_in {step = step} {K = K} {m = m} {w = w} {f = f} e = subst (λ t. ArePairable K w f m t step) (sym e)

pub pairable_same : {B : ℕ} {xs : List (List (Iv B))} {step : List (Iv B)} {K m n : ℕ} {w f : ℕ → Fraction} → m ≡ n
    → ArePairable K w f m xs step → ArePairable K w f n xs step
pairable_same {xs = xs} {step = step} {K = K} {w = w} {f = f} e = subst (λ t. ArePairable K w f t xs step) e

-- blocks of m + 1 counts, and m + 1 claims
pub pairable_blocks : {B : ℕ} (K : ℕ) (w f : ℕ → Fraction) (parts : List (List (Iv B))) (step : List (Iv B)) (d k m : ℕ)
    → d ≡ m → k ≡ suc m → IsWithinOne w → IsWithinOne f → AreParts K w f d parts
    → Between K step (power f k) → ArePairable K w f m parts step
pairable_blocks K w f parts step d k m e h p q = rw (e, h) (λ of_parts of_step. record {
  counts = p;
  amounts = q;
  of_parts = of_parts;
  of_step = of_step;
})

-- ---- pairs

-- two neighbours are a block and the counts after it
pub neighbours : {B : ℕ} (K : ℕ) (w f : ℕ → Fraction) (m : ℕ) (parts : List (List (Iv B))) (step a b : List (Iv B))
    (i j k : ℕ) → ArePairable K w f m parts step → j ≡ 2 * i → k ≡ 2 * i + 1 → k < length parts
    → a ≡ get_or parts j a → b ≡ get_or parts k b → IsStep K w f (i * suc (suc m + m)) m m a step b
neighbours K w f m parts step a b i j k p e h inside of_a of_b = record {
  counts = p.counts;
  amounts = p.amounts;
  of_block = from_same K a w f (j * suc m) m _ m (ap (λ t. t * suc m) e ∙ omega arith) refl
      (grid_at K j (λ i s. cell_from w f (i * suc m) s m) parts a (omega arith) of_a p.of_parts);
  of_step = p.of_step;
  of_later = from_same K b w f (k * suc m) m _ m (ap (λ t. t * suc m) h ∙ omega arith) refl
      (grid_at K k (λ i s. cell_from w f (i * suc m) s m) parts b inside of_b p.of_parts);
}

-- twice as many claims
pub twice : {B : ℕ} (a g : List (Iv B)) (K m : ℕ) (f : ℕ → Fraction) → IsWithinOne f → IsConvolution K a a g
    → Between K a (power f (suc m)) → Between K g (power f (suc (suc m + m)))
twice a g K m f q is of_a =
    joined_powers a a g K (suc m) (suc m) (suc (suc m + m)) f (omega arith) q is.low is.high of_a of_a

-- the same ends
pub same_between : {B : ℕ} (a g : List (Iv B)) (K : ℕ) (c : ℕ → Fraction) → ((x : ℕ) → low_at g x ≡ low_at a x)
    → ((x : ℕ) → high_at g x ≡ high_at a x) → Between K a c → Between K g c
same_between a g K c low high of_a = record {
  low = λ s inside. rw (low s) (of_a.low s inside);
  high = λ s inside. rw (high s) (of_a.high s inside);
}

-- the blocks of the next level
pub joined_pairs : {B : ℕ} {parts pairs : List (List (Iv B))} {step next : List (Iv B)} (K m : ℕ) (w f : ℕ → Fraction)
    → ArePairable K w f m parts step → IsConvolution K step step next → AreParts K w f (suc m + m) pairs
    → ArePairable K w f (suc m + m) pairs next
joined_pairs {step = step} {next = next} K m w f p is of_pairs = record {
  counts = p.counts;
  amounts = p.amounts;
  of_parts = of_pairs;
  of_step = twice step next K m f p.amounts is p.of_step;
}

-- ---- numbers of blocks and of counts; a is the greatest count, b how many blocks there are, and c how many counts a
-- block has at first

pub blocks_are : (l : ℕ) → l ≤ 14 → 2 * 2 ^ l % 2 ^ 32 ≡ 2 * 2 ^ l
blocks_are l few = mod-eq_of_lt (omega (arith, blocks_few l few))
  where
    blocks_few : (l : ℕ) → l ≤ 14 → 2 ^ l ≤ 2 ^ 14
    blocks_few l few = pow-le-pow_right {n = 2} (omega arith) {i = l} {j = 14} few

pub blocks_some : (l b : ℕ) → b ≡ 2 * 2 ^ l → 2 ≤ b
blocks_some l b e = omega (arith, e, pow_pos l)

pub blocks_few : (l b : ℕ) → l ≤ 14 → b ≡ 2 * 2 ^ l → b ≤ 2 ^ 15
blocks_few l b few e = omega (arith, e, pow-le-pow_right {n = 2} (omega arith) {i = l} {j = 14} few)

pub counts_few : (a b m : ℕ) → a < 2 ^ 32 → 2 ≤ b → m ≡ max (a / b) 1 → suc m < 2 ^ 32
counts_few a b m small some e = omega (arith, e, div-mul-le_self a b, mul-le-mul_left (a / b) some)

pub counts_near : (a b m : ℕ) → a < 2 ^ 32 → b ≤ 2 ^ 15 → m ≡ max (a / b) 1 → b * suc m < 2 ^ 33
counts_near a b m small few e = elim (cases_lt 0 (a / b)) [
  | inl some ↦
      let is : m ≡ a / b = omega arith in
      omega (arith, ap (λ t. b * t) is, div-mul-le_self a b)
  | inr none ↦
      let is : m ≡ 1 = omega arith in
      omega (arith, ap (λ t. b * t) is)
]

pub place_near : (i b n x : ℕ) → x ≡ i → i < b → b * n < 2 ^ 33 → x * n < 2 ^ 33
place_near i b n x e inside near = omega (arith, ap (λ t. t * n) e, mul-le-mul_right n inside)

pub half_left : (l i n k : ℕ) → i < l → n ≡ 2 * 2 ^ (l - i) → k ≡ n / 2 → k ≡ 2 * 2 ^ (l - (i + 1))
half_left l i n k inside e h =
    let next : l - i ≡ suc (l - (i + 1)) = omega arith in
    omega (arith, h, e, ap (λ t. 2 ^ t) next, pow-suc 2 (l - (i + 1)))

pub two_left : (l i n : ℕ) → l ≤ i → n ≡ 2 * 2 ^ (l - i) → n ≡ 2
two_left l i n past e =
    let none : l - i ≡ 0 = omega arith in
    e ∙ ap (λ t. 2 * 2 ^ t) none

pub twice_as_many : (c i : ℕ) → 1 ≤ c → suc (c * 2 ^ i - 1) + (c * 2 ^ i - 1) ≡ c * 2 ^ (i + 1) - 1
twice_as_many c i some =
    let next : i + 1 ≡ suc i = omega arith in
    omega (arith, ap (λ t. c * 2 ^ t) next, ap (λ t. c * t) (pow-suc 2 i), mul-le-mul_right (2 ^ i) some, pow_pos i)

pub all_joined : (a l i b m : ℕ) → l ≤ i → i ≤ l → b ≡ 2 * 2 ^ l → m ≡ max (a / b) 1
    → a ≤ suc (suc m * 2 ^ i - 1) + (suc m * 2 ^ i - 1)
all_joined a l i b m past inside e h =
    let all : i ≡ l = omega arith in
    let some : 0 < b = omega (arith, blocks_some l b e) in
    let least : a / b ≤ m = omega arith in
    omega (
      arith,
      div-add-mod a b,
      mod-lt a some,
      mul-le-mul_right b least,
      ap (λ t. suc m * t) e,
      ap (λ t. suc m * 2 ^ t) all,
      mul-le-mul_right (2 ^ l) least,
      pow_pos l,
    )

-- the powers up to m claims
pub some_suc : (m : ℕ) → 1 ≤ suc m
some_suc m = omega arith

pub two_powers : {n m : ℕ} (q : ℕ) → n ≡ suc m → m ≡ max q 1 → 2 ≤ n
two_powers q all e = omega (arith, all, e)

pub last_power : {n m : ℕ} → n ≡ suc m → n - 1 ≡ suc m * 1 - 1
last_power all = omega (arith, all)

pub powers_many : {n m : ℕ} → n ≡ suc m → n ≡ suc (suc m * 1 - 1)
powers_many all = omega (arith, all)
