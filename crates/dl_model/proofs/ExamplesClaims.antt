-- Counts and sums of claims, on small cases worked by hand.
use Rattle.dl_model.proofs.Common.{List, [], ◌∷◌, ℕ, suc, ◌≡◌, ◌+◌, ◌*◌, ◌^◌, ◌<◌, ◌∙◌, ap, ◌+ℚ◌, ◌*ℚ◌, ◌/ℚ◌, arith, refl, sym, mul-pos, one-le-pow, nat_eq, Fraction, whole, ◌over◌, factorial, choose, one_pos, zero-lt-suc, over_same, factorial_pos, sum_to, Item, weight_at, weight_sum, equally_likely, probability_at, convolve, at_zero, power, cell, cell_from, count_pairs, fixed, binomial, poisson, gamma, gamma_of, divided_power, IsPositivePart, nat_tests, mul-pow, from_before, ways, over_cross}
use Rattle.dl_model.proofs.CountLaws.{power_ways}
use Rattle.dl_model.proofs.Ratios.{Known, worked, over_is, whole_is, plus_is, times_is, divided_is, power_is, where_is}
unfoldable use Rattle.dl_model.proofs.Ratios.{through_is, product_is, pairs_is}

-- ---- the definitions as numbers over numbers

abbrev pub listed_is : (items : List Item) → 0 < weight_sum items → (x : ℕ) → Known (probability_at items x)
listed_is items there x = over_is (weight_at items x) (weight_sum items) there

abbrev pub sums_are : (items : List Item) → 0 < weight_sum items → (n s : ℕ) → Known (power (probability_at items) n s)
sums_are items there n s = record {
  num = ways (weight_at items) n s;
  den = weight_sum items ^ n;
  positive = one-le-pow n (weight_sum items) there;
  same = power_ways (weight_at items) (weight_sum items) there n s;
}

abbrev pub cells_are : {w : ℕ → Fraction} → ((n : ℕ) → Known (w n)) → (items : List Item) → 0 < weight_sum items
    → (s N : ℕ) → Known (cell w (probability_at items) s N)
cells_are p items there s N = through_is (λ n. times_is (p n) (sums_are items there n s)) N

pub poisson_same : (a b : ℕ) → 0 < b → (n : ℕ) → poisson (a over b) n ≡ (a ^ n) over (b ^ n * factorial n)
unfolding poisson
poisson_same a b pos n =
    let v = a over b in
    let crossed : v.num ^ n * b ^ n ≡ a ^ n * v.den ^ n =
    sym (mul-pow v.num b n) ∙ ap (λ t. t ^ n) (over_cross a b pos) ∙ mul-pow a v.den n in
    over_same _ _ _ _ (mul-pos (one-le-pow n v.den v.positive) (factorial_pos n))
    (mul-pos (one-le-pow n b pos) (factorial_pos n)) (omega (arith, ap (λ t. t * factorial n) crossed))

abbrev pub poisson_is : (a b : ℕ) → 0 < b → (n : ℕ) → Known (poisson (a over b) n)
poisson_is a b pos n = record {
  num = a ^ n;
  den = b ^ n * factorial n;
  positive = mul-pos (one-le-pow n b pos) (factorial_pos n);
  same = poisson_same a b pos n;
}

unfoldable pub gamma_is : (c d a b : ℕ) → 0 < c → 0 < d → 0 < b → (n : ℕ) → Known (gamma_of (c over d) (a over b) n)
unfolding gamma
gamma_is c d a b shape below pos n =
    times_is
    (product_is (λ i. divided_is (plus_is (over_is c d below) (whole_is i)) (whole_is (suc i)) (zero-lt-suc i)) n)
    (power_is (divided_is (over_is a b pos) (plus_is (over_is c d below) (over_is a b pos))
    (omega (arith, mul-pos shape pos))) n)

-- ---- amounts

-- a claim of 1 or 2 alike; of 0 or 1 alike; of 1; a die; of 1 with 3/4, else of 4
abbrev pub one_or_two : List Item
one_or_two = equally_likely (1 ∷ 2 ∷ [])

abbrev pub none_or_one : List Item
none_or_one = equally_likely (0 ∷ 1 ∷ [])

abbrev pub ones : List Item
ones = equally_likely (1 ∷ [])

abbrev pub die : List Item
die = equally_likely (1 ∷ 2 ∷ 3 ∷ 4 ∷ 5 ∷ 6 ∷ [])

abbrev pub unequal : List Item
unequal = equally_likely (1 ∷ 1 ∷ 1 ∷ 4 ∷ [])

-- of equally likely amounts 1, 1, 1 and 4 the amount 4 has 1/4
pub listed_amount : probability_at unequal 4 ≡ 1 over 4
listed_amount = refl

-- one claim of 1 or 2 alike and one of 0 or 1 alike: the sum 2 has 1/2
pub convolved : convolve (probability_at one_or_two) (probability_at none_or_one) 2 ≡ 1 over 2
unfolding pairs_is
convolved =
    worked 1 2 (pairs_is (λ i j. times_is (listed_is one_or_two (zero-lt-suc _) i)
    (listed_is none_or_one (zero-lt-suc _) j)) 2) (zero-lt-suc _) refl

-- no claim comes to 0
pub no_claim : power (probability_at die) 0 0 ≡ whole 1
unfolding power at_zero
no_claim = refl

pub no_claim_above : power (probability_at die) 0 1 ≡ whole 0
unfolding power at_zero
no_claim_above = refl

-- two claims of 1 or 2 alike: the sum 3 has 1/2; three: the sum 4 has 3/8
pub two_claims : power (probability_at one_or_two) 2 3 ≡ 1 over 2
unfolding ways count_pairs
two_claims = worked 1 2 (sums_are one_or_two (zero-lt-suc _) 2 3) (zero-lt-suc _) refl

pub three_claims : power (probability_at one_or_two) 3 4 ≡ 3 over 8
unfolding ways count_pairs
three_claims = worked 3 8 (sums_are one_or_two (zero-lt-suc _) 3 4) (zero-lt-suc _) refl

-- the same in ways: of 2^3 three of them come to 4
pub three_ways : ways (weight_at one_or_two) 3 4 ≡ 3
unfolding ways count_pairs through_is
three_ways = refl

-- over 3!, where the order of claims does not count: 1/16
pub three_unordered : divided_power (probability_at one_or_two) 3 4 ≡ 1 over 16
unfolding ways count_pairs factorial
three_unordered =
    worked 1 16 (divided_is (sums_are one_or_two (zero-lt-suc _) 3 4) (whole_is (factorial 3)) (zero-lt-suc _))
    (zero-lt-suc _) refl

-- of amounts 0 or 1 alike the amounts above 0 have 1/2, and are 1
pub above_zero : IsPositivePart (probability_at none_or_one) (1 over 2) (probability_at ones)
above_zero = record {
  no_zero = worked 0 1 (listed_is ones (zero-lt-suc _) 0) one_pos refl;
  share = worked 1 1 (plus_is (listed_is none_or_one (zero-lt-suc _) 0) (over_is 1 2 (zero-lt-suc _))) one_pos refl;
  above = λ j. sym (worked (weight_at none_or_one (suc j)) 2
      (times_is (over_is 1 2 (zero-lt-suc _)) (listed_is ones (zero-lt-suc _) (suc j))) (zero-lt-suc _)
      (grind (arith, nat_tests)));
}

-- ---- counts

-- exactly two claims
pub fixed_two : fixed 2 2 ≡ whole 1
fixed_two = refl

pub fixed_one : fixed 2 1 ≡ whole 0
fixed_one = refl

-- two trials of chance 1/2: no claim has 1/4, one has 1/2, and there is no third
pub two_trials :
    (binomial 2 1 2 0 ≡ 1 over 4)
    × (binomial 2 1 2 1 ≡ 1 over 2)
    × (binomial 2 1 2 3 ≡ whole 0)
unfolding choose
two_trials = (
  refl,
  worked 1 2 (over_is 2 4 (zero-lt-suc _)) (zero-lt-suc _) refl,
  worked 0 1 (over_is 0 4 (zero-lt-suc _)) one_pos refl,
)

-- a Poisson count of mean 3/2: two claims have (3/2)^2 / 2! = 9/8
pub poisson_two : poisson (3 over 2) 2 ≡ 9 over 8
unfolding factorial
poisson_two = worked 9 8 (poisson_is 3 2 (zero-lt-suc _) 2) (zero-lt-suc _) refl

-- of mean 2 the weights up to 12 claims come to 7.38905, so that no claim has 0.135335
pub poisson_all : sum_to 12 (poisson (whole 2)) ≡ 3539368960 over 479001600
unfolding factorial through_is
poisson_all = worked _ _ (through_is (poisson_is 2 1 one_pos) 12) (zero-lt-suc _) refl

-- two Poisson counts of mean 1 make one of mean 2: three claims have 1/6 + 1/2 + 1/2 + 1/6 = 4/3
pub poisson_added : convolve (poisson (whole 1)) (poisson (whole 1)) 3 ≡ 4 over 3
unfolding factorial pairs_is
poisson_added =
    worked 4 3 (pairs_is (λ i j. times_is (poisson_is 1 1 one_pos i) (poisson_is 1 1 one_pos j)) 3) (zero-lt-suc _) refl

pub poisson_sum : poisson (whole 2) 3 ≡ 4 over 3
unfolding factorial
poisson_sum = worked 4 3 (poisson_is 2 1 one_pos 3) (zero-lt-suc _) refl

-- a gamma count of shape 4 and mean 2: one claim has 4 * (2 / 6), two have 10 * (2 / 6)^2
pub gamma_some :
    (gamma_of (whole 4) (whole 2) 1 ≡ 4 over 3)
    × (gamma_of (whole 4) (whole 2) 2 ≡ 10 over 9)
unfolding product_is gamma_is
gamma_some = (
  worked 4 3 (gamma_is 4 1 2 1 (zero-lt-suc _) one_pos one_pos 1) (zero-lt-suc _) refl,
  worked 10 9 (gamma_is 4 1 2 1 (zero-lt-suc _) one_pos one_pos 2) (zero-lt-suc _) refl,
)

-- its weights up to 17 claims come to 5.06249, so that no claim has 0.197531, as 16/81 has
pub gamma_all : sum_to 17 (gamma_of (whole 4) (whole 2)) ≡ 653771355 over 129140163
unfolding product_is gamma_is through_is
gamma_all = worked _ _ (through_is (gamma_is 4 1 2 1 (zero-lt-suc _) one_pos one_pos) 17) (zero-lt-suc _) refl

-- two of shape 1 and mean 1, with 1, 1/2, 1/4, 1/8, make one of shape 2 and mean 2: three claims have 4 * 1/8
pub geometric_added : convolve (gamma_of (whole 1) (whole 1)) (gamma_of (whole 1) (whole 1)) 3 ≡ 1 over 2
unfolding product_is gamma_is pairs_is
geometric_added =
    worked 1 2 (pairs_is (λ i j. times_is (gamma_is 1 1 1 1 one_pos one_pos one_pos i)
    (gamma_is 1 1 1 1 one_pos one_pos one_pos j)) 3)
    (zero-lt-suc _) refl

pub gamma_sum : gamma_of (whole 2) (whole 2) 3 ≡ 1 over 2
unfolding product_is gamma_is
gamma_sum = worked 1 2 (gamma_is 2 1 2 1 (zero-lt-suc _) one_pos one_pos 3) (zero-lt-suc _) refl

-- of shape 1/2 and mean 1, with x = 2/3: one claim has 1/2 * 2/3, two have 1/2 * 3/4 * 4/9, and three have
-- 1/2 * 3/4 * 5/6 * 8/27
pub gamma_half :
    (gamma_of (1 over 2) (whole 1) 1 ≡ 1 over 3)
    × (gamma_of (1 over 2) (whole 1) 2 ≡ 1 over 6)
    × (gamma_of (1 over 2) (whole 1) 3 ≡ 5 over 54)
unfolding product_is gamma_is
gamma_half = (
  worked 1 3 (gamma_is 1 2 1 1 one_pos (zero-lt-suc _) one_pos 1) (zero-lt-suc _) refl,
  worked 1 6 (gamma_is 1 2 1 1 one_pos (zero-lt-suc _) one_pos 2) (zero-lt-suc _) refl,
  worked 5 54 (gamma_is 1 2 1 1 one_pos (zero-lt-suc _) one_pos 3) (zero-lt-suc _) refl,
)

-- two of these make one of shape 1 and mean 2: two claims have 1/6 + 1/3 * 1/3 + 1/6 = (2/3)^2
pub halves_added : convolve (gamma_of (1 over 2) (whole 1)) (gamma_of (1 over 2) (whole 1)) 2 ≡ 4 over 9
unfolding product_is gamma_is pairs_is
halves_added = worked 4 9 (pairs_is (λ i j. times_is (gamma_is 1 2 1 1 one_pos (zero-lt-suc _) one_pos i)
    (gamma_is 1 2 1 1 one_pos (zero-lt-suc _) one_pos j)) 2) (zero-lt-suc _) refl

pub halves_sum : gamma_of (whole 1) (whole 2) 2 ≡ 4 over 9
unfolding product_is gamma_is
halves_sum = worked 4 9 (gamma_is 1 1 2 1 one_pos one_pos one_pos 2) (zero-lt-suc _) refl

-- ---- sums of claims

-- no claim has 1/4, one 1/4, two 1/2; each is 1 with 3/4, else 4
abbrev up_to_two : List Item
up_to_two = equally_likely (0 ∷ 1 ∷ 2 ∷ 2 ∷ [])

-- the sum 0 has 1/4, the sum 1 has 1/4 * 3/4, the sum 4 has 1/4 * 1/4, the sum 5 has 1/2 * 2 * 3/16, and 9 is past the
-- greatest
pub listed_sums :
    (cell (probability_at up_to_two) (probability_at unequal) 0 2 ≡ 1 over 4)
    × (cell (probability_at up_to_two) (probability_at unequal) 1 2 ≡ 3 over 16)
    × (cell (probability_at up_to_two) (probability_at unequal) 4 2 ≡ 1 over 16)
    × (cell (probability_at up_to_two) (probability_at unequal) 5 2 ≡ 3 over 16)
    × (cell (probability_at up_to_two) (probability_at unequal) 9 2 ≡ whole 0)
unfolding ways count_pairs through_is
listed_sums = (
  worked 1 4 (cells_are (listed_is up_to_two (zero-lt-suc _)) unequal (zero-lt-suc _) 0 2) (zero-lt-suc _) refl,
  worked 3 16 (cells_are (listed_is up_to_two (zero-lt-suc _)) unequal (zero-lt-suc _) 1 2) (zero-lt-suc _) refl,
  worked 1 16 (cells_are (listed_is up_to_two (zero-lt-suc _)) unequal (zero-lt-suc _) 4 2) (zero-lt-suc _) refl,
  worked 3 16 (cells_are (listed_is up_to_two (zero-lt-suc _)) unequal (zero-lt-suc _) 5 2) (zero-lt-suc _) refl,
  worked 0 1 (cells_are (listed_is up_to_two (zero-lt-suc _)) unequal (zero-lt-suc _) 9 2) one_pos refl,
)

-- without the first claim of each: the sum 1 has 1/2 * 3/4, from two claims
pub listed_from : cell_from (probability_at up_to_two) (probability_at unequal) 1 1 1 ≡ 3 over 8
unfolding ways count_pairs through_is
listed_from =
    worked 3 8 (cells_are (λ n. listed_is up_to_two (zero-lt-suc _) (1 + n)) unequal (zero-lt-suc _) 1 1)
    (zero-lt-suc _) refl

-- two dice: the sums 2 and 7 have 1/36 and 6/36
pub two_dice :
    (cell (fixed 2) (probability_at die) 2 2 ≡ 1 over 36)
    × (cell (fixed 2) (probability_at die) 7 2 ≡ 1 over 6)
unfolding ways count_pairs through_is
two_dice = (
  worked 1 36 (cells_are (λ n. where_is (nat_eq n 2) (whole_is 1)) die (zero-lt-suc _) 2 2) (zero-lt-suc _) refl,
  worked 1 6 (cells_are (λ n. where_is (nat_eq n 2) (whole_is 1)) die (zero-lt-suc _) 7 2) (zero-lt-suc _) refl,
)

-- a Poisson count of mean 3/2: of at most three claims the sum 5 has 9/8 * 3/8, from 1 and 4
pub poisson_five : cell (poisson (3 over 2)) (probability_at unequal) 5 3 ≡ 27 over 64
unfolding ways count_pairs factorial through_is
poisson_five = worked 27 64 (cells_are (poisson_is 3 2 (zero-lt-suc _)) unequal (zero-lt-suc _) 5 3) (zero-lt-suc _) refl

-- of mean 4, each claim 0 or 1 alike: of at most two claims the sum 0 has 1 + 4/2 + 8/4
pub poisson_zeros : cell (poisson (whole 4)) (probability_at none_or_one) 0 2 ≡ whole 5
unfolding ways count_pairs factorial through_is
poisson_zeros = worked 5 1 (cells_are (poisson_is 4 1 one_pos) none_or_one (zero-lt-suc _) 0 2) one_pos refl

-- a gamma count of shape 3 and mean 1/2: 6 * (1/7)^2 * 3/8
pub gamma_five : cell (gamma_of (whole 3) (1 over 2)) (probability_at unequal) 5 3 ≡ 9 over 196
unfolding ways count_pairs product_is through_is gamma_is
gamma_five =
    worked 9 196 (cells_are (gamma_is 3 1 1 2 (zero-lt-suc _) one_pos (zero-lt-suc _)) unequal (zero-lt-suc _) 5 3)
    (zero-lt-suc _) refl

-- (a * k + c * (1 + i)) / (s + 1)
abbrev step_is : {a c : Fraction} → Known a → Known c → (s i k : ℕ)
    → Known ((a *ℚ whole k +ℚ c *ℚ whole (suc i)) /ℚ whole (suc s))
step_is a c s i k = divided_is (plus_is (times_is a (whole_is k)) (times_is c (whole_is (suc i)))) (whole_is (suc s))
    (zero-lt-suc s)

-- Panjer's recursion for a Poisson count of mean 1 and claims of 1 or 2 alike: the sum 2 has, from the sums 1 and 0,
-- 1/2 * 1/2 * 1/2 + 2/2 * 1/2 * 1 = 5/8, which is 1/2 for a claim of 2 and 1/2 * 1/4 for two of 1
pub recursion_two : from_before (whole 0) (whole 1) (probability_at one_or_two)
    (λ s. cell (poisson (whole 1)) (probability_at one_or_two) s 2) 1 ≡ 5 over 8
unfolding ways count_pairs factorial through_is pairs_is
recursion_two =
    worked 5 8 (pairs_is (λ i k. times_is (times_is (step_is (whole_is 0) (whole_is 1) 1 i k)
    (listed_is one_or_two (zero-lt-suc _) (suc i)))
    (cells_are (poisson_is 1 1 one_pos) one_or_two (zero-lt-suc _) k 2)) 1) (zero-lt-suc _) refl

pub compound_two : cell (poisson (whole 1)) (probability_at one_or_two) 2 2 ≡ 5 over 8
unfolding ways count_pairs factorial through_is
compound_two = worked 5 8 (cells_are (poisson_is 1 1 one_pos) one_or_two (zero-lt-suc _) 2 2) (zero-lt-suc _) refl

-- the same of the gamma count of shape 1/2 and mean 1, with a = 2/3 and c = 1/3: the sum 2 has
-- (2/3 + 1/3) / 2 * 1/2 * 1/6 + (2/3) / 2 * 1/2 * 1 = 5/24, which is 1/3 * 1/2 for a claim of 2 and 1/6 * 1/4 for two
-- of 1
pub recursion_half : from_before (2 over 3) (1 over 3) (probability_at one_or_two)
    (λ s. cell (gamma_of (1 over 2) (whole 1)) (probability_at one_or_two) s 2) 1 ≡ 5 over 24
unfolding ways count_pairs product_is gamma_is through_is pairs_is
recursion_half =
    worked 5 24 (pairs_is (λ i k. times_is (times_is
    (step_is (over_is 2 3 (zero-lt-suc _)) (over_is 1 3 (zero-lt-suc _)) 1 i k)
    (listed_is one_or_two (zero-lt-suc _) (suc i)))
    (cells_are (gamma_is 1 2 1 1 one_pos (zero-lt-suc _) one_pos) one_or_two (zero-lt-suc _) k 2)) 1)
    (zero-lt-suc _) refl

pub compound_half : cell (gamma_of (1 over 2) (whole 1)) (probability_at one_or_two) 2 2 ≡ 5 over 24
unfolding ways count_pairs product_is gamma_is through_is
compound_half =
    worked 5 24 (cells_are (gamma_is 1 2 1 1 one_pos (zero-lt-suc _) one_pos) one_or_two (zero-lt-suc _) 2 2)
    (zero-lt-suc _) refl
