-- Two units under a common factor, worked by hand by the sums over all claims lists.
use Rattle.dl_model.proofs.Common.{List, [], ◌∷◌, map, ℕ, zero, suc, ◌≡◌, ◌*◌, ◌<◌, arith, refl, sum, get_or, nat_eq, mul-pos, zero-lt-suc, one_pos, Fraction, whole, ◌over◌, factorial, factorial_pos, sum_over, Item, count_pairs, weight_sum, greatest, equally_likely, probability_at, Quantity, Point, Joint, score, Claims, PoissonUnit, amounts, chances, common_sums, expected_claims, pooled_severity, ways_to_share, product_over, sum_over_claims, ways, raised}
use Rattle.dl_model.proofs.Ratios.{Known, worked, over_is, whole_is, plus_is, times_is, divided_is, power_is, where_is}
unfoldable use Rattle.dl_model.proofs.Ratios.{through_is, pairs_is, product_is as below_is}
use Rattle.dl_model.proofs.ExamplesClaims.{listed_is, sums_are, ones, none_or_one}

-- ---- the definitions as numbers over numbers

-- a unit with listed amounts, and its claims
pub record ListedUnit : Type 0 where
  pub above : ℕ
  pub below : ℕ
  pub positive : 0 < below
  pub items : List Item
  pub there : 0 < weight_sum items

pub record ListedClaims : Type 0 where
  pub unit : ListedUnit
  pub count : ℕ
  pub amount : ℕ

abbrev pub unit_of : ListedUnit → PoissonUnit
unit_of u = record { mean = u.above over u.below; severity = probability_at u.items; most = greatest u.items }

abbrev pub claims_of : ListedClaims → Claims
claims_of c = record { unit = unit_of c.unit; count = c.count; amount = c.amount }

unfoldable pub over_claims_is : (us : List ListedUnit) (value : List Claims → Fraction)
    → ((cs : List ListedClaims) → Known (value (map claims_of cs))) → (n : ℕ)
    → Known (sum_over_claims (map unit_of us) n value)
unfolding sum_over_claims
over_claims_is [] value p zero = p []
over_claims_is [] value p (suc n) = whole_is 0
over_claims_is (u ∷ us) value p n =
    pairs_is (λ j k. through_is (λ s. over_claims_is us _ (λ cs. p (record { unit = u; count = j; amount = s } ∷ cs)) k)
    (j * greatest u.items)) n

unfoldable pub product_is : (f : Claims → Fraction) → ((c : ListedClaims) → Known (f (claims_of c)))
    → (cs : List ListedClaims) → Known (product_over (map claims_of cs) f)
unfolding product_over
product_is f p [] = whole_is 1
product_is f p (c ∷ cs) = times_is (p c) (product_is f p cs)

-- a product of whole numbers above 0 has a numerator above 0
pub factorials_pos : (cs : List ListedClaims)
    → 0 < (product_is (λ c. whole (factorial c.count)) (λ c. whole_is (factorial c.count)) cs).num
unfolding product_is
factorials_pos [] = one_pos
factorials_pos (c ∷ cs) = mul-pos (factorial_pos c.count) (factorials_pos cs)

abbrev pub ways_are : (a b : ℕ) → 0 < b → (n : ℕ) (cs : List ListedClaims)
    → Known (ways_to_share (a over b) n (map claims_of cs))
ways_are a b below n cs =
    divided_is (below_is (λ i. plus_is (over_is a b below) (whole_is i)) n)
    (product_is _ (λ c. whole_is (factorial c.count)) cs) (factorials_pos cs)

unfoldable pub expected_is : (us : List ListedUnit) → Known (expected_claims (map unit_of us))
unfolding sum_over
expected_is [] = whole_is 0
expected_is (u ∷ us) = plus_is (over_is u.above u.below u.positive) (expected_is us)

-- under a factor of shape a / b
module _ (a b : ℕ) (shape : 0 < a) (below : 0 < b) (us : List ListedUnit) where
  pub rate_pos : 0 < (plus_is (over_is a b below) (expected_is us)).num
  rate_pos = omega (arith, mul-pos shape (expected_is us).positive)

  abbrev pub chances_are : (cs : List ListedClaims) → Known (chances (a over b) (expected_claims (map unit_of us)) (map claims_of cs))
  chances_are cs =
      product_is _ (λ c. power_is (divided_is (over_is c.unit.above c.unit.below c.unit.positive)
      (plus_is (over_is a b below) (expected_is us)) rate_pos) c.count) cs

  abbrev pub common_is : (quantity : Quantity) → ((ys : List ℕ) → Known (score quantity ys)) → (N : ℕ)
      → Known (common_sums (a over b) (map unit_of us) quantity N)
  common_is quantity p N =
      through_is (λ n. over_claims_is us _ (λ cs. times_is (times_is (times_is (p (amounts (map claims_of cs)))
      (product_is _ (λ c. sums_are c.unit.items c.unit.there c.count c.amount) cs)) (ways_are a b below n cs)) (chances_are cs)) n) N

  abbrev pub total_is : (x N : ℕ) → Known (common_sums (a over b) (map unit_of us) (Point x) N)
  total_is x N = common_is (Point x) (λ ys. where_is (nat_eq (sum ys) x) (whole_is 1)) N

  abbrev pub joint_is : (i x N : ℕ) → Known (common_sums (a over b) (map unit_of us) (Joint i x) N)
  joint_is i x N = common_is (Joint i x) (λ ys. where_is (nat_eq (sum ys) x) (whole_is (get_or ys i 0))) N

-- ---- claims of 1, one expected of the first unit and two of the second, and a factor of shape 4

abbrev alike : List ListedUnit
alike =
    record { above = 1; below = 1; positive = one_pos; items = ones; there = zero-lt-suc _ }
    ∷ record { above = 2; below = 1; positive = one_pos; items = ones; there = zero-lt-suc _ } ∷ []

-- three claims are expected of both
pub alike_expected : expected_claims (map unit_of alike) ≡ whole 3
unfolding expected_is
alike_expected = worked 3 1 (expected_is alike) one_pos refl

-- no claim counts 1; one claim is of the first unit with 4 * 1/7, and of the second with 4 * 2/7
pub alike_one_claim :
    (common_sums (whole 4) (map unit_of alike) (Point 0) 1 ≡ whole 1)
    × (common_sums (whole 4) (map unit_of alike) (Point 1) 1 ≡ 12 over 7)
    × (common_sums (whole 4) (map unit_of alike) (Joint 0 1) 1 ≡ 4 over 7)
    × (common_sums (whole 4) (map unit_of alike) (Joint 1 1) 1 ≡ 8 over 7)
unfolding ways count_pairs factorial below_is through_is pairs_is over_claims_is product_is expected_is
alike_one_claim = (
  worked 1 1 (total_is 4 1 (zero-lt-suc _) one_pos alike 0 1) one_pos refl,
  worked 12 7 (total_is 4 1 (zero-lt-suc _) one_pos alike 1 1) (zero-lt-suc _) refl,
  worked 4 7 (joint_is 4 1 (zero-lt-suc _) one_pos alike 0 1 1) (zero-lt-suc _) refl,
  worked 8 7 (joint_is 4 1 (zero-lt-suc _) one_pos alike 1 1 1) (zero-lt-suc _) refl,
)

-- two claims have 10 * (3/7)^2, of which the first unit has a third
pub alike_two_claims :
    (common_sums (whole 4) (map unit_of alike) (Point 2) 2 ≡ 90 over 49)
    × (common_sums (whole 4) (map unit_of alike) (Joint 0 2) 2 ≡ 60 over 49)
    × (common_sums (whole 4) (map unit_of alike) (Joint 1 2) 2 ≡ 120 over 49)
unfolding ways count_pairs factorial below_is through_is pairs_is over_claims_is product_is expected_is
alike_two_claims = (
  worked 90 49 (total_is 4 1 (zero-lt-suc _) one_pos alike 2 2) (zero-lt-suc _) refl,
  worked 60 49 (joint_is 4 1 (zero-lt-suc _) one_pos alike 0 2 2) (zero-lt-suc _) refl,
  worked 120 49 (joint_is 4 1 (zero-lt-suc _) one_pos alike 1 2 2) (zero-lt-suc _) refl,
)

-- ---- claims of 1 or 2 with 1/4 and 3/4, half a claim expected, and of 0 or 1 alike, 3/2 expected; shape 3

abbrev unlike : List ListedUnit
unlike =
    record {
      above = 1;
      below = 2;
      positive = zero-lt-suc _;
      items = equally_likely (1 ∷ 2 ∷ 2 ∷ 2 ∷ []);
      there = zero-lt-suc _;
    }
    ∷ record { above = 3; below = 2; positive = zero-lt-suc _; items = none_or_one; there = zero-lt-suc _ } ∷ []

-- totals 0 to 3 from at most two claims, and the outcomes of the units at the total 2
pub unlike_sums :
    (common_sums (whole 3) (map unit_of unlike) (Point 0) 2 ≡ 317 over 200)
    × (common_sums (whole 3) (map unit_of unlike) (Point 1) 2 ≡ 21 over 25)
    × (common_sums (whole 3) (map unit_of unlike) (Point 2) 2 ≡ 87 over 160)
    × (common_sums (whole 3) (map unit_of unlike) (Point 3) 2 ≡ 63 over 400)
    × (common_sums (whole 3) (map unit_of unlike) (Joint 0 2) 2 ≡ 309 over 400)
    × (common_sums (whole 3) (map unit_of unlike) (Joint 1 2) 2 ≡ 63 over 200)
unfolding ways count_pairs factorial below_is through_is pairs_is over_claims_is product_is expected_is
unlike_sums = (
  worked 317 200 (total_is 3 1 (zero-lt-suc _) one_pos unlike 0 2) (zero-lt-suc _) refl,
  worked 21 25 (total_is 3 1 (zero-lt-suc _) one_pos unlike 1 2) (zero-lt-suc _) refl,
  worked 87 160 (total_is 3 1 (zero-lt-suc _) one_pos unlike 2 2) (zero-lt-suc _) refl,
  worked 63 400 (total_is 3 1 (zero-lt-suc _) one_pos unlike 3 2) (zero-lt-suc _) refl,
  worked 309 400 (joint_is 3 1 (zero-lt-suc _) one_pos unlike 0 2 2) (zero-lt-suc _) refl,
  worked 63 200 (joint_is 3 1 (zero-lt-suc _) one_pos unlike 1 2 2) (zero-lt-suc _) refl,
)

-- and for a factor of shape 1/2
pub unlike_half :
    (common_sums (1 over 2) (map unit_of unlike) (Point 0) 2 ≡ 947 over 800)
    × (common_sums (1 over 2) (map unit_of unlike) (Point 1) 2 ≡ 203 over 800)
    × (common_sums (1 over 2) (map unit_of unlike) (Point 2) 2 ≡ 99 over 640)
    × (common_sums (1 over 2) (map unit_of unlike) (Joint 0 2) 2 ≡ 369 over 1600)
unfolding ways count_pairs factorial below_is through_is pairs_is over_claims_is product_is expected_is
unlike_half = (
  worked 947 800 (total_is 1 2 one_pos (zero-lt-suc _) unlike 0 2) (zero-lt-suc _) refl,
  worked 203 800 (total_is 1 2 one_pos (zero-lt-suc _) unlike 1 2) (zero-lt-suc _) refl,
  worked 99 640 (total_is 1 2 one_pos (zero-lt-suc _) unlike 2 2) (zero-lt-suc _) refl,
  worked 369 1600 (joint_is 1 2 one_pos (zero-lt-suc _) unlike 0 2 2) (zero-lt-suc _) refl,
)

-- a claim of whatever unit is 1 with 1/4 * 1/4 + 3/4 * 1/2
pub unlike_pooled : pooled_severity (map unit_of unlike) 1 ≡ 7 over 16
unfolding sum_over expected_is
unlike_pooled =
    let all = expected_is unlike in
    worked 7 16 (plus_is (times_is (divided_is (over_is 1 2 (zero-lt-suc _)) all (zero-lt-suc _))
    (listed_is (equally_likely (1 ∷ 2 ∷ 2 ∷ 2 ∷ [])) (zero-lt-suc _) 1))
    (plus_is (times_is (divided_is (over_is 3 2 (zero-lt-suc _)) all (zero-lt-suc _))
    (listed_is none_or_one (zero-lt-suc _) 1)) (whole_is 0))) (zero-lt-suc _) refl

-- a gamma count of shape 5 and mean 15/4 has the part 3 / (4 + 3) of shape 4 and mean 3
pub raised_three : raised (whole 4) (whole 3) ≡ 15 over 4
raised_three =
    worked 15 4 (divided_is (times_is (whole_is 3) (plus_is (whole_is 4) (whole_is 1))) (whole_is 4) (zero-lt-suc _)) (zero-lt-suc _) refl
