-- Outcomes of a unit, after its aggregate clause and with its probability of no claim changed, on small cases worked by
-- hand.
use Rattle.dl_model.proofs.Common.{List, [], ◌∷◌, ℕ, zero, suc, ◌≡◌, ◌-◌, ◌*◌, ◌<◌, refl, nat_eq, zero-lt-suc, one_pos, Fraction, whole, ◌over◌, count_pairs, sum_to, Item, weight_sum, greatest, equally_likely, probability_at, cell, Loss, Aggregate, outcome, loss, listed_aggregate, level_mean, without_none, with_none, changed, changed_end, ways}
use Rattle.dl_model.proofs.Ratios.{Known, worked, over_is, whole_is, plus_is, minus_is, times_is, divided_is, where_is}
unfoldable use Rattle.dl_model.proofs.Ratios.{through_is, pairs_is}
use Rattle.dl_model.proofs.ExamplesClaims.{listed_is, cells_are, none_or_one, one_or_two}

-- ---- the definitions as numbers over numbers

-- a unit of these weights of counts, with listed amounts
abbrev pub unit : (ℕ → Fraction) → List Item → (ℕ → ℕ) → Aggregate
unit w items clause = record { count = w; severity = probability_at items; most = greatest items; clause = clause }

abbrev pub outcomes_are : {w : ℕ → Fraction} → ((n : ℕ) → Known (w n)) → (items : List Item) → 0 < weight_sum items
    → (clause : ℕ → ℕ) (y N : ℕ) → Known (outcome (unit w items clause) y N)
outcomes_are p items there clause y N =
    through_is (λ s. where_is (nat_eq (clause s) y) (cells_are p items there s N)) (N * greatest items)

-- a loss whose outcomes are known
pub record Worked : Type 0 where
  pub loss : Loss
  pub are : (y N : ℕ) → Known (loss.family.cells y N)

-- of listed counts and amounts
abbrev pub listed_loss : (counts amounts : List Item) → 0 < weight_sum counts → 0 < weight_sum amounts → Worked
listed_loss counts amounts p q = record {
  loss = loss (listed_aggregate counts amounts);
  are = outcomes_are (listed_is counts p) amounts q (λ s. s);
}

abbrev pub mean_is : (u : Worked) (N : ℕ) → Known (level_mean u.loss N)
mean_is u N = through_is (λ y. times_is (whole_is y) (u.are y N)) (u.loss.last_outcome N)

unfoldable pub some_are : {w : ℕ → Fraction} → ((n : ℕ) → Known (w n)) → (n : ℕ) → Known (without_none w n)
unfolding without_none
some_are p zero = whole_is 0
some_are p (suc n) = p (suc n)

abbrev pub changed_is : {p : Fraction} {part all : ℕ → Fraction} → Known p → ((N : ℕ) → Known (part N))
    → ((N : ℕ) → Known (all N)) → (y N : ℕ) → Known (with_none p y part all N)
changed_is p part all y N =
    plus_is (times_is (minus_is (whole_is 1) p) (part N)) (where_is (nat_eq y 0) (times_is p (all N)))

-- ---- outcomes

-- two trials of chance 1/2, and each claim 0 or 1 alike
abbrev trials : List Item
trials = equally_likely (0 ∷ 1 ∷ 1 ∷ 2 ∷ [])

abbrev trials_are : (n : ℕ) → Known (probability_at trials n)
trials_are = listed_is trials (zero-lt-suc _)

-- the sums 0, 1 and 2 have 9/16, 3/8 and 1/16
pub sum_one : outcome (listed_aggregate trials none_or_one) 1 2 ≡ 3 over 8
unfolding ways count_pairs through_is
sum_one = worked 3 8 (outcomes_are trials_are none_or_one (zero-lt-suc _) (λ s. s) 1 2) (zero-lt-suc _) refl

-- all but the first 1 of the sum: the outcome 0 has 15/16, and 1 has 1/16
pub layer_above :
    (outcome (unit (probability_at trials) none_or_one (λ s. s - 1)) 0 2 ≡ 15 over 16)
    × (outcome (unit (probability_at trials) none_or_one (λ s. s - 1)) 1 2 ≡ 1 over 16)
unfolding ways count_pairs through_is
layer_above = (
  worked 15 16 (outcomes_are trials_are none_or_one (zero-lt-suc _) (λ s. s - 1) 0 2) (zero-lt-suc _) refl,
  worked 1 16 (outcomes_are trials_are none_or_one (zero-lt-suc _) (λ s. s - 1) 1 2) (zero-lt-suc _) refl,
)

-- two claims of 1 or 2 alike go up to 4, of mean 3
pub reach_two : (loss (listed_aggregate (equally_likely (2 ∷ [])) one_or_two)).last_outcome 2 ≡ 4
reach_two = refl

pub mean_two : level_mean (loss (listed_aggregate (equally_likely (2 ∷ [])) one_or_two)) 2 ≡ whole 3
unfolding ways count_pairs through_is
mean_two =
    worked 3 1 (mean_is (listed_loss (equally_likely (2 ∷ [])) one_or_two (zero-lt-suc _) (zero-lt-suc _)) 2) one_pos refl

-- ---- a changed probability of no claim

-- one or two claims have 3/4
pub some_claim : sum_to 2 (without_none (probability_at trials)) ≡ 3 over 4
unfolding some_are through_is
some_claim = worked 3 4 (through_is (some_are trials_are) 2) (zero-lt-suc _) refl

-- of them the sums 0, 1 and 2 have 5/16, 3/8 and 1/16
pub some_none : cell (without_none (probability_at trials)) (probability_at none_or_one) 0 2 ≡ 5 over 16
unfolding ways count_pairs through_is some_are
some_none = worked 5 16 (cells_are (some_are trials_are) none_or_one (zero-lt-suc _) 0 2) (zero-lt-suc _) refl

-- the outcome y with the probability a / b of no claim
abbrev changed_cell : (a b : ℕ) → 0 < b → (y N : ℕ)
    → Known ((changed (a over b) (listed_aggregate trials none_or_one)).family.cells y N)
changed_cell a b pos y N =
    changed_is (over_is a b pos) (outcomes_are (some_are trials_are) none_or_one (zero-lt-suc _) (λ s. s) y)
    (λ M. through_is (some_are trials_are) M) y N

-- without no claim: 5/16 and 3/8, of 3/4
pub truncated :
    ((changed (whole 0) (listed_aggregate trials none_or_one)).family.cells 0 2 ≡ 5 over 16)
    × ((changed (whole 0) (listed_aggregate trials none_or_one)).family.cells 1 2 ≡ 3 over 8)
unfolding ways count_pairs through_is some_are
truncated = (
  worked 5 16 (changed_cell 0 1 one_pos 0 2) (zero-lt-suc _) refl,
  worked 3 8 (changed_cell 0 1 one_pos 1 2) (zero-lt-suc _) refl,
)

-- with 1/5 for no claim: 4/5 * 5/16 + 1/5 * 3/4 = 2/5, 4/5 * 3/8 = 3/10 and 4/5 * 1/16 = 1/20, of 3/4
pub changed_outcomes :
    ((changed (1 over 5) (listed_aggregate trials none_or_one)).family.cells 0 2 ≡ 2 over 5)
    × ((changed (1 over 5) (listed_aggregate trials none_or_one)).family.cells 1 2 ≡ 3 over 10)
    × ((changed (1 over 5) (listed_aggregate trials none_or_one)).family.cells 2 2 ≡ 1 over 20)
unfolding ways count_pairs through_is some_are
changed_outcomes = (
  worked 2 5 (changed_cell 1 5 (zero-lt-suc _) 0 2) (zero-lt-suc _) refl,
  worked 3 10 (changed_cell 1 5 (zero-lt-suc _) 1 2) (zero-lt-suc _) refl,
  worked 1 20 (changed_cell 1 5 (zero-lt-suc _) 2 2) (zero-lt-suc _) refl,
)

pub changed_whole : (changed (1 over 5) (listed_aggregate trials none_or_one)).family.all 2 ≡ 3 over 4
changed_whole = some_claim

-- where no claim is sure, 0 has all of 3/4
pub sure_none : (changed (whole 1) (listed_aggregate trials none_or_one)).family.cells 0 2 ≡ 3 over 4
unfolding ways count_pairs through_is some_are
sure_none = worked 3 4 (changed_cell 1 1 one_pos 0 2) (zero-lt-suc _) refl

-- ends of the outcomes 0 and 1 with 1/5 for no claim, from 9/16 and 3/8, where no claim has 1/4:
-- 4/5 * (9/16 - 1/4) / (3/4) + 1/5 = 8/15, and 4/5 * 3/8 / (3/4) = 2/5
pub changed_end_none : changed_end (1 over 5) 0 (9 over 16) (1 over 4) (1 over 4) ≡ 8 over 15
changed_end_none =
    worked 8 15 (plus_is (times_is (minus_is (whole_is 1) (over_is 1 5 (zero-lt-suc _)))
    (divided_is (minus_is (over_is 9 16 (zero-lt-suc _)) (over_is 1 4 (zero-lt-suc _)))
    (minus_is (whole_is 1) (over_is 1 4 (zero-lt-suc _))) (zero-lt-suc _))) (over_is 1 5 (zero-lt-suc _)))
    (zero-lt-suc _) refl

pub changed_end_one : changed_end (1 over 5) 1 (3 over 8) (1 over 4) (1 over 4) ≡ 2 over 5
changed_end_one =
    worked 2 5 (plus_is (times_is (minus_is (whole_is 1) (over_is 1 5 (zero-lt-suc _)))
    (divided_is (minus_is (over_is 3 8 (zero-lt-suc _)) (whole_is 0))
    (minus_is (whole_is 1) (over_is 1 4 (zero-lt-suc _))) (zero-lt-suc _))) (whole_is 0)) (zero-lt-suc _) refl
