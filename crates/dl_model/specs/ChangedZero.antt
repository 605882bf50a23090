-- Claim counts whose probability of no claim is changed to p (Loss Models, "Truncation and
-- modification at zero"); zero-truncated counts are those with p = 0.
use Rattle.std.specs.Prelude.{ℕ, zero, suc, ◌≡◌, ◌*◌, nat_eq}
use Rattle.dl_exact.specs.Prelude.{Fraction, whole, ◌+ℚ◌, ◌-ℚ◌, ◌*ℚ◌, ◌/ℚ◌, sum_to}
use Rattle.dl_model.specs.Series.{Series}
use Rattle.dl_model.specs.Program.{Loss, where_true}
use Rattle.dl_model.specs.Units.{Aggregate, outcome}

-- the weights of at least one claim
unfoldable pub without_none : (ℕ → Fraction) → ℕ → Fraction
without_none w zero = whole 0
without_none w (suc n) = w (suc n)

-- the outcome y with the probability p of no claim: 1 - p times its part from at least one claim,
-- and at y = 0 in addition p times the whole weight of at least one claim
abbrev pub with_none : Fraction → ℕ → Series → Series → Series
with_none p y part all N =
    (whole 1 -ℚ p) *ℚ part N +ℚ where_true (nat_eq y 0) (p *ℚ all N)

-- The outcome y of a count with the weight `none` of no claim: no claim comes to 0, so that y = 0
-- has this weight beside its part from at least one claim, and so has the whole.
pub record IsWithNone (y : ℕ) (none : Fraction) (cell all part rest : Series) : Type 0 where
  pub outcome : (N : ℕ) → cell N ≡ part N +ℚ where_true (nat_eq y 0) none
  pub whole_weight : (N : ℕ) → all N ≡ rest N +ℚ none

-- An end of the outcome y with the probability p of no claim, from an end of it before the change.
-- At y = 0 an end `off` of the probability of no claim is taken off before; what is left is divided
-- by the probability of a claim, 1 - none.
abbrev pub changed_end : Fraction → ℕ → (cell off none : Fraction) → Fraction
changed_end p y cell off none = (whole 1 -ℚ p) *ℚ
    ((cell -ℚ where_true (nat_eq y 0) off) /ℚ (whole 1 -ℚ none)) +ℚ where_true (nat_eq y 0) p

-- the unit u with the weights of at least one claim for its count
abbrev pub with_claims : Aggregate → Aggregate
with_claims u = record {
  count = without_none u.count;
  severity = u.severity;
  most = u.most;
  clause = u.clause;
}

-- The loss of the unit u with its probability of no claim changed to p: its outcomes with that
-- probability, over the whole weight of at least one claim, up to the same greatest outcome.
abbrev pub changed : Fraction → Aggregate → Loss
changed p u = record {
  family = record {
    cells = λ y. with_none p y (outcome (with_claims u) y) (λ N. sum_to N (without_none u.count));
    all = λ N. sum_to N (without_none u.count);
  };
  last_outcome = λ N. N * u.most;
}
