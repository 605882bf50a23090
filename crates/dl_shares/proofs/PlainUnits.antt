-- The loss of a unit of a plan without an aggregate clause and with no changed probability of no claim: its outcome is
-- the sum of its claims.
use Rattle.dl_shares.proofs.Common.{ℕ, ◌≡◌, ◌∙◌, None, ap, arith, UnitOfPlan, probability_of, aggregate_of, after_zero, outcome_after, count_weights, shares_severity, sum_to, cell, IsLoss, IsDeclarable, unit_loss, unit_plain}
use Rattle.dl_model.specs.Plans.{loss_of}

module _ (u : UnitOfPlan) (clause : u.cede ≡ None) (zero : u.zero ≡ None) where
  plain : (s : ℕ) → outcome_after u.cede s ≡ s
  plain s = ap (λ c. outcome_after c s) clause

  declarable : IsDeclarable (aggregate_of u)
  declarable = record {
    severity = shares_severity u.sev.items u.sev.total u.sev.weighted;
    clause = λ s. omega (arith, plain s);
  }

  pub plain_cells : (y N : ℕ) → (loss_of u).family.cells y N ≡ cell (count_weights u.freq) (probability_of u.sev) y N
  plain_cells y N = ap (λ z. (after_zero z (aggregate_of u)).family.cells y N) zero
      ∙ unit_plain (aggregate_of u) declarable plain y N

  pub plain_all : (N : ℕ) → (loss_of u).family.all N ≡ sum_to N (count_weights u.freq)
  plain_all N = ap (λ z. (after_zero z (aggregate_of u)).family.all N) zero

  pub plain_loss : IsLoss (loss_of u)
  plain_loss = rw zero (unit_loss (aggregate_of u) declarable)
