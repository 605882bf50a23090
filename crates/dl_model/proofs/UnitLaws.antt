-- The outcomes of a unit are a loss: up to the level times the greatest amount, where they make up its whole weight.
use Rattle.dl_model.proofs.Common.{◌≡◌, inl, inr, ℕ, suc, ◌*◌, ◌<◌, nat_eq, arith, sym, ap, ◌∙◌, cases_lt, whole, sum_to, le_trans, sum_to_same, sum_to_swap, sum_to_le, sum_to_grows, sum_to_zero, cell, power, mapped, IsProper, IsLoss, Aggregate, IsDeclarable, loss, outcome, where_true, ◌*ℚ◌, le_refl_n}
use Rattle.dl_model.proofs.ValueLaws.{where_rises, pick, pick_none, off, passed, cell_past, cells_all, sum_rises_to}
use Rattle.dl_model.proofs.Outcomes.{loss_proper}

module _ (u : Aggregate) (h : IsDeclarable u) where
  pub unit_within : (y N : ℕ) → N * u.most < y → outcome u y N ≡ whole 0
  unit_within y N b =
      sum_to_zero (N * u.most) _ (λ s c. off (u.clause s) y (cell u.count u.severity s N) (omega (arith, h.clause s)))

  pub unit_whole : (N : ℕ) → sum_to (N * u.most) (λ y. outcome u y N) ≡ sum_to N u.count
  unit_whole N =
      sum_to_swap (N * u.most) (N * u.most) (λ y s. where_true (nat_eq (u.clause s) y) (cell u.count u.severity s N))
      ∙ sum_to_same (N * u.most) _ _ (λ s b. passed (N * u.most) (u.clause s) (λ y. cell u.count u.severity s N)
      (omega (arith, h.clause s))) ∙ cells_all u.count u.severity u.most h.severity N (N * u.most) (le_refl_n _)

  pub unit_loss : IsLoss (loss u)
  unit_loss = record {
    cells_rise =
        λ y N. le_trans _ _ _ (sum_to_le (N * u.most) _ _
        (λ s b. where_rises (nat_eq (u.clause s) y) _ (sum_rises_to (λ n. u.count n *ℚ power u.severity n s)) N))
        (sum_to_grows (N * u.most) (suc N * u.most) _ (omega arith));
    last_rises = λ N. omega arith;
    past = unit_within;
    full = unit_whole;
  }

  pub unit_proper : IsProper (mapped u)
  unit_proper = loss_proper (loss u) unit_loss

  -- where the clause leaves each sum as it is, the outcomes are the cells of the compound sum
  pub unit_plain : ((s : ℕ) → u.clause s ≡ s) → (y N : ℕ) → outcome u y N ≡ cell u.count u.severity y N
  unit_plain same y N =
      sum_to_same (N * u.most) _ _ (λ s b. ap (λ t. where_true (nat_eq t y) (cell u.count u.severity s N)) (same s))
      ∙ elim (cases_lt (N * u.most) y) [
        | inl far ↦ pick_none (N * u.most) y (λ s. cell u.count u.severity s N) far
            ∙ sym (cell_past u.count u.severity u.most h.severity.past y N far)
        | inr near ↦ pick (N * u.most) y (λ s. cell u.count u.severity s N) near
      ]
