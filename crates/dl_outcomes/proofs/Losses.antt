-- A unit with a changed probability of no claim as a loss, and its mean as a total of one unit.
use Rattle.dl_outcomes.proofs.Common.{◌↔◌, ℕ, ◌≡◌, ◌*◌, ◌<◌, arith, ap₂, ◌∙◌, [], ◌∷◌, Fraction, whole, ◌+ℚ◌, ◌-ℚ◌, ◌*ℚ◌, ◌≤ℚ◌, sum_to, plus_zero, times_zero, Holds, SameValue, Loss, IsLoss, One, Mean, partial_sums, level_mean, Aggregate, IsDeclarable, outcome, without_none, with_claims, changed, off, level_same, same_value, sum_rises_to, total_alone_all, mean_alone, unit_within, unit_loss, with_none_rises, with_none_all}

module _ (p : Fraction) (u : Aggregate) (h : IsDeclarable u) where
  abbrev claims : Aggregate
  claims = with_claims u

  claims_unit : IsDeclarable claims
  claims_unit = record { severity = h.severity; clause = h.clause }

  changed_past : (y N : ℕ) → N * u.most < y → (changed p u).family.cells y N ≡ whole 0
  changed_past y N far =
      ap₂ (λ s t. (whole 1 -ℚ p) *ℚ s +ℚ t) (unit_within claims claims_unit y N far)
      (off y 0 (p *ℚ sum_to N (without_none u.count)) (λ e. omega arith))
      ∙ plus_zero _ ∙ times_zero _

  pub changed_is_loss : p ≤ℚ whole 1 → IsLoss (changed p u)
  changed_is_loss within = record {
    cells_rise = λ y. with_none_rises p y (outcome claims y) (λ N. sum_to N (without_none u.count))
        ((unit_loss claims claims_unit).cells_rise y) (sum_rises_to (without_none u.count));
    last_rises = λ N. omega arith;
    past = changed_past;
    full = λ N. with_none_all p (N * u.most) N (outcome claims) (λ N. sum_to N (without_none u.count)) within
        ((unit_loss claims claims_unit).full N);
  }

-- the mean of a total of one unit
pub mean_same : (l : Loss) → IsLoss l
    → SameValue (partial_sums (l ∷ []) Mean) (partial_sums (l ∷ []) One) (level_mean l) l.family.all
mean_same l h = same_value (partial_sums (l ∷ []) Mean) (partial_sums (l ∷ []) One) (level_mean l) l.family.all
    (level_same _ _ (mean_alone l h)) (level_same _ _ (total_alone_all l h))

pub mean_held : (l : Loss) (low high : Fraction) → IsLoss l
    → Holds (partial_sums (l ∷ []) Mean) (partial_sums (l ∷ []) One) low high
    ↔ Holds (level_mean l) l.family.all low high
mean_held l low high h =
    let least = (mean_same l h).0 low in
    let most = (mean_same l h).1 high in
    (λ held. (least.0 held.0, most.0 held.1), λ held. (least.1 held.0, most.1 held.1))
