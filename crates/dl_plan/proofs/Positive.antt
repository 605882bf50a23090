-- A severity without amount 0.
use Rattle.dl_plan.proofs.Common.{◌≡◌, ◌<◌, ◌≤◌, get_or, arith, ap, inl, inr, cases_lt, whole, le_over, Item, Sev, weight_at, eq-eqb, get_or-le-sum_by, one_pos, le_of_eq, probability_of}
use Rattle.std.specs.Prelude.{All, if◌then◌else◌, ◌==◌}
use Rattle.dl_plan.proofs.Means.{severity_total}

pub zero_weight : (sev : Sev) → probability_of sev 0 ≡ whole 0 → weight_at sev.items 0 ≡ 0
zero_weight sev none = omega (
  arith,
  le_over (weight_at sev.items 0) sev.total 0 1 (severity_total sev) one_pos (le_of_eq _ _ none),
)

-- where amount 0 has no probability, no item has it
pub amounts_positive : (sev : Sev) → probability_of sev 0 ≡ whole 0 → All (λ item. 0 < item.amount) sev.items
amounts_positive sev none k d inside = elim (cases_lt 0 (get_or sev.items k d).amount) [
  | inl h ↦ h
  | inr h ↦ absurd (
      let item : Item = get_or sev.items k d in
      let own : (if item.amount == 0 then item.weight else 0) ≤ weight_at sev.items 0 =
      get_or-le-sum_by (λ (i : Item). if i.amount == 0 then i.weight else 0) sev.items k d inside in
      let all : (if item.amount == 0 then item.weight else 0) ≡ item.weight =
      ap (λ t. if t then item.weight else 0) (eq-eqb item.amount 0 (omega (arith, h))) in
      omega (arith, own, all, zero_weight sev none, sev.weighted.positive k d inside))
]
