-- A plan whose units are independent.
use Rattle.dl_sources.proofs.Common.{ℕ, ◌≡◌, List, None, Iv, ap, sym, subst, Plan, IsTotalOf, independent}

pub is_independent : (plan : Plan) → plan.common ≡ None → independent plan ≡ plan
is_independent plan none = sym (ap (λ o. record {
  bs = plan.bs;
  cells = plan.cells;
  units = plan.units;
  common = o;
}) none)

pub total_alone : {B : ℕ} {plan : Plan} {g : List (Iv B)} → plan.common ≡ None → IsTotalOf plan g
    → IsTotalOf (independent plan) g
total_alone {plan = plan} {g = g} none t = subst (λ whole. IsTotalOf whole g) (sym (is_independent plan none)) t
