-- What asks that are admitted name, and the budgets that they need.
use Rattle.std.specs.Prelude.{ℕ, ◌≡◌, List}
use Rattle.dl_plan.specs.declared.plan.Plan.{Plan}
use Rattle.dl_plan.specs.declared.settings.Asked.{Asked}
use Rattle.dl_budget.specs.Asks.{named_units}
use Rattle.dl_budget.specs.Once.{AreAllBudgets, HaveBudgets}
use Rattle.dl_answers.specs.declared.admission.Admitted.{Admitted}

-- the numbers of the units that the asks name, and the budgets of the total and of these units
pub record IsAdmissionOf (S : ℕ) (plan : Plan) (asks : List Asked)
    (admitted : Admitted) : Type 0 where
  pub numbers : admitted.named.items ≡ named_units plan.units asks
  pub budgets : AreAllBudgets S plan admitted.budgets
  pub there : HaveBudgets plan admitted.named.items admitted.budgets
