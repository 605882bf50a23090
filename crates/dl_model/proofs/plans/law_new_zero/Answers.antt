use Rattle.dl_model.proofs.NewZero.{count_new_zero, some_weight}
use Rattle.dl_model.proofs.PlanUnits.{count_declared}
use Rattle.dl_model.proofs.plans.law_new_zero.Goals as goal

pub returns : goal.returns
returns c = record {
  most = λ freq p count h. count_new_zero freq p count h;
  some = λ freq p count h. some_weight _ (count_declared freq count) (count_new_zero freq p count h);
}
