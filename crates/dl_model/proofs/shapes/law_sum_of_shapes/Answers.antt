use Rattle.dl_model.proofs.Common.{sym}
use Rattle.dl_model.proofs.Gamma.{gamma_plus}
use Rattle.dl_model.proofs.shapes.law_sum_of_shapes.Goals as goal

pub returns : goal.returns
returns c r t x n = sym (gamma_plus r t x n)
