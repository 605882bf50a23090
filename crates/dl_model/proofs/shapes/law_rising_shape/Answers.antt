use Rattle.dl_model.proofs.AnyShape.{gamma_le, gamma_bound}
use Rattle.dl_model.proofs.shapes.law_rising_shape.Goals as goal

pub returns : goal.returns
returns c = record { weights = λ r t x n h. gamma_le r t x h n; bounded = λ r x d one pos. gamma_bound x d one pos r }
