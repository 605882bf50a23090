use Rattle.dl_cert.proofs.Common.{refl, IsTrue, Times}
use Rattle.dl_cert.proofs.Tests.{times_tested}
use Rattle.dl_cert.proofs.test.are_times.Goals as goal

pub returns : goal.returns
returns c = λ labels before so_far.
    times_tested (IsTrue c.is_beside.result) c.args.plan.now before c.args.cells.now c.requires.cells
    {kind = Times c.args.first c.args.second} c.args.first c.args.second c.in_ok-left.left c.in_ok-right.right
    c.in_ok-numbers.numbers c.is_beside.ensures refl
    (c.in_ok-left.ensures.cells labels before so_far) (c.in_ok-right.ensures.cells labels before so_far)
    c.in_ok-numbers.ensures.convolution
