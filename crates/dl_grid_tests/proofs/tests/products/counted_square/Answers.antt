use Rattle.std.proofs.Common.{◌≡◌, arith, length}
use Rattle.dl_grid_tests.proofs.tests.products.counted_square.Goals as goal

pub halved-requires-clause-halvable : goal.halved-requires-clause-halvable
halved-requires-clause-halvable c =
    let kept = c.loop-i.invariant in
    let e : length c.as_slice.result.now ≡ 1024 = omega arith in
    record { halvings = 5; few = omega arith; length_is = e }
