use Rattle.dl_budget.proofs.Sums.{room_of}
use Rattle.dl_budget.proofs.units.others_budget.Goals as goal

pub sum_without-requires-clause-room : goal.sum_without-requires-clause-room
sum_without-requires-clause-room g c =
    room_of c.args.plan.now c.as_slice.result.now c.requires.valid c.as_slice.ensures
