-- What is made and the last item have the weights of the items read so far.
use Rattle.dl_severity.proofs.Gathering.{IsGathered}
use Rattle.dl_severity.proofs.gather.added_up.Given as goal

abbrev pub invariant-items : goal.invariant-items
invariant-items l = IsGathered l.items l.item-index l.made.items l.last
