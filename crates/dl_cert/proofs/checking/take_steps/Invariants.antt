use Rattle.dl_cert.proofs.Common.{◌≤◌, ◌-◌, length, HasPassedTo}
use Rattle.dl_cert.proofs.checking.take_steps.Given as goal

abbrev pub invariant-lines : goal.invariant-lines
invariant-lines l =
    HasPassedTo l.of.plan.now l.of.text.now l.offset l.so_far.offsets.items l.so_far.labels.items × (l.offset ≤ length l.of.text.now)

abbrev pub decreases-lines : goal.decreases-lines
decreases-lines l = length l.of.text.now - l.offset
