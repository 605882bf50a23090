use Rattle.dl_cert.proofs.Endings.{none_passed}
use Rattle.dl_cert.proofs.checking.read_steps.Goals as goal

pub take_steps-requires-clause-none : goal.take_steps-requires-clause-none
take_steps-requires-clause-none c =
    rw (c.new.ensures.items, c.new-2.ensures.items) (none_passed c.args.plan.now c.args.text.now)
