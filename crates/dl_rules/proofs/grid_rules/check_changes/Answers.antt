-- The rule on the horizon comes first.
use Rattle.dl_rules.proofs.Common.{◌else◌, sym, subst, HasFault, breaks, horizon_too_large, zero_base, HorizonTooLarge, ZeroBase, count_of, number_of}
use Rattle.dl_rules.proofs.Stops.{skip, stop_first, stopped}
use Rattle.dl_rules.proofs.grid_rules.check_changes.Goals as goal

pub returns-in_err-cede-clause-fault : goal.returns-in_err-cede-clause-fault
returns-in_err-cede-clause-fault c =
    let stop = c.in_err-cede.field-0.0 in
    stopped (HasFault (breaks c.args.number HorizonTooLarge (horizon_too_large c.args.cells c.args.agr)
    else breaks c.args.number ZeroBase (zero_base (count_of c.args.count.now) c.args.zero.now (number_of c.args.count.now))))
    c.from_residual.result stop c.from_residual.ensures (stop_first _ _ stop c.in_err-cede.ensures.fault)

pub returns-clause-fault : goal.returns-clause-fault
returns-clause-fault c =
    subst (λ o. HasFault o c.unless_broken.result) (sym (skip _ _ c.in_ok-cede.ensures.fault))
    (rw c.zero_base-span.ensures at (c.unless_broken.ensures.fault _ c.broken.ensures))
