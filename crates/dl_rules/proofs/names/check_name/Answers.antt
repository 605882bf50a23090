-- A name is new exactly where no name before it is the same.
use Rattle.dl_rules.proofs.Common.{subst, at_if, breaks, HasFault}
use Rattle.dl_rules.proofs.Naming.{is_old, name_taken}
use Rattle.dl_rules.proofs.names.check_name.Goals as goal

pub returns-clause-fault : goal.returns-clause-fault
returns-clause-fault c =
    rw c.as_slice.ensures at (subst
    (λ b. HasFault (breaks c.args.number c.args.rule (at_if b c.args.name.now.span)) c.broken.result)
    (is_old c.as_slice.result.now c.args.names.now.keys c.in_ok-is_new.is_new c.in_ok-is_new.ensures.added)
    (rw c.span_if.ensures at c.broken.ensures))

pub returns-clause-names : goal.returns-clause-names
returns-clause-names c =
    rw c.as_slice.ensures at (name_taken c.args.number c.args.rule c.args.name.now.span c.args.names.now.keys
    c.insert.new.self.keys c.as_slice.result c.in_ok-is_new.is_new _ c.broken.result c.in_ok-is_new.ensures.added
    c.in_ok-is_new.ensures.keys (rw c.span_if.ensures at c.broken.ensures))
