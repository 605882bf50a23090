-- Asked of a portfolio alone, and of the units of its plan.
use Rattle.dl_rules.proofs.Common.{◌∙◌, ap, map, subst, HasFault, breaks, is_total_large, size_of}
use Rattle.dl_rules.specs.declared.rule.Rule.TheVariants as rules
use Rattle.dl_rules.proofs.ProgramSizes.{no_port, total_told}
use Rattle.dl_rules.proofs.totals.check_total.Goals as goal

pub returns-in_default : goal.returns-in_default
returns-in_default c = no_port c.args.settings.now c.args.program.now c.in_default.is

pub returns : goal.returns
returns c =
    subst (λ fault. HasFault fault c.broken.result)
    (ap (breaks 0 rules.TotalTooLarge) c.span_if.ensures
    ∙ total_told c.args.settings.now c.args.program.now c.args.units.now c.requires.units c.in-Some.head
    c.is_total_large-is_large.result c.in-Some.is (c.is_total_large-is_large.ensures
    ∙ ap (λ n. is_total_large n (map size_of c.args.units.now)) c.cells.ensures)) c.broken.ensures
