use Rattle.dl_cert.proofs.Common.{subst, sym, arith, ap, length, drop, Start, BeginsStep}
use Rattle.dl_cert.proofs.Readings.{begins_start, no_start}
use Rattle.dl_cert.proofs.lines.start_of.Goals as goal

pub number_from-requires : goal.number_from-requires
number_from-requires c = omega (arith, ap length c.requires)

pub returns-in_default : goal.returns-in_default
returns-in_default c = no_start c.args.line.now (drop 6 c.args.line.now) c.requires c.in_default.ensures.number

pub returns : goal.returns
returns c = (
  subst (λ t. BeginsStep c.args.line.now (Start c.in-Some.unit.number) t) (sym c.in-Some.ensures.next)
      (begins_start (drop 6 c.args.line.now) c.requires c.in-Some.ensures.number),
  c.in-Some.ensures.within,
)
