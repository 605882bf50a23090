use Rattle.dl_cert.proofs.Common.{◌+◌, ◌∙◌, arith, sym, ap, length, drop, drop_all}
use Rattle.dl_cert.proofs.Readings.{no_first, no_second, no_more, word_ends, times_read}
use Rattle.dl_cert.proofs.lines.times_of.Goals as goal

pub number_from-requires : goal.number_from-requires
number_from-requires c = omega (arith, ap length c.requires)

pub returns-in_default : goal.returns-in_default
returns-in_default c =
    no_first c.args.line.now (drop 6 c.args.line.now) c.requires c.in_default.ensures.number

pub returns-then-first-line : goal.returns-then-first-line
returns-then-first-line c =
    no_more c.args.line.now (drop 6 c.args.line.now) c.requires
    (sym c.in-Some.ensures.next ∙ drop_all c.in-Some.first.next c.args.line.now (omega (arith, c.if-first-line.true)))

pub returns-in_default-number_from : goal.returns-in_default-number_from
returns-in_default-number_from c =
    no_second c.args.line.now (drop 6 c.args.line.now) c.requires
    (drop (c.in-Some.first.next + 1) c.args.line.now)
    (word_ends c.args.line.now (drop 6 c.args.line.now) c.in-Some.first.next
    (omega (arith, c.if-first-line.false, c.in-Some.ensures.within)) c.in-Some.ensures.next)
    c.in_default-number_from.ensures.number

pub returns : goal.returns
returns c = (
  times_read c.in-Some.first.next c.in-Some-number_from.second.next c.requires c.in-Some.ensures.number c.in-Some.ensures.next
      (omega (arith, c.if-first-line.false, c.in-Some.ensures.within)) c.in-Some-number_from.ensures.number
      c.in-Some-number_from.ensures.next,
  c.in-Some-number_from.ensures.within,
)
