use Rattle.dl_cert.proofs.Common.{arith, sym, subst, ◌+◌}
use Rattle.dl_cert.proofs.ReadCells.{ReadTo, one_read, none_more, all_read, more_left}
use Rattle.dl_cert.proofs.lines.cells_from.Goals as goal

pub loop-count-preserved : goal.loop-count-preserved
loop-count-preserved c =
    subst (λ l. ReadTo c.args.text.now c.args.start c.in-Some.read.next (c.loop-count._count + 1) l)
    (sym c.in_ok-push-in-Some.ensures.items)
    (one_read c.loop-count.invariant c.in-Some.ensures.cell c.in-Some.ensures.within)

pub returns-in-None : goal.returns-in-None
returns-in-None c =
    none_more c.args.cells c.loop-count.invariant c.loop-count-test.true c.in-None.ensures.cell

pub returns-then-from-text : goal.returns-then-from-text
returns-then-from-text c = λ list are long.
    more_left c.loop-count.invariant c.if-from-text.true list are
    (omega (arith, long, c.loop-count-test.false, c.loop-count.auto._count-end))

pub returns : goal.returns
returns c = (
  all_read
      c.loop-count.invariant c.if-from-text.false,
  omega (arith, c.loop-count.invariant.many, c.loop-count-test.false, c.loop-count.auto._count-end),
)
