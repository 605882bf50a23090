use Rattle.dl_product.proofs.sums.Room.sums.Goals as goal

pub list_sums-requires-clause-fit : goal.list_sums-requires-clause-fit
list_sums-requires-clause-fit c = rw (c.lows_of.ensures c.args.a) c.requires.lows

pub list_sums-requires-2-clause-fit : goal.list_sums-requires-2-clause-fit
list_sums-requires-2-clause-fit c = rw (c.highs_of.ensures c.args.a) c.requires.highs

pub returns : goal.returns
returns c = record {
  low_cells = c.in_ok-lows.ensures.cells;
  high_cells = c.in_ok-highs.ensures.cells;
  low = λ xs us ys vs p q s inside. c.in_ok-lows.ensures.sums _ _ p.low
      (rw (c.lows_of.ensures c.args.a) (rw c.requires.step at q.low)) s inside;
  high = λ xs us ys vs p q s inside. c.in_ok-highs.ensures.sums _ _ p.high
      (rw (c.highs_of.ensures c.args.a) (rw c.requires.step at q.high)) s inside;
}
