use Rattle.dl_totals.proofs.shared.sums_of_none.Goals as goal

pub returns-clause-total : goal.returns-clause-total
returns-clause-total g c = record {
  cells = c.in_ok-total.ensures.cells;
  encloses = c.in_ok-total.ensures.encloses;
  narrow = c.in_ok-total.ensures.spread;
}
