-- The severity before its atoms and their weights.
use Rattle.dl_reading.proofs.ListLengths.{mixture_agrees}
use Rattle.dl_reading.proofs.list_lengths.mixture_lists.Goals as goal

pub returns : goal.returns
returns c = λ most bs.
    mixture_agrees c.args.bounds most bs c.args.mix.now (rw c.as_slice-atoms.ensures at c.atoms_lists-lists.ensures)
    c.weights_list-weights.ensures c.or.ensures
    (rw (c.long_at.ensures, c.span_if.ensures, c.as_slice-atoms.ensures) at c.or-2.ensures)
