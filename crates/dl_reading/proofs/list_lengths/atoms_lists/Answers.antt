-- One atom more.
use Rattle.dl_reading.proofs.Common.{◌&&◌, arith, ap, nat_lt, not, refl, sym, take_all, most_values}
use Rattle.dl_reading.proofs.ListLengths.{atoms_none, atoms_more, many_read}
use Rattle.dl_reading.proofs.list_lengths.atoms_lists.Goals as goal

pub atoms-init : goal.atoms-init
atoms-init c = record { read = atoms_none c.args.bounds c.none-flaws.ensures; few = omega arith }

pub atoms-preserved : goal.atoms-preserved
atoms-preserved c = record {
  read = atoms_more c.args.bounds c.args.atoms.now c.atoms.atom-index c.atoms-test.true c.atom-item.is c.atoms.invariant.read
      c.list_length-values.ensures.read c.probs_list-probs.ensures c.or.ensures c.or-flaws.ensures refl c.min-total.ensures;
  few = omega (arith, c.min-total.ensures);
}

pub returns-then-not-is_long : goal.returns-then-not-is_long
returns-then-not-is_long c =
    many_read c.args.bounds c.args.atoms.now (rw (take_all c.atoms.atom-index c.args.atoms.now c.atoms-test.false) at
    c.atoms.invariant.read) (ap (λ b. not b && nat_lt most_values c.atoms.total) (sym c.if-not-is_long.true))
