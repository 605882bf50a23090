-- One atom more.
use Rattle.dl_reading.proofs.Common.{◌∙◌, arith, sym, take_all}
use Rattle.dl_reading.proofs.Single.{few_more}
use Rattle.dl_reading.proofs.list_lengths.have_few_values.Goals as goal

pub atoms-preserved : goal.atoms-preserved
atoms-preserved c =
    few_more c.args.atoms.now c.atoms.atom-index c.atoms.room c.requires c.atoms-test.true c.atom-item.is c.as_slice-items.ensures
    (sym c.are_single.ensures ∙ c.if-not-are_single.false) c.if-items-room.false c.atoms.invariant

pub returns : goal.returns
returns c = λ yes.
    let few = rw (take_all c.atoms.atom-index c.args.atoms.now c.atoms-test.false) at c.atoms.invariant in
    omega (arith, few)
