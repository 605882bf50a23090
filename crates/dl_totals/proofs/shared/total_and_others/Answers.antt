use Rattle.dl_totals.proofs.Common.{arith, sym, ◌∙◌, IfOk-weaker, false≢true, AreUnits, HaveCells}
use Rattle.dl_totals.proofs.Alone.{none_without}
use Rattle.dl_totals.proofs.shared.total_and_others.Goals as goal

pub sums_of_only-requires : goal.sums_of_only-requires
sums_of_only-requires g c =
    let have : HaveCells {B = g.row.B} c.args.cells c.args.units.now = record {
      some = c.requires.some;
      in_each = c.requires.in_each;
    } in
    (omega arith, (omega arith, (omega (arith, c.in-Some.ensures.inside, c.requires.asked), (c.requires.few, have))))

pub returns-in-Some-clause-others : goal.returns-in-Some-clause-others
returns-in-Some-clause-others g c =
    IfOk-weaker c.sums_of_only.result _ _ (λ sums are. are c.args.asked.now c.requires.asked c.in-Some.ensures)
    c.sums_of_only.ensures.others

pub sums_by_tree-requires : goal.sums_by_tree-requires
sums_by_tree-requires g c =
    let are : AreUnits {B = g.row.B} c.args.cells c.args.units.now = record {
      units = c.requires.units;
      some = c.requires.some;
      in_each = c.requires.in_each;
    } in
    (omega arith, (omega arith, (are, (c.requires.few, c.requires.asked))))

pub returns-clause-others : goal.returns-clause-others
returns-clause-others g c =
    IfOk-weaker c.sums_of_none.result _ _ (λ sums is.
    none_without c.args.cells c.args.units.now c.args.asked.now sums.others.items
    (λ some. false≢true (sym c.if-some_asked.false ∙ c.some_asked.ensures.1 some)) c.requires.asked is)
    c.sums_of_none.ensures.others
