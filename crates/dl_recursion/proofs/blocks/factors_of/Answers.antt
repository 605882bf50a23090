use Rattle.dl_recursion.proofs.Common.{◌≡◌, ◌+◌, ◌*◌, arith, ap, get_or, ◌∙◌, length-set, get_or_default, Part}
use Rattle.dl_recursion.proofs.BlockSums.{factor_added, factor_past, factor_room}
use Rattle.dl_recursion.proofs.blocks.factors_of.Goals as goal
use Rattle.dl_recursion.proofs.blocks.factors_of.Goals.{then-part-cells, else-part-cells}

pub overflow_add-index_mut : goal.overflow_add-index_mut
overflow_add-index_mut c =
    let k = c.loop-part.part-index in
    let p : Part = get_or c.args.parts.now k (record { amount = 0; weight = 0 }) in
    let room = factor_room c.args.after c.args.cells c.args.parts.now k (record { amount = 0; weight = 0 }) c.loop-part-test.true p.amount
    (omega (arith, c.if-part-cells.true)) c.requires.room in
    let before : c.index_mut.result.now ≡ get_or c.loop-part.factors.items p.amount 0 =
    c.index_mut.ensures.value
    ∙ get_or_default c.loop-part.factors.items p.amount _ 0 (rw c.loop-part.invariant.count c.if-part-cells.true) in
    record { fits = omega (arith, before, c.loop-part.invariant.each p.amount c.if-part-cells.true, room) }

pub loop-part-preserved : goal.loop-part-preserved
loop-part-preserved c =
    let i = c.loop-part.invariant in
    let k = c.loop-part.part-index in
    let p : Part = get_or c.args.parts.now k (record { amount = 0; weight = 0 }) in
    elim c.if-part-cells.branch [
      | then-part-cells w ↦ rw w.factors-is (record {
        count = length-set c.loop-part.factors.items p.amount _ ∙ i.count;
        each = factor_added c.args.after c.args.cells c.args.parts.now k (record { amount = 0; weight = 0 }) c.loop-part-test.true
            c.loop-part.factors.items _ i.count w.if-part-cells.true i.each
            (ap (λ t. t + c.args.after * p.amount * p.weight)
            (w.index_mut.ensures.value ∙ get_or_default c.loop-part.factors.items p.amount _ 0 (rw i.count w.if-part-cells.true)));
      })
      | else-part-cells w ↦ rw w.factors-is (record {
        count = i.count;
        each = λ j h. i.each j h ∙ factor_past c.args.after c.args.cells c.args.parts.now k (record { amount = 0; weight = 0 })
            c.loop-part-test.true j (λ e. omega (arith, e, h, w.if-part-cells.false));
      })
    ]
