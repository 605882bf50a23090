-- The sums stay small, and an amount above q adds nothing.
use Rattle.dl_shares.proofs.Common.{◌∙◌, ap, arith, refl, sym, low_at, size_of, size_few, sums_of}
use Rattle.dl_shares.proofs.Tilted.{amounts_fit, amounts_more, amounts_same}
use Rattle.dl_shares.proofs.ClaimSums.{running_fit}
use Rattle.dl_shares.proofs.running.running_sums.Goals as goal
use Rattle.dl_shares.proofs.running.running_sums.Goals.{then-item-q, else-item-q}

pub overflow_mul-low : goal.overflow_mul-low
overflow_mul-low g c =
    let fits = running_fit c.args.total.now c.args.q c.args.items.now c.items.item-index
    (record { amount = 0; weight = 0 }) c.items.low c.sum_from-sum.result
    c.cells.ensures.grid c.requires.inside c.items-test.true c.items.invariant.low (omega arith) c.sum_from-sum.ensures
    c.requires.within in
    omega arith

pub overflow_add-low : goal.overflow_add-low
overflow_add-low g c =
    let fits = running_fit c.args.total.now c.args.q c.args.items.now c.items.item-index
    (record { amount = 0; weight = 0 }) c.items.low c.sum_from-sum.result
    c.cells.ensures.grid c.requires.inside c.items-test.true c.items.invariant.low (omega arith) c.sum_from-sum.ensures
    c.requires.within in
    omega arith

pub overflow_add-all : goal.overflow_add-all
overflow_add-all g c =
    let grid = c.cells.ensures.grid in
    let fits = amounts_fit c.args.q (λ _. 1) c.args.items.now c.items.item-index
    (record { amount = 0; weight = 0 }) c.items-test.true c.items.all 1 1
    c.items.invariant.parts (omega arith) refl (λ k. omega arith)
    (omega (arith, size_few (size_of c.args.total.now grid))) (omega arith) c.requires.within in
    omega arith

pub items-preserved : goal.items-preserved
items-preserved g c =
    let sums = sums_of (low_at c.args.total.now) in
    let i = c.items.invariant in
    elim c.if-item-q.branch [
      | then-item-q w ↦ record {
        place = omega (arith, w.place-is);
        sum = w.sum-is ∙ w.sum_from-sum.ensures ∙ ap sums (sym w.place-is);
        low = w.low-is ∙ amounts_more c.args.q sums c.args.items.now c.items.item-index _ c.items-test.true c.items.low _ i.low
            w.if-item-q.true w.sum_from-sum.ensures;
        parts = omega (
          arith,
          w.all-is,
          amounts_more c.args.q (λ _. 1) c.args.items.now c.items.item-index _ c.items-test.true c.items.all 1 i.parts
              w.if-item-q.true refl,
        );
      }
      | else-item-q w ↦ record {
        place = omega (arith, w.place-is);
        sum = w.sum-is ∙ i.sum ∙ ap sums (sym w.place-is);
        low = w.low-is ∙ amounts_same c.args.q sums c.args.items.now c.items.item-index _ c.items-test.true c.items.low i.low
            w.if-item-q.false;
        parts = w.all-is ∙ amounts_same c.args.q (λ _. 1) c.args.items.now c.items.item-index _ c.items-test.true c.items.all
            i.parts w.if-item-q.false;
      }
    ]
