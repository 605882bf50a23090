use Rattle.dl_cert.proofs.Common.{◌∙◌, ◌∷◌, ◌++◌, [], ◌≤◌, ◌^◌, sym, ap, arith, Iv, low_at, high_at, low_base, high_base, low_at_front, low_at_pushed, high_at_front, high_at_pushed, All-push}
use Rattle.dl_cert.proofs.Outside.{base_same}
use Rattle.dl_cert.proofs.StartGrids.{one_more_is}
use Rattle.dl_cert.proofs.starting.start_cells.Goals as goal

pub loop-y-preserved : goal.loop-y-preserved
loop-y-preserved c =
    let i = c.loop-y.invariant in
    let base = c.args.base.now in
    let sev = c.args.sev.now in
    let list = c.loop-y.list.items in
    let cell = c.number_after-cell.result in
    let y = c.loop-y.y in
    let e = c.number_after-cell.ensures in
    rw c.in_ok-push.ensures.items (record {
      cells = grind arith;
      small = All-push (λ (cell : Iv 56). cell.hi ≤ 2 ^ 56) list cell i.small e.small;
      low = one_more_is (low_base base sev) (low_at list) (low_at (list ++ cell ∷ [])) y
          (λ f h m same. (base_same base sev f h m same).0)
          (λ k near. low_at_front list (cell ∷ []) k (omega (arith, near, i.cells))) i.low
          (low_at_pushed list cell y (sym i.cells) ∙ (rw c.as_slice.ensures.value at e.low)
          ∙ ap (low_base base sev (low_at list)) i.cells);
      high = one_more_is (high_base base sev) (high_at list) (high_at (list ++ cell ∷ [])) y
          (λ f h m same. (base_same base sev f h m same).1)
          (λ k near. high_at_front list (cell ∷ []) k (omega (arith, near, i.cells))) i.high
          (high_at_pushed list cell y (sym i.cells) ∙ (rw c.as_slice.ensures.value at e.high)
          ∙ ap (high_base base sev (high_at list)) i.cells);
    })
