use Rattle.dl_transform.proofs.Common.{ℕ, ◌≡◌, ◌+◌, ◌*◌, ◌<◌, get_or, ap, arith, Same, set_done}
use Rattle.dl_transform.proofs.Residues.{same_below, same_trans}
use Rattle.dl_transform.proofs.combined.add_mixed.Goals as goal

pub loop-s-preserved : goal.loop-s-preserved
loop-s-preserved c =
    let p = c.args.table.now.p in
    let s = c.loop-s.s in
    let scale = get_or c.args.table.now.scales.items c.args.levels 0 in
    let first = rw c.scale-w.ensures.value at c.scaled.ensures.same in
    let low = get_or c.args.lows.now s 0 in
    let Q : ℕ → ℕ → Type 0 = λ s t. (n : ℕ) → n < p → Same p (get_or c.args.mixed.now s 0 * scale) n
    → t ≡ get_or c.args.lows.now s 0 + n in
    let here : Q s (low + c.scaled.result) =
    λ n b h. ap (λ t. low + t) (same_below (same_trans first h) c.scaled.ensures.small b) in
    set_done Q c.loop-s.highs s (low + c.scaled.result) (omega arith) c.loop-s.invariant here
