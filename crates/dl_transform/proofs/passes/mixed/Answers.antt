use Rattle.dl_transform.proofs.Common.{◌≡◌, ◌+◌, ◌*◌, ◌^◌, arith, refl, Same}
use Rattle.dl_transform.proofs.Residues.{same_of, same_plus, same_refl, same_times, same_trans}
use Rattle.dl_transform.proofs.passes.mixed.Goals as goal

pub returns-clause-same : goal.returns-clause-same
returns-clause-same c =
    let p = c.args.p in
    let a = c.reduced-a.result in
    let b = c.reduced-b.result in
    let width : Same p c.lowered-width.result c.args.v = c.lowered-width.ensures.same p 2 refl in
    let high : Same p c.lowered-high.result (c.args.y + c.args.v) =
    same_trans (c.lowered-high.ensures.same p 2 refl) (same_plus (c.lowered.ensures.same p 2 refl) width) in
    let first : Same p (a * 2 ^ 64) (c.args.x * c.args.v) =
    same_trans c.reduced-a.ensures.same (same_times (c.lowered-2.ensures.same p 2 refl) width) in
    let second : Same p (b * 2 ^ 64) (c.args.u * (c.args.y + c.args.v)) =
    same_trans c.reduced-b.ensures.same (same_times (c.lowered-3.ensures.same p 2 refl) high) in
    let sum : (a + b) * 2 ^ 64 ≡ a * 2 ^ 64 + b * 2 ^ 64 = omega arith in
    same_trans (same_times (c.lowered-4.ensures.same p 2 refl) (same_refl p (2 ^ 64)))
    (same_trans (same_of p sum) (same_plus first second))
