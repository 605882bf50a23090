use Rattle.dl_transform.proofs.Common.{◌≡◌, ◌+◌, ◌*◌, ◌^◌, get_or, arith, point}
use Rattle.dl_transform.proofs.Residues.{same_trans}
use Rattle.dl_transform.proofs.Values.{eval_same}
use Rattle.dl_transform.proofs.modular.values_of.Goals as goal

pub returns-clause-values : goal.returns-clause-values
returns-clause-values c k b =
    let p = c.args.table.now.p in
    let roots = c.args.table.now.roots.items in
    let n = 2 ^ c.args.levels in
    let e : 0 * n + k ≡ k = omega arith in
    same_trans (rw e at (c.to_values.ensures.values k b)) (eval_same p n (λ i. get_or c.load.new.x i 0)
    (λ i. get_or c.args.a.now i 0) (point p roots k) (λ i _. c.load.ensures.same i))
