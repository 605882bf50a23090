use Rattle.dl_recursion.proofs.Common.{◌≡◌, ◌+◌, ◌-◌, ◌*◌, arith, sym}
use Rattle.std.proofs.lemmas.Nat.{div-mul-add}
use Rattle.dl_recursion.proofs.quotient.quotient.Goals as goal

pub returns-then-rest-d-2 : goal.returns-then-rest-d-2
returns-then-rest-d-2 c =
    let n = c.args.n in
    let d = c.from-d.result in
    let g = c.from-guess.result in
    let r = n - g * d - d in
    let e : (g + 1) * d + r ≡ n = omega (arith, c.if-product-n.true, c.if-rest-d.false) in
    rw (← c.from-d.ensures) (sym (rw e at (div-mul-add (g + 1) d r c.if-rest-d-2.true)))
