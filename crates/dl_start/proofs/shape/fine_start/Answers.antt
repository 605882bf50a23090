use Rattle.dl_start.proofs.Common.{ℕ, ◌≤◌, ◌≡◌, ◌+◌, ◌-◌, ◌*◌, ◌/◌, ◌^◌, ◌<◌, ◌∙◌, ap, arith, add-one, pow-suc, div-mul-le_self, lt-div-mul-add, le-div}
use Rattle.dl_start.proofs.Products.{two_pos}
use Rattle.dl_start.proofs.Rounding.{ceil_least}
use Rattle.dl_start.proofs.Beginnings.{geometric_holds}
use Rattle.dl_start.proofs.shape.fine_start.Goals as goal
use Rattle.dl_start.proofs.shape.fine_start.Goals.{then-part-all, else-part-all}

near_floor : (a d : ℕ) → 0 < d → (a + (d - 1)) / d ≤ a / d + 1
near_floor a d p = ceil_least a d (a / d + 1) p (omega (arith, lt-div-mul-add {a = a} {b = d} p))

last : (k : ℕ) → 17 ≤ k → k ≤ 17 → 2 ^ k ≡ 2 ^ 17
last k p q =
    let e : k ≡ 17 = omega (arith, p, q) in
    ap (λ t. 2 ^ t) e

pub loop-k-preserved : goal.loop-k-preserved
loop-k-preserved c =
    let i = c.loop-k.invariant in
    let e = c.loop-k.exponent in
    let next : 2 ^ (e + 1) ≡ 2 ^ e * 2 = ap (λ t. 2 ^ t) (add-one e) ∙ pow-suc 2 e in
    let more : 2 ^ (c.loop-k.k + 1) ≡ 2 ^ c.loop-k.k * 2 = ap (λ t. 2 ^ t) (add-one c.loop-k.k) ∙ pow-suc 2 c.loop-k.k in
    let doubled = ap (λ t. c.args.rest * t) more in
    elim c.if-part-all.branch [
      | then-part-all w ↦ rw (w.part-is, w.exponent-is) (record {
        raised = omega (arith, i.raised, ap (λ t. c.args.rest * t) next);
        within = omega (arith, w.if-part-all.true, c.from-all.ensures);
        grown = omega (arith, i.grown, doubled);
        least = omega (arith, i.least);
        most = omega (arith, i.most);
      })
      | else-part-all w ↦ rw (w.part-is, w.exponent-is) (record {
        raised = i.raised;
        within = i.within;
        grown = omega (arith, w.if-part-all.false, c.from-all.ensures);
        least = i.least;
        most = omega (arith, i.most);
      })
    ]

pub returns-clause-holds : goal.returns-clause-holds
returns-clause-holds c =
    let A = c.from-all.result in
    let all : A ≡ c.args.num + c.args.rest = c.from-all.ensures in
    let e = c.loop-k.exponent in
    let raised = c.loop-k.part * 9223372036854775808 in
    let same : raised ≡ c.args.rest * 2 ^ e = c.loop-k.invariant.raised in
    let Ap : 0 < A = omega arith in
    geometric_holds c.args.num c.args.rest (raised / A) ((raised + (A - 1)) / A) (2 ^ e) c.requires.positive (two_pos e)
    (rw (← all) (omega (arith, same, div-mul-le_self raised A)))
    (rw (← all) (omega (arith, same, lt-div-mul-add {a = raised + (A - 1)} {b = A} Ap)))

pub returns-clause-exact : goal.returns-clause-exact
returns-clause-exact c few =
    let A = c.from-all.result in
    let raised = c.loop-k.part * 9223372036854775808 in
    let all = ap (λ t. c.args.rest * t) (last c.loop-k.k (omega arith) (omega arith)) in
    let half : A ≤ c.loop-k.part + c.loop-k.part =
    omega (arith, c.from-all.ensures, c.loop-k.invariant.grown, few, all) in
    let low : 2 ^ 62 ≤ raised / A = le-div (2 ^ 62) raised A (omega arith) (omega (arith, half)) in
    record { bits = omega (arith, low); near = near_floor raised A (omega arith) }
