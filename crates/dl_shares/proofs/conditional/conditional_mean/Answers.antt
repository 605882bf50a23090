use Rattle.dl_shares.proofs.Common.{ℕ, ◌≡◌, ◌*◌, ◌^◌, ◌<◌, ◌≤◌, arith, ap, refl, div_ceil, mul-le-mul_right, pow_pos, ceiling_reaches}
use Rattle.dl_shares.proofs.Quotients.{quotient_holds, quotient_width}
use Rattle.dl_shares.proofs.conditional.conditional_mean.Goals as goal

-- what the test leaves
enough : (S one least a parts : ℕ) → 0 < parts → one ≡ S → least ≡ div_ceil one parts → least ≤ a → S ≤ a * parts
enough S one least a parts pos same e h =
    omega (arith, ceiling_reaches one parts pos, ap (λ t. t * parts) e, mul-le-mul_right parts h)

pub returns-then-at-least-clause-none : goal.returns-then-at-least-clause-none
returns-then-at-least-clause-none g c = (λ _. omega arith, λ _. refl)

pub returns-clause-none : goal.returns-clause-none
returns-clause-none g c = (λ e. absurd (cc), λ few. absurd (omega arith))

pub returns-clause-holds : goal.returns-clause-holds
returns-clause-holds g c =
    let some = pow_pos g.row.B in
    let above : 2 ^ g.row.B ≤ c.args.at.lo * 65536 =
    enough _ _ _ _ 65536 (omega arith) c.units_of_one.ensures c.div_ceil-least.ensures c.if-at-least.false in
    rw (c.div.ensures.low, c.div.ensures.high)
    (quotient_holds (2 ^ g.row.B) c.args.joint.lo c.args.joint.hi c.args.at.lo c.args.at.hi 65536 some
    (omega arith) (omega arith) (omega arith) above)

pub returns-clause-width : goal.returns-clause-width
returns-clause-width g c k inside =
    let some = pow_pos g.row.B in
    let above : 2 ^ g.row.B ≤ c.args.at.lo * 65536 =
    enough _ _ _ _ 65536 (omega arith) c.units_of_one.ensures c.div_ceil-least.ensures c.if-at-least.false in
    rw (c.div.ensures.low, c.div.ensures.high)
    (quotient_width (2 ^ g.row.B) c.args.joint.lo c.args.joint.hi c.args.at.lo c.args.at.hi 65536 k
    c.args.joint.ordered c.args.at.ordered (omega arith) above inside)
