use Rattle.dl_cert.proofs.Common.{ℕ, ◌≡◌, ◌+◌, ◌<◌, arith, IfOk-weaker, target, often, first_of, IsMade}
use Rattle.dl_cert.proofs.Ladder.{renamed, already, none_first, first_more, first_le}
use Rattle.dl_cert.proofs.steps.with_power.Goals as goal

pub returns-in-None-clause-ends : goal.returns-in-None-clause-ends
returns-in-None-clause-ends c made u w m last before =
    let plan = c.args.plan.now in
    let none : (i : ℕ) → i < u → target plan i ≡ 0 = rw c.in-None.is at before in
    renamed (already w m last) (λ i. omega (arith, first_more plan u i, none_first plan u none i))

pub returns-in-Some-clause-ends : goal.returns-in-Some-clause-ends
returns-in-Some-clause-ends c =
    IfOk-weaker c.times.result _ _ (λ f ends made u w m last before.
    let plan = c.args.plan.now in
    let sum : IsMade made c.in-Some.before.step c.in-Some.before.grid (first_of plan u) = rw c.in-Some.is at before in
    renamed (ends made (first_of plan u) (often u (target plan u)) w sum m
    (λ i. omega (arith, first_more plan u i, first_le plan (u + 1) i))) (first_more plan u)) c.times.ensures.ends
