use Rattle.dl_cert.proofs.Common.{ℕ, ◌+◌, ◌/◌, ◌++◌, refl, arith, IfOk-weaker, target, often}
use Rattle.dl_cert.proofs.Ladder.{often_both, both_le, joined, digit_fewer}
use Rattle.dl_cert.proofs.WrittenSteps.{made_kept}
use Rattle.dl_cert.proofs.steps.+power.Goals as goal

pub returns-then-n-eq0-clause-count : goal.returns-then-n-eq0-clause-count
returns-then-n-eq0-clause-count t c k h =
    let d = digit_fewer c.args.n k (omega arith) h in
    omega (arith, c.in_ok-half.ensures.count d.0 d.2, c.in_ok-even.ensures.count, d.1)

pub times-requires-2-clause-few : goal.times-requires-2-clause-few
times-requires-2-clause-few t c =
    let few = c.requires.few in
    let d = digit_fewer c.args.n few.0 (omega arith) few.1 in
    omega (arith, c.in_ok-half.ensures.count d.0 d.2, c.in_ok-even.ensures.count, d.1, few.2)

pub returns-clause-count : goal.returns-clause-count
returns-clause-count t c =
    IfOk-weaker c.times-2.result _ _ (λ f more k h.
    let d = digit_fewer c.args.n k (omega arith) h in
    omega (arith, c.in_ok-half.ensures.count d.0 d.2, c.in_ok-even.ensures.count, d.1, more)) c.times-2.ensures.count

pub returns-then-n-eq0-clause-ends : goal.returns-then-n-eq0-clause-ends
returns-then-n-eq0-clause-ends t c made u w m last within =
    let plan = c.args.plan.now in
    let n = c.args.n in
    let h = c.in_ok-half.ensures.ends made u w m last (omega (arith, within)) in
    let e = c.in_ok-even.ensures.ends (made ++ h.later) (often u (n / 2)) (often u (n / 2)) h.written h.step h.step
    (both_le u (n / 2) (n / 2) n (target plan) (omega arith) within) in
    joined h.later e (often_both u (n / 2) (n / 2) n (omega arith))

pub returns-clause-ends : goal.returns-clause-ends
returns-clause-ends t c =
    IfOk-weaker c.times-2.result _ _ (λ f ends made u w m last within.
    let plan = c.args.plan.now in
    let n : ℕ = c.args.n in
    let k : ℕ = n / 2 + n / 2 in
    let h = c.in_ok-half.ensures.ends made u w m last (omega (arith, within)) in
    let e = c.in_ok-even.ensures.ends (made ++ h.later) (often u (n / 2)) (often u (n / 2)) h.written h.step h.step
    (both_le u (n / 2) (n / 2) k (target plan) refl (omega (arith, within))) in
    let even = joined h.later {y = often u k} e (often_both u (n / 2) (n / 2) k refl) in
    joined even.later (ends (made ++ even.later) (often u k) (often u 1) even.written even.step
    (made_kept even.later m) (both_le u k 1 n (target plan) (omega arith) within))
    (often_both u k 1 n (omega arith))) c.times-2.ensures.ends
