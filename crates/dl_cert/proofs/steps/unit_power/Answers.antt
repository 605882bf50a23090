use Rattle.dl_cert.proofs.Common.{ℕ, ◌≡◌, ◌++◌, length, refl, ap, ◌∙◌, arith, get_or, IfOk-weaker, thinned_mean, IsExactStart, often, EndsWith, ◌<◌, ◌≤◌, ◌^◌, target}
use Rattle.dl_cert.proofs.Ladder.{start_step, joined}
use Rattle.dl_cert.proofs.steps.unit_power.Goals as goal

pub power-requires-clause-few : goal.power-requires-clause-few
power-requires-clause-few c = (17, c.requires.few, omega (arith, c.in_ok-base.ensures.count, c.requires.room))

pub returns-clause-count : goal.returns-clause-count
returns-clause-count c =
    IfOk-weaker c.power.result _ _ (λ f count. omega (arith, count 17 c.requires.few, c.in_ok-base.ensures.count))
    c.power.ensures.count

pub returns-clause-ends : goal.returns-clause-ends
returns-clause-ends c =
    let plan = c.args.plan.now in
    let u : ℕ = c.args.unit in
    let base = c.in_ok-base.ensures in
    let unit = c.index-units-unit.result in
    let here : unit ≡ get_or plan.units u unit =
    c.index-units-unit.is ∙ ap (λ t. get_or t u unit) c.as_slice-units.ensures in
    let exact : IsExactStart unit.freq unit.sev (thinned_mean unit) c.in_ok-base.base.grid =
    rw base.grid c.in_ok-grid.ensures.exact in
    let few : u < 10 ^ 9 = omega (arith, c.requires.inside, c.requires.plan.valid.few) in
    let all : c.args.parts ≤ target plan u = omega (arith, c.requires.counted) in
    let some : 1 ≤ target plan u = omega (arith, all, c.requires.above) in
    IfOk-weaker c.power.result _ _ (λ f ends made w.
    let b : EndsWith plan c.add.new.steps.text.items c.add.new.steps.count made c.in_ok-base.base.step
    c.in_ok-base.base.grid (often u 1) =
    rw base.step (start_step u c.in_ok-base.base.grid w c.requires.inside few here base.text base.count exact base.is_grid
    (ap length base.grid ∙ c.in_ok-grid.ensures.cells) some) in
    joined b.later (ends (made ++ b.later) u b.written b.step b.last all) (λ i. refl)) c.power.ensures.ends
