use Rattle.dl_cert.proofs.Common.{ℕ, ◌≡◌, ◌∙◌, sym, ap, get_or, target, unit_parts}
use Rattle.dl_cert.proofs.Ladder.{sum_more, sum_same}
use Rattle.dl_cert.proofs.Tests.{start_is}
use Rattle.dl_cert.proofs.steps.with_unit.Goals as goal

pub returns-then-parts-eq0-clause-sum : goal.returns-then-parts-eq0-clause-sum
returns-then-parts-eq0-clause-sum c =
    let unit = c.index-units-unit in
    let is = start_is c.args.plan.now.units c.args.unit unit.result c.requires.inside
    (unit.is ∙ ap (λ t. get_or t c.args.unit unit.result) c.as_slice-units.ensures) unit_parts in
    sum_same c.args.plan.now c.args.unit _ _ c.args.sum (sym is ∙ sym c.parts-parts.ensures.value ∙ c.if-parts-eq0.true)
    c.requires.before

pub returns-clause-sum : goal.returns-clause-sum
returns-clause-sum c =
    let plan = c.args.plan.now in
    let u : ℕ = c.args.unit in
    let unit = c.index-units-unit in
    let is = start_is plan.units u unit.result c.requires.inside
    (unit.is ∙ ap (λ t. get_or t u unit.result) c.as_slice-units.ensures) unit_parts in
    let same : c.parts-parts.result ≡ target plan u = c.parts-parts.ensures.value ∙ is in
    sum_more plan u _ c.unit_power.new.steps.text.items _ c.unit_power.new.steps.count c.args.sum c.in_ok-power.power
    c.in_ok-sum.sum c.requires.before
    (λ made w. rw (← same) (c.in_ok-power.ensures.ends made w))
    (λ made w m last before. c.in_ok-sum.ensures.ends made u w m last before)
