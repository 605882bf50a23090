-- A part of all claims is at most 1, and where it is fine it is not refused.
use Rattle.dl_pool.proofs.Common.{◌∙◌, ap, arith, length-map, map, take_all, unit_share, sym, subst, FitsFrac, lent, ◌/ℚ◌, given_value}
use Rattle.dl_pool.proofs.Units.{each_admitted, each_counts, share_fits, shares_step, lent_inside, lent_item, not_refused}
use Rattle.dl_pool.proofs.shares.shares.Goals as goal

pub returns-in_default-clause-there : goal.returns-in_default-clause-there
returns-in_default-clause-there c fine =
    let units = c.args.units.now in
    absurd (not_refused _ _ _ c.div.ensures c.in_default.is
    (subst FitsFrac (sym (ap (λ n. n /ℚ c.args.all) c.expected.ensures))
    (share_fits (lent units) c.args.all c.units.unit-index c.unit-item.result.now
    (lent_inside units c.units.unit-index c.units-test.true)
    (lent_item units c.units.unit-index c.unit-item.result c.units-test.true c.unit-item.is)
    c.requires.all c.requires.some fine)))

pub units-preserved : goal.units-preserved
units-preserved c =
    let units = c.args.units.now in
    shares_step (lent units) c.args.all c.units.unit-index c.unit-item.result.now c.units.made.items _ c.in-Ok.share
    (lent_inside units c.units.unit-index c.units-test.true)
    (lent_item units c.units.unit-index c.unit-item.result c.units-test.true c.unit-item.is)
    c.units.invariant c.in_ok-push.ensures.items
    (given_value _ _ c.in-Ok.share c.div.ensures c.in-Ok.is ∙ ap (λ n. n /ℚ c.args.all) c.expected.ensures)

pub expected-requires-clause-count : goal.expected-requires-clause-count
expected-requires-clause-count c = each_counts c.args.units.now c.units.unit-index c.unit-item.result c.units-test.true
    c.unit-item.is c.requires.poisson

pub expected-requires-clause-admitted : goal.expected-requires-clause-admitted
expected-requires-clause-admitted c = each_admitted c.args.units.now c.units.unit-index c.unit-item.result
    c.units-test.true c.unit-item.is c.requires.each

pub returns-clause-value : goal.returns-clause-value
returns-clause-value c = c.units.invariant ∙ ap (map (unit_share c.args.all))
    (take_all c.units.unit-index (lent c.args.units.now)
    (omega (arith, length-map c.args.units.now (λ unit. unit.now), c.units-test.false)))
