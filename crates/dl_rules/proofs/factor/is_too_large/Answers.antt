-- The sums are there, or one is not.
use Rattle.dl_rules.proofs.Common.{◌∙◌, map, sym, UnitOfPlan, expected_count, part_of}
use Rattle.dl_rules.proofs.RunningSums.{each_below_of}
use Rattle.dl_rules.proofs.FactorBounds.{bounds_large, none_large}
use Rattle.dl_rules.proofs.factor.is_too_large.Goals as goal

pub returns-then-has_no_next : goal.returns-then-has_no_next
returns-then-has_no_next c =
    sym (none_large c.args.bounds.parts c.args.shape (map part_of c.args.units.now) (sym c.has_no_next.ensures ∙ c.if-has_no_next.true))

pub returns-in_default : goal.returns-in_default
returns-in_default c = sym (c.in_default.ensures.none c.args.bounds.parts c.args.shape)

pub passes_bounds-requires-clause-each : goal.passes_bounds-requires-clause-each
passes_bounds-requires-clause-each c = each_below_of (λ (u : UnitOfPlan). expected_count u.freq) c.args.units.now
    c.in-Some.sums.0 c.in-Some.ensures.expected

pub returns : goal.returns
returns c =
    c.passes_bounds.ensures ∙ bounds_large c.args.bounds.parts c.args.shape c.args.units.now c.in-Some.sums.0 c.in-Some.sums.1
    (sym c.has_no_next.ensures ∙ c.if-has_no_next.false) c.in-Some.ensures.expected c.in-Some.ensures.above
