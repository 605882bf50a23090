-- The part of a unit that its start encloses, and how many of them the unit is the sum of.
use Rattle.std.specs.Prelude.{ℕ, ◌^◌, nat_eq, if◌then◌else◌, List, map, get_or}
use Rattle.dl_exact.specs.Fraction.{Fraction, whole, ◌/ℚ◌}
use Rattle.dl_plan.specs.declared.plan.Freq.{Freq}
use Rattle.dl_plan.specs.declared.plan.Freq.TheVariants.{Fixed, Table, Bernoulli, Binomial, Poisson, Gamma}
use Rattle.dl_plan.specs.declared.plan.Plan.{Plan}
use Rattle.dl_plan.specs.declared.plan.Unit.{Unit as UnitOfPlan}
use Rattle.dl_plan.specs.declared.severity.Sev.{Sev}
use Rattle.dl_plan.specs.Prelude.{probability_of, pairs_of, conditioned, probability, thinned_mean}
use Rattle.dl_budget.specs.Halvings.{halvings}
use Rattle.dl_model.specs.Prelude.{fixed, binomial, poisson, gamma_of, Family, compound, nothing}
use Rattle.dl_cert.specs.Labels.{Label}

-- the severity of the claims above 0
abbrev pub above_zero : Sev → ℕ → Fraction
above_zero sev = probability (conditioned 0 (pairs_of sev))

-- the first where v is 0, else the second
abbrev pub where_none : {A : Type 0} → Fraction → A → A → A
where_none v none some = if nat_eq v.num 0 then none else some

-- a whole shape as a number, and 0 for any other
abbrev pub whole_shape : Fraction → ℕ
whole_shape r = if nat_eq r.den 1 then r.num else 0

-- The part of a claim count that a start counts, where v claims above 0 are expected: one claim,
-- one trial, or an equal share of the claims above 0, of which a Poisson count has 2^h and a gamma
-- count as many as its shape, where that is whole.
abbrev pub part_of : Freq → Sev → Fraction → Family
part_of (Fixed m) sev v = compound (fixed 1) (probability_of sev)
part_of (Table counts total) sev v = nothing
part_of (Bernoulli q) sev v = compound (binomial 1 q.num q.den) (probability_of sev)
part_of (Binomial trials q) sev v = compound (binomial 1 q.num q.den) (probability_of sev)
part_of (Poisson mean) sev v =
    where_none v nothing (compound (poisson (v /ℚ whole (2 ^ halvings v))) (above_zero sev))
part_of (Gamma shape mean) sev v =
    where_none v nothing (compound (gamma_of (whole 1) (v /ℚ shape)) (above_zero sev))

-- how many such parts make up the count
abbrev pub parts_of : Freq → Fraction → ℕ
parts_of (Fixed m) v = m
parts_of (Table counts total) v = 0
parts_of (Bernoulli q) v = 1
parts_of (Binomial trials q) v = trials
parts_of (Poisson mean) v = where_none v 0 (2 ^ halvings v)
parts_of (Gamma shape mean) v = where_none v 0 (whole_shape shape)

-- those of the units of a plan, in its order
abbrev pub unit_part : UnitOfPlan → Family
unit_part u = part_of u.freq u.sev (thinned_mean u)

abbrev pub unit_parts : UnitOfPlan → ℕ
unit_parts u = parts_of u.freq (thinned_mean u)

abbrev pub parts_of_plan : Plan → List Family
parts_of_plan plan = map unit_part plan.units

-- the label of the total: each unit as often as its part makes it up
abbrev pub target : Plan → Label
target plan i = get_or (map unit_parts plan.units) i 0
