use Rattle.dl_answers.proofs.Common.{arith, ap, length, ◌∙◌}
use Rattle.dl_answers.proofs.Scales.{at_scale}
use Rattle.dl_answers.proofs.admission.admit.Goals as goal

pub returns-in-Some-first_wide-clause-admitted : goal.returns-in-Some-first_wide-clause-admitted
returns-in-Some-first_wide-clause-admitted g c = (
  rw c.as_slice-asks.ensures at c.in_default.ensures,
  rw (c.as_slice-units.ensures, c.as_slice-asks.ensures) at c.in_default-first_unknown.ensures,
  rw c.as_slice-asks.ensures at c.in_default-first_share.ensures,
  c.in-Some-first_wide.ensures,
)

pub returns-in-Some-first_share-clause-admitted : goal.returns-in-Some-first_share-clause-admitted
returns-in-Some-first_share-clause-admitted g c = (
  rw c.as_slice-asks.ensures at c.in_default.ensures,
  rw (c.as_slice-units.ensures, c.as_slice-asks.ensures) at c.in_default-first_unknown.ensures,
  rw c.as_slice-asks.ensures at c.in-Some-first_share.ensures,
)

pub returns-clause-admitted : goal.returns-clause-admitted
returns-clause-admitted g c = record {
  inside = rw c.as_slice-asks.ensures at c.in_default.ensures;
  named = rw (c.as_slice-units.ensures, c.as_slice-asks.ensures) at c.in_default-first_unknown.ensures;
  shares = rw c.as_slice-asks.ensures at c.in_default-first_share.ensures;
  pass = c.in_default-first_wide.ensures;
}

pub returns-in-Some-clause-admitted : goal.returns-in-Some-clause-admitted
returns-in-Some-clause-admitted g c = rw c.as_slice-asks.ensures at c.in-Some.ensures

pub first_unknown-requires : goal.first_unknown-requires
first_unknown-requires g c = record {
  units = omega (arith, ap (λ t. length t) c.as_slice-units.ensures, c.requires.plan.valid.few);
  few = omega (arith, ap (λ t. length t) c.as_slice-asks.ensures, c.requires.ranges.few_asks);
  named = c.as_slice.ensures.value ∙ c.in_ok-named.ensures;
}

pub returns-in-Some-first_unknown-clause-admitted : goal.returns-in-Some-first_unknown-clause-admitted
returns-in-Some-first_unknown-clause-admitted g c = (
  rw c.as_slice-asks.ensures at c.in_default.ensures,
  rw (c.as_slice-units.ensures, c.as_slice-asks.ensures) at c.in-Some-first_unknown.ensures,
)

pub first_wide-requires : goal.first_wide-requires
first_wide-requires g c = record {
  plan = c.requires.plan;
  ranges = c.requires.ranges;
  inside = rw c.as_slice-asks.ensures at c.in_default.ensures;
  named = rw (c.as_slice-units.ensures, c.as_slice-asks.ensures) at c.in_default-first_unknown.ensures;
  told = record {
    numbers = rw (c.as_slice-units.ensures, c.as_slice-asks.ensures) at c.in_ok-named.ensures;
    budgets = c.in_ok-budgets.ensures.are;
    there = rw c.as_slice-2.ensures.value at c.in_ok-budgets.ensures.there;
  };
}

pub all_budgets-requires : goal.all_budgets-requires
all_budgets-requires g c = record {
  scale = at_scale c.requires.plan;
  valid = c.requires.plan.valid;
}

pub returns-clause-told : goal.returns-clause-told
returns-clause-told g c = record {
  numbers = rw (c.as_slice-units.ensures, c.as_slice-asks.ensures) at c.in_ok-named.ensures;
  budgets = c.in_ok-budgets.ensures.are;
  there = rw c.as_slice-2.ensures.value at c.in_ok-budgets.ensures.there;
}
