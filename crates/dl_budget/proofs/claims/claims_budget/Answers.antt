use Rattle.dl_budget.proofs.Common.{◌^◌, length, arith, ap, ◌∙◌, mixed_spread, count_budget, Fixed, Table, Bernoulli, Binomial, claims_alone, greatest, greatest_within}
use Rattle.dl_budget.proofs.Counts.{claims_of, count_of, few_items, power_room, listed_begins, poisson_value, gamma_on, gamma_value}
use Rattle.dl_budget.proofs.claims.claims_budget.Goals as goal

pub power_spread-requires-clause-room : goal.power_spread-requires-clause-room
power_spread-requires-clause-room g c =
    power_room c.args.cells _ c.in-Fixed.claims c.requires.few
    (omega (
      arith,
      few_items c.requires.valid.0 (claims_alone c.args.freq.now c.args.sev.now)
          (Fixed c.in-Fixed.claims) c.as_slice.result.now c.requires.valid.1 c.in-Fixed.is
          (λ no. no) c.as_slice.ensures,
    ))
    (count_of c.requires.valid.0 (claims_alone c.args.freq.now c.args.sev.now) (Fixed c.in-Fixed.claims) c.requires.valid.1 c.in-Fixed.is)

pub listed-requires-clause-room : goal.listed-requires-clause-room
listed-requires-clause-room g c =
    let count = count_of c.requires.valid.0 (claims_alone c.args.freq.now c.args.sev.now)
    (Table c.in-Table.counts c.in-Table.total) c.requires.valid.1 c.in-Table.is in
    listed_begins c.args.cells _ c.greatest_amount.result c.requires.few
    (few_items c.requires.valid.0 (claims_alone c.args.freq.now c.args.sev.now) (Table c.in-Table.counts c.in-Table.total) c.as_slice.result.now
    c.requires.valid.1 c.in-Table.is (λ no. no) c.as_slice.ensures)
    (omega (arith, ap greatest c.as_slice-in-Table.ensures, greatest_within c.in-Table.counts 256 count.1))

pub power_spread-requires-in-Binomial-clause-room : goal.power_spread-requires-in-Binomial-clause-room
power_spread-requires-in-Binomial-clause-room g c =
    power_room c.args.cells _ c.in-Binomial.trials c.requires.few
    (omega (
      arith,
      few_items c.requires.valid.0 (claims_alone c.args.freq.now c.args.sev.now)
          (Binomial c.in-Binomial.trials c.in-Binomial.q) c.as_slice.result.now c.requires.valid.1 c.in-Binomial.is
          (λ no. no) c.as_slice.ensures,
    ))
    (count_of c.requires.valid.0 (claims_alone c.args.freq.now c.args.sev.now) (Binomial c.in-Binomial.trials c.in-Binomial.q) c.requires.valid.1
    c.in-Binomial.is).0

pub returns-in-Fixed-clause-value : goal.returns-in-Fixed-clause-value
unfolding count_budget
returns-in-Fixed-clause-value g c =
    c.power_spread.ensures.value ∙ claims_of (2 ^ g.row.B) c.args.cells (claims_alone c.args.freq.now c.args.sev.now)
    (Fixed c.in-Fixed.claims) c.as_slice.result.now c.in-Fixed.is c.as_slice.ensures

pub returns-in-Table-clause-value : goal.returns-in-Table-clause-value
unfolding count_budget
returns-in-Table-clause-value g c =
    c.listed.ensures.value
    ∙ ap (mixed_spread (2 ^ g.row.B) c.args.cells (length c.as_slice.result.now))
    (c.greatest_amount.ensures ∙ ap greatest c.as_slice-in-Table.ensures)
    ∙ claims_of (2 ^ g.row.B) c.args.cells (claims_alone c.args.freq.now c.args.sev.now)
    (Table c.in-Table.counts c.in-Table.total) c.as_slice.result.now c.in-Table.is c.as_slice.ensures

pub returns-in-Bernoulli-clause-value : goal.returns-in-Bernoulli-clause-value
unfolding count_budget
returns-in-Bernoulli-clause-value g c = claims_of (2 ^ g.row.B) c.args.cells (claims_alone c.args.freq.now c.args.sev.now)
    (Bernoulli c.in-Bernoulli.field-0) c.as_slice.result.now c.in-Bernoulli.is c.as_slice.ensures

pub returns-in-Binomial-clause-value : goal.returns-in-Binomial-clause-value
unfolding count_budget
returns-in-Binomial-clause-value g c =
    c.power_spread-in-Binomial.ensures.value
    ∙ claims_of (2 ^ g.row.B) c.args.cells (claims_alone c.args.freq.now c.args.sev.now)
    (Binomial c.in-Binomial.trials c.in-Binomial.q) c.as_slice.result.now c.in-Binomial.is c.as_slice.ensures

pub returns-in-Poisson-clause-value : goal.returns-in-Poisson-clause-value
returns-in-Poisson-clause-value g c =
    poisson_value (2 ^ g.row.B) c.args.cells (claims_alone c.args.freq.now c.args.sev.now) c.in-Poisson.field-0 c.thinned.result _ c.in-Poisson.is
    c.thinned.ensures c.poisson_budget.ensures.none c.poisson_budget.ensures.value

pub returns-in-Gamma-clause-value : goal.returns-in-Gamma-clause-value
returns-in-Gamma-clause-value g c =
    gamma_value (2 ^ g.row.B) c.args.cells (claims_alone c.args.freq.now c.args.sev.now) c.in-Gamma.shape c.in-Gamma.mean c.thinned-in-Gamma.result _
    c.in-Gamma.is c.thinned-in-Gamma.ensures
    c.gamma_budget.ensures.none c.gamma_budget.ensures.value

pub gamma_budget-requires-clause-count : goal.gamma_budget-requires-clause-count
gamma_budget-requires-clause-count g c =
    gamma_on c.args.cells c.requires.valid.0 (claims_alone c.args.freq.now c.args.sev.now) c.in-Gamma.shape c.in-Gamma.mean _
    c.requires.few c.requires.valid.1 c.in-Gamma.is c.thinned-in-Gamma.ensures
