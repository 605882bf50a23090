-- The budget by the parts of the shape that were read.
use Rattle.dl_budget.proofs.Common.{◌*◌, ◌+◌, ◌/◌, ◌%◌, ◌^◌, ◌≤◌, ap₂, arith, sym, subst, ◌∙◌, given_value, below_one, most_claims_budget, convolution_spread, rounded_spread, IsSizeWithin}
use Rattle.dl_budget.proofs.Bases.{base_read, both_size, budget_below, budget_both, budget_whole, rest_few, rest_room, whole_few, whole_read, whole_room, whole_some}
use Rattle.dl_budget.proofs.SizeLaws.{unit_small}
use Rattle.dl_budget.proofs.claims.gamma_budget.Goals as goal

pub returns-then-num-den-clause-value : goal.returns-then-num-den-clause-value
returns-then-num-den-clause-value g c some =
    base_read (6 * c.args.cells + 2) c.args.shape c.args.mean _ _
    (given_value _ _ c.unwrap-beta.result c.div.ensures c.unwrap-beta.ensures)
    c.base_spread-rest.ensures
    ∙ sym (budget_below (2 ^ g.row.B) c.args.cells c.args.shape c.args.mean c.requires.count.of_shape.above
    (omega (arith, c.num-2.ensures.part, c.den.ensures.part)))

pub returns-then-num-den-clause-small : goal.returns-then-num-den-clause-small
returns-then-num-den-clause-small g c =
    subst (λ x. x ≤ most_claims_budget)
    (sym (base_read (6 * c.args.cells + 2) c.args.shape c.args.mean _ _
    (given_value _ _ c.unwrap-beta.result c.div.ensures c.unwrap-beta.ensures) c.base_spread-rest.ensures))
    (c.requires.count.below_one (below_one c.args.shape (omega (arith, c.num-2.ensures.part, c.den.ensures.part))))

pub overflow_cast-num : goal.overflow_cast-num
overflow_cast-num g c =
    let few = whole_few c.args.shape c.requires.count.of_shape in
    let read = ap₂ (λ n d. n / d) c.num-3.ensures.part c.den-2.ensures.part in omega arith

pub power_spread-whole-requires-clause-room : goal.power_spread-whole-requires-clause-room
power_spread-whole-requires-clause-room g c =
    let base = base_read (4 * c.args.cells + 1) c.args.shape c.args.mean _ _
    (given_value _ _ c.unwrap-beta.result c.div.ensures c.unwrap-beta.ensures) c.base_spread-base.ensures in
    let room = whole_room c.args.cells c.args.shape c.args.mean c.requires.count in
    let same = ap₂ (λ k b. k * rounded_spread c.args.cells 0 b)
    (ap₂ (λ n d. n / d) c.num-3.ensures.part c.den-2.ensures.part) base in
    omega (arith, room, same)

pub returns-then-num-den-eq0-clause-value : goal.returns-then-num-den-eq0-clause-value
returns-then-num-den-eq0-clause-value g c some =
    whole_read (2 ^ g.row.B) c.args.cells c.args.shape c.args.mean _ _ _ _ _
    (given_value _ _ c.unwrap-beta.result c.div.ensures c.unwrap-beta.ensures) c.base_spread-base.ensures
    c.num-3.ensures.part c.den-2.ensures.part c.power_spread-whole.ensures.value
    ∙ sym (budget_whole (2 ^ g.row.B) c.args.cells c.args.shape c.args.mean
    (sym (ap₂ (λ n d. n % d) c.num-4.ensures.part c.den-3.ensures.part) ∙ c.if-num-den-eq0.true))

pub convolution_spread-requires-clause-right : goal.convolution_spread-requires-clause-right
convolution_spread-requires-clause-right g c =
    omega (
      arith,
      base_read (6 * c.args.cells + 2) c.args.shape c.args.mean _ _
          (given_value _ _ c.unwrap-beta.result c.div.ensures c.unwrap-beta.ensures) c.base_spread-rest.ensures,
      rest_few c.args.cells c.args.shape c.args.mean c.requires.count
          (whole_some c.args.shape (omega (arith, c.num-2.ensures.part, c.den.ensures.part, c.if-num-den.false))),
    )

pub returns-clause-value : goal.returns-clause-value
returns-clause-value g c some =
    let beta = given_value _ _ c.unwrap-beta.result c.div.ensures c.unwrap-beta.ensures in
    c.convolution_spread.ensures.value
    ∙ ap₂ (convolution_spread (2 ^ g.row.B) c.args.cells)
    (whole_read (2 ^ g.row.B) c.args.cells c.args.shape c.args.mean _ _ _ _ _ beta c.base_spread-base.ensures
    c.num-3.ensures.part c.den-2.ensures.part c.power_spread-whole.ensures.value)
    (base_read (6 * c.args.cells + 2) c.args.shape c.args.mean _ _ beta c.base_spread-rest.ensures)
    ∙ sym (budget_both (2 ^ g.row.B) c.args.cells c.args.shape c.args.mean
    (omega (arith, ap₂ (λ n d. n % d) c.num-4.ensures.part c.den-3.ensures.part))
    (whole_some c.args.shape (omega (arith, c.num-2.ensures.part, c.den.ensures.part, c.if-num-den.false))))

pub returns-clause-small : goal.returns-clause-small
returns-clause-small g c =
    let beta = given_value _ _ c.unwrap-beta.result c.div.ensures c.unwrap-beta.ensures in
    let count = ap₂ (λ n d. n / d) c.num-3.ensures.part c.den-2.ensures.part in
    let base = base_read (4 * c.args.cells + 1) c.args.shape c.args.mean _ _ beta c.base_spread-base.ensures in
    let some = whole_some c.args.shape (omega (arith, c.num-2.ensures.part, c.den.ensures.part, c.if-num-den.false)) in
    unit_small g.row.B c.args.cells 0 _ _ c.requires.scale
    (omega (
      arith,
      whole_room c.args.cells c.args.shape c.args.mean c.requires.count,
      rest_room c.args.cells c.args.shape c.args.mean c.requires.count some,
    ))
    (both_size g.row.B c.args.cells c.args.shape c.args.mean _ _ _ c.requires.scale c.requires.count some
    (subst (λ t. IsSizeWithin (2 ^ g.row.B) t (rounded_spread c.args.cells 0 c.power_spread-whole.result))
    (ap₂ (λ k b. k * rounded_spread c.args.cells 0 b) count base)
    (c.power_spread-whole.ensures.size (omega (arith, some, count))))
    (base_read (6 * c.args.cells + 2) c.args.shape c.args.mean _ _ beta c.base_spread-rest.ensures)
    c.convolution_spread.ensures.value)
