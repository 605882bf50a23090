use Rattle.dl_unit.proofs.Common.{◌≡◌, ◌-◌, ◌*◌, ◌/◌, ◌^◌, ◌<◌, ◌≤◌, arith, rules, ap₂, ◌∙◌, div_ceil, num_le_den, part_within, one_fits}
use Rattle.dl_unit.proofs.trial.first_cell.Goals as goal

pub overflow_sub-den : goal.overflow_sub-den
overflow_sub-den g c = omega (
  arith,
  c.num.ensures.part,
  c.den.ensures.part,
  num_le_den c.args.q c.requires.probability.within,
)

pub enclose-none-requires : goal.enclose-none-requires
enclose-none-requires g c =
    let within : c.from.result ≤ c.from-2.result = omega
    (arith, c.from.ensures, c.from-2.ensures, c.den.ensures.part, c.den-2.ensures.part) in
    let small : c.from-2.result < 2 ^ 48 = omega (
      arith,
      c.from-2.ensures,
      c.den-2.ensures.part,
      c.requires.probability.admitted.den,
    ) in
    let positive : 0 < c.from-2.result = omega (arith, c.from-2.ensures, c.den-2.ensures.positive) in
    let part = part_within (2 ^ g.row.B) c.from.result c.from-2.result positive within in
    search (rules, part, one_fits g.row.B c.args.part.scale_below)

pub add-requires : goal.add-requires
add-requires g c =
    let within : c.from.result ≤ c.from-2.result = omega
    (arith, c.from.ensures, c.from-2.ensures, c.den.ensures.part, c.den-2.ensures.part) in
    let positive : 0 < c.from-2.result = omega (arith, c.from-2.ensures, c.den-2.ensures.positive) in
    let part = part_within (2 ^ g.row.B) c.from.result c.from-2.result positive within in
    search (rules, part, one_fits g.row.B c.args.part.scale_below)

pub returns : goal.returns
returns g c =
    let n : c.from.result ≡ c.args.q.den - c.args.q.num =
    omega (arith, c.from.ensures, c.den.ensures.part, c.num.ensures.part) in
    let d : c.from-2.result ≡ c.args.q.den = omega (arith, c.from-2.ensures, c.den-2.ensures.part) in
    let low : c.enclose-none.result.lo ≡ 2 ^ g.row.B * (c.args.q.den - c.args.q.num) / c.args.q.den =
    c.enclose-none.ensures.low ∙ ap₂ (λ m e. 2 ^ g.row.B * m / e) n d in
    let high : c.enclose-none.result.hi ≡ div_ceil (2 ^ g.row.B * (c.args.q.den - c.args.q.num)) c.args.q.den =
    c.enclose-none.ensures.high ∙ ap₂ (λ m e. div_ceil (2 ^ g.row.B * m) e) n d in
    record {
      low = omega (arith, c.clamp_to.ensures.low, c.add.ensures.low, c.units_of_one.ensures, low);
      high = omega (arith, c.clamp_to.ensures.high, c.add.ensures.high, c.units_of_one.ensures, high);
    }
