use Rattle.dl_outcomes.proofs.Common.{◌≡◌, ◌+◌, ◌-◌, ◌*◌, ◌/◌, ◌^◌, ◌<◌, arith, div_ceil, pow_pos, part_within, one_fits}
use Rattle.dl_outcomes.proofs.Rounded.{quotient_small, quotient_fits, rest_fits, scale_fits, mean_within}
use Rattle.dl_outcomes.proofs.Means.{changed_mean_holds}
use Rattle.dl_outcomes.proofs.changed_mean.zero_mean.Goals as goal

pub scale-part-requires : goal.scale-part-requires
scale-part-requires g c =
    let fits = scale_fits c.args.mean.hi (c.den.result - c.num.result) c.den-2.result c.requires.small
    c.den-2.ensures.positive (omega arith) (omega arith) in
    (omega arith, (c.den-2.ensures.positive, (fits.0, omega arith)))

pub div-requires : goal.div-requires
div-requires g c =
    let one = one_fits g.row.B c.args.none.scale_below in
    let pos : 0 < c.complement.result.lo = omega (arith, pow_pos g.row.B) in
    let rest = rest_fits c.scale-part.result.hi c.complement.result.hi (2 ^ g.row.B) (omega arith) one in
    let part = scale_fits c.args.mean.hi (c.den.result - c.num.result) c.den-2.result c.requires.small
    c.den-2.ensures.positive (omega arith) (omega arith) in
    let fits = quotient_fits c.scale-part.result.hi (2 ^ g.row.B) c.complement.result.lo pos (omega arith)
    (omega arith) in
    (omega arith, (pos, (rest, fits)))

pub returns : goal.returns
returns g c =
    let S = 2 ^ g.row.B in
    let p = c.args.p in
    let mean = c.args.mean in
    let none = c.args.none in
    let some : 0 < S = pow_pos g.row.B in
    let low : c.div.result.lo ≡ mean.lo * (p.den - p.num) / p.den * S / (S - none.lo) = cc in
    let high : c.div.result.hi ≡ div_ceil (div_ceil (mean.hi * (p.den - p.num)) p.den * S) (S - none.hi) = cc in
    let rest : (S - none.hi) + (none.hi - none.lo) ≡ S - none.lo = omega arith in
    record {
      holds = λ u declared held held_none. rw (low, high) (changed_mean_holds S mean.lo mean.hi none.lo none.hi p some
          none.ordered (omega arith) c.requires.below_one u declared held held_none);
      width = λ m inside most. rw (low, high) (rw rest at (mean_within S (S - none.hi) (none.hi - none.lo) mean.lo
          mean.hi (p.den - p.num) p.den m (omega arith) p.positive (omega arith) (omega arith) (omega arith)
          mean.ordered inside));
      small = omega (
        arith,
        quotient_small (div_ceil (mean.hi * (p.den - p.num)) p.den) S (S - none.hi) (omega arith) (omega arith),
        part_within mean.hi (p.den - p.num) p.den p.positive (omega arith),
      );
    }
