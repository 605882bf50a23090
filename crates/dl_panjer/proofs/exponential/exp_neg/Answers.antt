use Rattle.dl_panjer.proofs.Common.{◌^◌, arith, floor_le_ceiling, power_le, part_within, refl, unit_fits}
use Rattle.dl_panjer.proofs.EndLaws.{low_encloses, high_encloses}
use Rattle.dl_panjer.proofs.Reciprocals.{narrow, reciprocal_fits}
use Rattle.dl_panjer.proofs.exponential.exp_neg.Goals as goal

pub invariant_of-result-clause-ordered : goal.invariant_of-result-clause-ordered
invariant_of-result-clause-ordered g c =
    let s = c.exponential-sums.ensures in
    rw c.div_ceil.ensures (floor_le_ceiling _ _ _ _ (omega (arith, s.one)) s.order (omega arith))

pub invariant_of-result-clause-in_range : goal.invariant_of-result-clause-in_range
invariant_of-result-clause-in_range g c =
    let s = c.exponential-sums.ensures in
    rw (c.div_ceil.ensures, unit_fits g.row.B c.requires.scale_below)
    (omega (
      arith,
      reciprocal_fits g.row.B (2 ^ g.row.B) (2 ^ 63) _ c.requires.scale_below refl
          (omega (arith, s.one)) s.one,
    ))

pub returns-clause-low : goal.returns-clause-low
returns-clause-low g c =
    rw (unit_fits g.row.B c.requires.scale_below, c.exponential-sums.ensures.high) refl

pub returns-clause-high : goal.returns-clause-high
returns-clause-high g c =
    rw (c.div_ceil.ensures, unit_fits g.row.B c.requires.scale_below, c.exponential-sums.ensures.low) refl

pub returns-clause-encloses : goal.returns-clause-encloses
returns-clause-encloses g c =
    let x = c.args.x in
    let B = g.row.B in
    let unit = unit_fits B c.requires.scale_below in
    let s = c.exponential-sums.ensures in
    record {
      low = rw (unit, s.high) (low_encloses x B c.requires.half);
      high = rw (c.div_ceil.ensures, unit, s.low) (high_encloses x B);
    }

pub returns-clause-narrow : goal.returns-clause-narrow
returns-clause-narrow g c =
    let s = c.exponential-sums.ensures in
    rw (c.div_ceil.ensures, unit_fits g.row.B c.requires.scale_below)
    (narrow (2 ^ g.row.B) (2 ^ 63) _ _ (omega (arith, s.one)) s.order s.near s.one
    (omega (arith, power_le g.row.B (2 ^ g.row.B) 56 refl c.requires.scale_below)))

pub returns-clause-small : goal.returns-clause-small
returns-clause-small g c =
    let s = c.exponential-sums.ensures in
    rw (c.div_ceil.ensures, unit_fits g.row.B c.requires.scale_below)
    (part_within (2 ^ g.row.B) (2 ^ 63) _ (omega (arith, s.one)) s.one)
