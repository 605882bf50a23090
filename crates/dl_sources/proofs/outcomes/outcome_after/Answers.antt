use Rattle.dl_sources.proofs.Common.{[], ◌≤◌, length, ap, arith, subst, sym, Iv, IsUnitGrid, IsUnitMean, most_unit_mean, ◌also◌}
use Rattle.dl_sources.proofs.AlikeLaws.{alike_grid, alike_mean}
use Rattle.dl_sources.proofs.ReadAs.{read_as}
use Rattle.dl_sources.proofs.outcomes.outcome_after.Goals as goal

pub truncate-requires : goal.truncate-requires
truncate-requires g c =
    let made = c.requires.made in
    let j = c.in-Some.j in
    let inside = c.in-Some.ensures.inside in
    let read = read_as j [] c.as_slice.ensures.value c.index-as_slice-j.is (omega (arith, inside, made.grids.as_many)) in
    (omega arith) also c.requires.on.some
    also (omega (arith, ap length read, (made.grids.each j c.args.unit.now inside).cells))

pub returns : goal.returns
returns g c =
    let cells = c.args.cells in
    let unit = c.args.unit.now in
    let j = c.in-Some.j in
    let inside = c.in-Some.ensures.inside in
    let alike = c.in-Some.ensures.alike unit in
    let made = c.requires.made in
    let grid = c.index-as_slice-j in
    let mean = c.index-as_slice-j-2 in
    let read = read_as j [] c.as_slice.ensures.value grid.is (omega (arith, inside, made.grids.as_many)) in
    let many = read_as j mean.result c.as_slice-2.ensures.value mean.is (omega (arith, inside, made.means.means.as_many)) in
    record {
      grid = alike_grid alike (subst (IsUnitGrid cells _) (sym read) (made.grids.each j unit inside)) c.in_ok-grid.ensures;
      mean = subst (IsUnitMean cells unit) (sym many) (alike_mean alike (made.means.means.each j unit mean.result inside));
      small = subst (λ (m : Iv g.row.B). m.hi ≤ most_unit_mean) (sym many)
          (made.means.small j mean.result (omega (arith, inside, made.means.means.as_many)));
    }
