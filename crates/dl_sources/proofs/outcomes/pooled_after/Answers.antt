use Rattle.dl_sources.proofs.Common.{[], length, arith, ap, subst, sym, ◌∙◌, IfOk-weaker, IsUnitGrid, get_or_default, ◌also◌}
use Rattle.dl_sources.proofs.AlikeLaws.{alike_grid}
use Rattle.dl_sources.proofs.outcomes.pooled_after.Goals as goal

pub truncate-requires : goal.truncate-requires
truncate-requires g c =
    let each = c.requires.grids in
    let j = c.in-Some.j in
    let inside = c.in-Some.ensures.inside in
    let same = c.index-grids-j.is ∙ get_or_default c.args.grids.now j _ [] (omega (arith, inside, each.as_many)) in
    (omega arith) also c.requires.on.some
    also (omega (arith, ap length same, (each.each j c.args.unit.now inside).cells))

pub returns-in-Some : goal.returns-in-Some
returns-in-Some g c =
    let unit = c.args.unit.now in
    let j = c.in-Some.j in
    let inside = c.in-Some.ensures.inside in
    let each = c.requires.grids in
    let here = subst (IsUnitGrid c.args.cells _) (sym (c.index-grids-j.is ∙ get_or_default c.args.grids.now j _ []
    (omega (arith, inside, each.as_many)))) (each.each j unit inside) in
    IfOk-weaker c.truncate.result _ _ (λ grid is. alike_grid (c.in-Some.ensures.alike unit) here is) c.truncate.ensures
