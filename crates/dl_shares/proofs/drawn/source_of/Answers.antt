use Rattle.dl_shares.proofs.Common.{◌also◌, IsClaimsGrid, IsOriginOf, Nowhere}
use Rattle.std.proofs.Common.{[], arith, subst, sym, ◌∙◌}
use Rattle.dl_shares.proofs.Origins.{read_as}
use Rattle.dl_shares.proofs.drawn.source_of.Goals as goal

-- the number is that of a grid which the claims of the unit go over
pub over-requires : goal.over-requires
over-requires g c =
    let plan = c.args.plan.now in
    let drawn = c.args.drawn.now in
    let i = c.args.i in
    let from = subst (IsOriginOf plan drawn i)
    (sym (read_as i Nowhere c.as_slice.ensures.value c.index-as_slice-i.is
    (omega (arith, c.requires.drawn.as_many, c.requires.unit.unit))) ∙ c.in-Claims.is)
    (c.requires.drawn.origins i c.requires.unit.unit) in
    (omega arith) also (omega arith) also c.requires.unit
    also subst (IsClaimsGrid plan i) (sym (read_as c.in-Claims.k [] c.requires.sums c.index-sums-k.is from.there)) from.grid
