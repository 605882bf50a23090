use Rattle.dl_sources.proofs.Common.{arith, ◌also◌}
use Rattle.dl_sources.proofs.Means.{clause_unit_mean}
use Rattle.dl_sources.proofs.ZeroLaws.{small_before}
use Rattle.dl_sources.proofs.units.outcome_of.Goals as goal

pub after_zero-requires : goal.after_zero-requires
after_zero-requires g c =
    let on = c.requires.on in
    let mean = c.cede_mean-mean in
    (omega arith) also (omega arith) also (omega arith) also on also c.in_ok-grid.ensures
    also clause_unit_mean c.in_ok-claims.claims on.valid mean.ensures.holds mean.ensures.width c.in_ok-claims.ensures
    also small_before mean.result on.scale on.valid (mean.ensures.small c.args.cells on.valid) mean.ensures.few
