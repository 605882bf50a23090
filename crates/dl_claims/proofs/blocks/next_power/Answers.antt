use Rattle.dl_claims.proofs.Common.{ℕ, ◌+◌, ◌/◌, length, arith, IfOk-weaker, power}
use Rattle.dl_claims.proofs.PowerGrids.{grid_at, joined_powers}
use Rattle.dl_claims.proofs.blocks.next_power.Goals as goal

pub returns-then-claims-eq0-clause-between : goal.returns-then-claims-eq0-clause-between
returns-then-claims-eq0-clause-between g c =
    let n : ℕ = length c.args.powers.now in
    IfOk-weaker c.short_square.result _ _ (λ next made f q of_f.
    let half = grid_at c.args.cells (n / 2) (power f) c.args.powers.now c.index-powers-claims.result
    (omega (arith, c.requires.two)) c.index-powers-claims.is of_f in
    joined_powers c.index-powers-claims.result c.index-powers-claims.result next c.args.cells (n / 2) (n / 2) n f
    (omega (arith, c.if-claims-eq0.true)) q made.low made.high half half)
    c.short_square.ensures.convolution

pub returns-clause-between : goal.returns-clause-between
returns-clause-between g c =
    let n : ℕ = length c.args.powers.now in
    IfOk-weaker c.short_product.result _ _ (λ next made f q of_f.
    let half = grid_at c.args.cells (n / 2) (power f) c.args.powers.now c.index-powers-claims.result
    (omega (arith, c.requires.two)) c.index-powers-claims.is of_f in
    let more = grid_at c.args.cells (n / 2 + 1) (power f) c.args.powers.now c.index-powers-claims-2.result
    (omega (arith, c.requires.two, c.if-claims-eq0.false)) c.index-powers-claims-2.is of_f in
    joined_powers c.index-powers-claims.result c.index-powers-claims-2.result next c.args.cells (n / 2) (n / 2 + 1) n f
    (omega (arith, c.if-claims-eq0.false)) q made.low made.high half more)
    c.short_product.ensures.convolution
