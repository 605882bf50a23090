use Rattle.dl_claims.proofs.Common.{ℕ, suc, ◌+◌, ◌*◌, ◌<◌, length, arith, refl, cell_from}
use Rattle.dl_claims.proofs.PowerGrids.{none_between, none_short, one_more_short, more_between}
use Rattle.dl_claims.proofs.Neighbours.{few_at, neighbours}
use Rattle.dl_claims.proofs.halves.paired.Goals as goal

pub loop-i-init : goal.loop-i-init
loop-i-init g c =
    let none = c.new-pairs.ensures.items in
    record {
      short = none_short c.new-pairs.result.items c.args.cells none;
      parts = λ w f m p. none_between c.args.cells _ c.new-pairs.result.items none;
    }

pub block_with_later-requires : goal.block_with_later-requires
block_with_later-requires g c =
    let i : ℕ = c.loop-i.i in
    let inside : 2 * i + 1 < length c.args.parts.now = omega (arith, c.loop-i-test.true) in
    let p = c.requires.parts in
    let few = few_at c.args.cells (2 * i) c.args.parts.now _ (omega (arith, inside)) c.index-parts-i.is c.requires.few in
    let few-2 = few_at c.args.cells (2 * i + 1) c.args.parts.now _ inside c.index-parts-i-in-loop-i.is c.requires.few in
    let near = neighbours c.args.cells p.0 p.1 p.2 c.args.parts.now c.args.step.now c.index-parts-i.result
    c.index-parts-i-in-loop-i.result i (2 * i) (2 * i + 1) p.3 refl refl inside c.index-parts-i.is
    c.index-parts-i-in-loop-i.is in
    (omega arith, (c.requires.size, (few, (c.requires.in_step, (few-2, (_, _, _, _, _, near))))))

pub loop-i-preserved : goal.loop-i-preserved
loop-i-preserved g c =
    let i : ℕ = c.loop-i.i in
    let inside : 2 * i + 1 < length c.args.parts.now = omega (arith, c.loop-i-test.true) in
    record {
      short = one_more_short c.loop-i.pairs.items c.push.new.self.items c.in_ok-pair.pair c.args.cells i
          c.in_ok-push.ensures.items c.loop-i.invariant.short c.in_ok-pair.ensures.few;
      parts = λ w f m p.
          more_between c.args.cells i (λ i s. cell_from w f (i * suc (suc m + m)) s (suc m + m)) c.loop-i.pairs.items
          c.push.new.self.items c.in_ok-pair.pair c.in_ok-push.ensures.items c.loop-i.invariant.short.many
          (c.loop-i.invariant.parts w f m p)
          (c.in_ok-pair.ensures.between w f (i * suc (suc m + m)) m m
          (neighbours c.args.cells w f m c.args.parts.now c.args.step.now c.index-parts-i.result
          c.index-parts-i-in-loop-i.result i (2 * i) (2 * i + 1) p refl refl inside c.index-parts-i.is
          c.index-parts-i-in-loop-i.is));
    }
