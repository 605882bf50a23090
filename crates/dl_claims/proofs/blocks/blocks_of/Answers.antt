use Rattle.dl_claims.proofs.Common.{ℕ, suc, ◌≡◌, ◌-◌, ◌*◌, length, arith, refl, ap₂, probability_at, cell_from}
use Rattle.dl_claims.proofs.PowerGrids.{none_between, none_short, one_more_short, more_between}
use Rattle.dl_claims.proofs.StepGrids.{from_same}
use Rattle.dl_claims.proofs.Neighbours.{place_near}
use Rattle.dl_claims.proofs.blocks.blocks_of.Goals as goal

pub overflow_mul-first : goal.overflow_mul-first
overflow_mul-first g c =
    omega (
      arith,
      place_near c.loop-i.i c.args.blocks (length c.args.powers.now) c.from.result c.from.ensures c.loop-i-test.true
          c.requires.near,
    )

pub loop-i-init : goal.loop-i-init
loop-i-init g c =
    let none = c.new-list.ensures.items in
    record {
      short = none_short c.new-list.result.items c.args.cells none;
      parts = λ f q of_f. none_between c.args.cells _ c.new-list.result.items none;
    }

pub block-requires : goal.block-requires
block-requires g c =
    let near = place_near c.loop-i.i c.args.blocks (length c.args.powers.now) c.from.result c.from.ensures
    c.loop-i-test.true c.requires.near in
    let r = c.requires in
    (omega arith, (r.size, (r.sum, (r.positive, (r.within, (r.one, (r.most, (near, (r.few, r.powers)))))))))

pub loop-i-preserved : goal.loop-i-preserved
loop-i-preserved g c =
    let n : ℕ = length c.args.powers.now in
    let all : n ≡ suc (n - 1) = omega (arith, c.requires.one) in
    record {
      short = one_more_short c.loop-i.list.items c.push.new.self.items c.in_ok-block.field-0 c.args.cells c.loop-i.i
          c.in_ok-push.ensures.items c.loop-i.invariant.short c.in_ok-block.ensures.few;
      parts = λ f q of_f.
          more_between c.args.cells c.loop-i.i
          (λ i s. cell_from (probability_at c.args.table.now) f (i * suc (n - 1)) s (n - 1)) c.loop-i.list.items
          c.push.new.self.items c.in_ok-block.field-0 c.in_ok-push.ensures.items c.loop-i.invariant.short.many
          (c.loop-i.invariant.parts f q of_f)
          (from_same c.args.cells c.in_ok-block.field-0 (probability_at c.args.table.now) f _ _ _ _
          (ap₂ (λ s t. s * t) c.from.ensures all) refl (c.in_ok-block.ensures.between f q of_f));
    }
