use Rattle.dl_budget.proofs.Common.{◌+◌, ◌^◌, arith, ap, sym, mixed_none}
use Rattle.dl_budget.proofs.SizeLaws.{unit_small, base_small, size_least}
use Rattle.dl_budget.proofs.Repeats.{listed_value, listed_size, listed_room}
use Rattle.dl_budget.proofs.steps.listed.Goals as goal

pub convolution_spread-spread-requires-clause-left : goal.convolution_spread-spread-requires-clause-left
convolution_spread-spread-requires-clause-left g c = omega
    (arith, base_small c.args.cells 2 c.args.base c.args.greatest (omega arith) (omega (arith, c.requires.room)))

pub loop-step-init : goal.loop-step-init
loop-step-init g c = record {
  inside = omega arith;
  value = sym (mixed_none (2 ^ g.row.B) c.args.cells c.args.base);
  size = size_least (2 ^ g.row.B) _ _ (omega arith);
  small = omega arith;
}

pub loop-step-preserved : goal.loop-step-preserved
loop-step-preserved g c =
    let room = listed_room c.args.cells c.args.base (c.loop-step._step + 1) c.args.greatest (omega arith)
    c.requires.room in
    let spread = ap (λ t. t + 2) c.convolution_spread-spread.ensures.value in
    let size = listed_size g.row.B c.args.cells c.args.base c.loop-step._step _ _ c.requires.scale room
    c.loop-step.invariant.size spread in
    record {
      inside = omega arith;
      value = listed_value (2 ^ g.row.B) c.args.cells c.args.base c.loop-step._step _ _ c.loop-step.invariant.value
          spread;
      size = size;
      small = unit_small g.row.B c.args.cells 2 _ _ c.requires.scale room size;
    }
