use Rattle.dl_budget.proofs.Common.{◌+◌, ◌^◌, arith, sym, pow_pos, pw_one}
use Rattle.dl_budget.proofs.SizeLaws.{unit_small, base_small, size_least}
use Rattle.dl_budget.proofs.Repeats.{doubled_value, doubled_size, doubled_room}
use Rattle.dl_budget.proofs.steps.doubled.Goals as goal

pub loop-step-init : goal.loop-step-init
loop-step-init g c = record {
  inside = omega arith;
  value = sym (pw_one (2 ^ g.row.B) c.args.cells c.args.base);
  size = size_least (2 ^ g.row.B) _ _ (omega arith);
  small = base_small c.args.cells 0 c.args.base _ (pow_pos c.args.times) c.requires.room;
}

pub loop-step-preserved : goal.loop-step-preserved
loop-step-preserved g c =
    let room = doubled_room c.args.cells c.args.base (c.loop-step._step + 1) c.args.times (omega arith)
    c.requires.room in
    let size = doubled_size g.row.B c.args.cells c.args.base c.loop-step._step _ _ c.requires.scale room
    c.loop-step.invariant.size c.convolution_spread-spread.ensures.value in
    record {
      inside = omega arith;
      value = doubled_value (2 ^ g.row.B) c.args.cells c.args.base c.loop-step._step _ _ c.loop-step.invariant.value
          c.convolution_spread-spread.ensures.value;
      size = size;
      small = unit_small g.row.B c.args.cells 0 _ _ c.requires.scale room size;
    }
