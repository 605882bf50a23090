use Rattle.dl_recursion.proofs.Common.{◌≡◌, length, arith}
use Rattle.std.proofs.Math.Seq.{take-append_seam}
use Rattle.dl_recursion.proofs.sums.together.Goals as goal

pub add_up-requires-clause-windows : goal.add_up-requires-clause-windows
add_up-requires-clause-windows c = rw (c.as_slice.ensures.value, c.as_slice-2.ensures.value) c.requires.in_scale.windows

pub runs_contribution-requires-clause-windows : goal.runs_contribution-requires-clause-windows
runs_contribution-requires-clause-windows c =
    rw (c.as_slice-low.ensures.value, c.as_slice-high.ensures.value, c.as_mut_slice.ensures.value)
    (rw (c.as_slice.ensures.value, c.as_slice-2.ensures.value) at c.in_ok-add_up.ensures.windows)

pub returns-clause-windows : goal.returns-clause-windows
returns-clause-windows c =
    let e = c.runs_contribution.ensures in
    let count : c.add_up.new.windows.len ≡ length c.runs_contribution.new.windows =
    omega (arith, c.add_up.new.windows.ok.0, e.each_run, c.in_ok-add_up.ensures.each_run) in
    rw (count, take-append_seam) (rw (c.as_slice-low.ensures.value, c.as_slice-high.ensures.value) at e.windows)
