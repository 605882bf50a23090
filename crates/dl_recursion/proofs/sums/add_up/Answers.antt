use Rattle.dl_recursion.proofs.Common.{◌≡◌, ◌-◌, ◌∷◌, [], ◌++◌, length, arith, length-append}
use Rattle.dl_recursion.proofs.Windows.{windows_pushed}
use Rattle.dl_recursion.proofs.sums.add_up.Goals as goal

pub runs-preserved : goal.runs-preserved
runs-preserved c =
    let i = c.runs.invariant in
    let windows = c.runs.windows.items in
    let pushed : c.push.new.self.items ≡ windows ++ record { low = c.window_of.result; high = c.window_of-in-runs.result } ∷ [] =
    c.in_ok-push.ensures.items in
    rw pushed (record {
      windows = windows_pushed c.args.runs.now c.args.low.now c.args.high.now (length c.args.low.now - 1) c.runs.i windows _ _ i.count
          c.runs-test.true i.windows
          (record {
            low_window = c.window_of.ensures;
            high_window = rw (← c.requires.ends.alike) c.window_of-in-runs.ensures;
          });
      count = simp length-append (omega (arith, i.count));
    })
