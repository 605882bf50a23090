use Rattle.dl_recursion.proofs.Common.{◌≡◌, add-one, sym, ℕ, suc, ◌+◌, arith, refl, length, run_parts, Fraction}
use Rattle.dl_recursion.specs.Geometric.{only_first}
use Rattle.dl_recursion.proofs.Geometric.{follows_some, raised_first, raised_next}
use Rattle.dl_recursion.proofs.passes.by_passes.Goals as goal

pub shapes-init : goal.shapes-init
shapes-init c =
    let n = c.args.cells in
    let q = c.args.q in
    let begun = c.in_ok-x.ensures in
    let told = c.if-not-raise_all.ensures in
    let e : length c.in_ok-x.x.low.items ≡ n = begun.cells.cells in
    record {
      cells = rw e at (told.cells refl);
      shift = omega (arith, c.raise_all.ensures.shift, begun.shift, c.first_shift.ensures.few);
      round = λ r F.
          rw e at (told.round refl q only_first r c.requires.divisor c.in-Some.ensures.factor
          (raised_first (run_parts c.args.run) q r c.requires.divisor F) (rw e begun.round));
    }

pub shapes-preserved : goal.shapes-preserved
shapes-preserved c =
    let n = c.args.cells in
    let q = c.args.q in
    let k = c.shapes.k in
    let parts = run_parts c.args.run in
    let i = c.shapes.invariant in
    let told = c.if-not-raise_all-2.ensures in
    let e : length c.shapes.x.low.items ≡ n = i.cells.cells in
    let shape : suc k ≡ k + 1 = sym (add-one k) in
    record {
      cells = rw e at (told.cells refl);
      shift = omega (arith, c.raise_all-in-shapes.ensures.shift, c.bits_down-down.ensures, i.shift);
      round = λ r F.
          let before = follows_some parts 1 k q c.requires.divisor in
          let u : ℕ → Fraction = before.0 in
          let raised = raised_next parts k q u r c.requires.divisor before.1 (rw shape F) in
          rw e at (told.round refl q u r c.requires.divisor c.in-Some.ensures.factor raised (rw e (i.round u before.1)));
    }

pub returns : goal.returns
returns c =
    let i = c.shapes.invariant in
    let cells = i.cells in
    let most = c.min-most.ensures in
    let k_is : c.shapes.k ≡ c.args.shape = omega (arith, c.shapes-test.false, c.shapes.auto.k-end) in
    record {
      cells = cells.cells;
      shift = omega (arith, i.shift, k_is, c.if-cells-lt2.false, c.if-shape-gt-MOST_PASSES.false);
      sound = record {
        alike = cells.ends.alike;
        low_small = λ k. omega (arith, cells.ends.low_small k, most);
        high_small = λ k. omega (arith, cells.ends.high_small k, most);
        low_settled = λ k before. absurd (omega (arith, before, cells.first));
        high_settled = λ k before. absurd (omega (arith, before, cells.first));
        within = omega (arith, cells.first);
      };
      round = rw k_is at i.round;
    }
