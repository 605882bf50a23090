use Rattle.dl_recursion.proofs.Common.{◌≡◌, ℕ, ◌+◌, ◌*◌, ◌^◌, ◌<◌, ◌≤◌, length, arith, ◌∙◌, mul-le-mul_left, mul-le-mul_right, All-set, All-replicate, length-set, length-replicate, get_or, ap, sym}
use Rattle.std.proofs.lemmas.List.Folds.{sum_by-replicate}
use Rattle.std.proofs.Math.Nat.{le_antisymm}
use Rattle.std.proofs.Math.Path.{fun_ext}
use Rattle.dl_grid.specs.Prelude.{low_at, high_at}
use Rattle.std.proofs.lemmas.Grind.{get_or_default_zero}
use Rattle.dl_grid.proofs.EndLists.{low_at_ends, high_at_ends}
use Rattle.dl_recursion.proofs.GridEnds.{zero_least, unset, no_ends, ordered_set, mass_set, zeros_left, ends_more}
use Rattle.dl_recursion.proofs.to_grid.to_grid.Goals as goal

-- the cell that is written is one of the grid's
inside : (step i rows cells : ℕ) → i < rows → step * rows < cells + step → step * i < cells
inside step i rows cells l within = grind (arith, mul-le-mul_left)

pub rows-init : goal.rows-init
rows-init g c =
    let low = c.in_ok-lows.ensures.items_if_clones_equal (λ y same. same) in
    let high = c.in_ok-highs.ensures.items_if_clones_equal (λ y same. same) in
    let zeros : (x : ℕ) → get_or c.in_ok-lows.lows.items x 0 ≡ 0 = λ x. rw low (unset c.args.cells x) in
    record {
      count = ap length low ∙ length-replicate c.args.cells 0;
      paired = ap length high ∙ length-replicate c.args.cells 0;
      ends = no_ends g.row.B c.args.start c.args.x.now.shift c.args.step c.args.x.now.low.items c.args.x.now.high.items
          c.in_ok-lows.lows.items c.in_ok-highs.highs.items zeros;
      zeros = λ x far. zeros x;
      ordered = λ x. rw (zeros x) (zero_least _);
      small = rw high (All-replicate (λ (end : ℕ). end ≤ 2 ^ g.row.B) c.args.cells 0 (zero_least _));
      left = rw (low, c.units_of_one-one.ensures) (omega (arith, sum_by-replicate (λ (end : ℕ). end) c.args.cells 0));
    }

pub index-requires : goal.index-requires
index-requires g c =
    rw (c.args.x.now.high.ok.0, c.requires.settled.alike)
    (rw (c.len-i-end.ensures, c.args.x.now.low.ok.0) at c.rows-test.true)

pub narrow_high-high-requires-clause-a_small : goal.narrow_high-high-requires-clause-a_small
narrow_high-high-requires-clause-a_small g c =
    let inside_low = rw (c.len-i-end.ensures, c.args.x.now.low.ok.0) at c.rows-test.true in
    rw (c.index.ensures ∙ get_or_default_zero _ c.rows.i c.index.result.now (rw c.requires.settled.alike inside_low))
    (c.requires.settled.high_small c.rows.i)

pub index-requires-in-rows : goal.index-requires-in-rows
index-requires-in-rows g c = rw c.len-i-end.ensures at c.rows-test.true

pub narrow_low-requires-clause-a_small : goal.narrow_low-requires-clause-a_small
narrow_low-requires-clause-a_small g c =
    let inside_low = rw (c.len-i-end.ensures, c.args.x.now.low.ok.0) at c.rows-test.true in
    rw (c.index-in-rows.ensures ∙ get_or_default_zero _ c.rows.i c.index-in-rows.result.now inside_low)
    (c.requires.settled.low_small c.rows.i)

pub overflow_sub-room : goal.overflow_sub-room
overflow_sub-room g c = omega (arith, c.min-low.ensures, c.min-most.ensures)

pub overflow_mul-at : goal.overflow_mul-at
overflow_mul-at g c =
    let inside_low = rw (c.len-i-end.ensures, c.args.x.now.low.ok.0) at c.rows-test.true in
    omega (arith, inside c.args.step c.rows.i (length c.args.x.now.low.items) c.args.cells inside_low c.requires.within)

pub index_mut-requires : goal.index_mut-requires
index_mut-requires g c =
    let inside_low = rw (c.len-i-end.ensures, c.args.x.now.low.ok.0) at c.rows-test.true in
    rw (c.rows.lows.ok.0, c.rows.invariant.count)
    (inside c.args.step c.rows.i (length c.args.x.now.low.items) c.args.cells inside_low c.requires.within)

pub index_mut-requires-in-rows : goal.index_mut-requires-in-rows
index_mut-requires-in-rows g c =
    let inside_low = rw (c.len-i-end.ensures, c.args.x.now.low.ok.0) at c.rows-test.true in
    rw (c.rows.highs.ok.0, c.rows.invariant.paired)
    (inside c.args.step c.rows.i (length c.args.x.now.low.items) c.args.cells inside_low c.requires.within)

pub from_ends-requires : goal.from_ends-requires
from_ends-requires g c =
    let i = c.rows.invariant in (
      omega arith,
      record {
        size = rw i.count c.requires.size;
        paired = i.paired ∙ sym i.count;
        ordered = i.ordered;
        small = i.small;
        mass = omega (arith, i.left);
      },
    )

pub rows-preserved : goal.rows-preserved
rows-preserved g c =
    let i = c.rows.invariant in
    let n = c.rows.i in
    let at = c.args.step * n in
    let xs = c.args.x.now.low.items in
    let ys = c.args.x.now.high.items in
    let lows = c.rows.lows.items in
    let highs = c.rows.highs.items in
    let lo = c.min-low.result in
    let hi = c.narrow_high-high.result in
    let in_low : n < length xs = omega (arith, c.rows-test.true, c.len-i-end.ensures, c.args.x.now.low.ok.0) in
    let in_high : n < length ys = omega (arith, in_low, c.requires.settled.alike) in
    let y_is = c.index.ensures ∙ get_or_default_zero ys n c.index.result.now in_high in
    let x_is = c.index-in-rows.ensures ∙ get_or_default_zero xs n c.index-in-rows.result.now in_low in
    let within : at < c.args.cells = inside c.args.step n (length xs) c.args.cells in_low c.requires.within in
    let at_low : at < length lows = rw i.count within in
    let at_high : at < length highs = rw i.paired within in
    let bottom : lo ≤ c.narrow_low.result = omega (arith, c.min-most.ensures, c.min-low.ensures) in
    record {
      count = length-set lows at lo ∙ i.count;
      paired = length-set highs at hi ∙ i.paired;
      ends = ends_more g.row.B c.args.start c.args.x.now.shift c.args.step xs ys lows highs lo hi c.args.down
          c.requires.apart c.requires.scale n at_low at_high i.ends
          (rw (← x_is) (omega (arith, mul-le-mul_right (2 ^ c.args.down) bottom, c.narrow_low.ensures.below)))
          (rw (y_is, c.units_of_one-one.ensures) at c.narrow_high-high.ensures.above);
      zeros = zeros_left c.args.step c.requires.apart n lows lo i.zeros;
      ordered = ordered_set lows highs at lo hi at_low at_high (omega (arith, c.min-most.ensures, c.min-low.ensures)) i.ordered;
      small = All-set (λ (high : ℕ). high ≤ 2 ^ g.row.B) highs at hi
          (omega (arith, c.narrow_high-high.ensures.top, c.units_of_one-one.ensures)) i.small;
      left = mass_set lows at lo c.rows.room (2 ^ g.row.B) at_low (i.zeros at (omega arith)) (omega (arith, c.min-most.ensures, c.min-low.ensures)) i.left;
    }

pub returns-clause-ends : goal.returns-clause-ends
returns-clause-ends g c =
    let e = c.from_ends.ensures in
    let all = rw (c.len-i-end.ensures, c.args.x.now.low.ok.0) at c.rows.auto.i-end in
    let none_left = rw (c.len-i-end.ensures, c.args.x.now.low.ok.0) at c.rows-test.false in
    let low : (λ x. get_or c.rows.lows.items x 0) ≡ low_at c.from_ends.result =
    fun_ext (λ x. rw (← e.low) (low_at_ends c.from_ends.result x)) in
    let high : (λ x. get_or c.rows.highs.items x 0) ≡ high_at c.from_ends.result =
    fun_ext (λ x. rw (← e.high) (high_at_ends c.from_ends.result x)) in
    rw (← low, ← high) (rw (le_antisymm all none_left) at c.rows.invariant.ends)
