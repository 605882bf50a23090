use Rattle.std.proofs.Common.{div-le_self}
use Rattle.dl_recursion.proofs.Common.{◌≡◌, ℕ, ◌+◌, ◌-◌, ◌/◌, ◌^◌, ◌<◌, ◌≤◌, length, arith, refl, sym, ◌∙◌, get_or, get_or-set_same, set, length-set}
use Rattle.dl_start.proofs.Rounding.{ceil_small}
use Rattle.dl_start.proofs.Products.{two_pos}
use Rattle.dl_recursion.proofs.Raising.{window_begins, window_set, room_before, room_for, small_set, left_set, share_le, pass_begins, pass_goes_on}
use Rattle.dl_recursion.proofs.passes.pass.Goals as goal

pub cells-init : goal.cells-init
cells-init c =
    let low = c.args.low.now in
    let high = c.args.high.now in
    let run = c.args.run in
    let some : 0 < length low = c.requires.some in
    let high_some : 0 < length high = omega (arith, some, c.requires.ends.alike) in
    let low_end = get_or low 0 0 / 2 ^ c.args.down in
    let high_small : c.raised.result ≤ c.args.most =
    rw c.raised.ensures (ceil_small (get_or high 0 0) (2 ^ c.args.down) c.args.most (two_pos c.args.down) (c.requires.ends.high_small 0)) in
    record {
      alike = rw (length-set, length-set) c.requires.ends.alike;
      low_small = small_set low 0 low_end c.args.most some c.requires.ends.low_small
          (omega (arith, div-le_self (get_or low 0 0) (2 ^ c.args.down), c.requires.ends.low_small 0));
      high_small = small_set high 0 c.raised.result c.args.most high_some c.requires.ends.high_small high_small;
      low_last = refl;
      high_last = refl;
      low_window = sym (window_begins (set low 0 low_end) run c.requires.run.amount);
      high_window = sym (window_begins (set high 0 c.raised.result) run c.requires.run.amount);
      low_left = left_set low low 0 low_end (λ k l. refl);
      high_left = left_set high high 0 c.raised.result (λ k l. refl);
      round = λ q e u r pos is raised was.
          rw c.raised.ensures (pass_begins run c.requires.run.amount c.args.factor q e c.args.down u r pos is raised (length low) low high was
          some (omega arith) c.requires.ends.alike);
    }

pub slid-low_sum-requires-clause-room : goal.slid-low_sum-requires-clause-room
slid-low_sum-requires-clause-room c =
    let fits = room_before c.cells.low c.cells.s c.args.most c.args.run c.cells.invariant.low_small in
    omega (arith, c.cells.invariant.low_window, c.requires.room, fits)

pub slid-high_sum-requires-clause-room : goal.slid-high_sum-requires-clause-room
slid-high_sum-requires-clause-room c =
    let fits = room_before c.cells.high c.cells.s c.args.most c.args.run c.cells.invariant.high_small in
    omega (arith, c.cells.invariant.high_window, c.requires.room, fits)

pub overflow_add-low_end : goal.overflow_add-low_end
overflow_add-low_end c =
    let i = c.cells.invariant in
    let y = get_or c.cells.low c.cells.s 0 / 2 ^ c.args.down in
    let less : y ≤ c.args.most =
    omega (arith, div-le_self (get_or c.cells.low c.cells.s 0) (2 ^ c.args.down), i.low_small c.cells.s) in
    omega (
      arith,
      c.requires.room,
      c.share.ensures,
      share_le c.slid-low_sum.result c.args.factor (omega (arith, c.requires.factor)),
      c.slid-low_sum.ensures,
      room_for c.cells.low c.cells.s c.args.most y c.args.run i.low_small less,
    )

pub overflow_add-high_end-in-cells : goal.overflow_add-high_end-in-cells
overflow_add-high_end-in-cells c =
    let i = c.cells.invariant in
    let y = c.raised-in-cells.result in
    let less : y ≤ c.args.most =
    rw c.raised-in-cells.ensures (ceil_small (get_or c.cells.high c.cells.s 0) (2 ^ c.args.down) c.args.most (two_pos c.args.down)
    (i.high_small c.cells.s)) in
    omega (
      arith,
      c.requires.room,
      c.share-in-cells.ensures,
      share_le c.slid-high_sum.result (c.args.factor + 1) c.requires.factor,
      c.slid-high_sum.ensures,
      room_for c.cells.high c.cells.s c.args.most y c.args.run i.high_small less,
    )

pub cells-preserved : goal.cells-preserved
cells-preserved c =
    let i = c.cells.invariant in
    let s = c.cells.s in
    let low = c.cells.low in
    let high = c.cells.high in
    let run = c.args.run in
    let low_end = c.share.result + get_or low s 0 / 2 ^ c.args.down in
    let high_end = c.share-in-cells.result + 1 + c.raised-in-cells.result in
    let low_within : s < length low = omega (arith, c.cells-test.true, c.cells.auto.low) in
    let high_within : s < length high = omega (arith, low_within, i.alike) in
    let here : s + 1 - 1 ≡ s = omega arith in
    record {
      alike = rw (length-set, length-set) i.alike;
      low_small = small_set low s low_end c.args.most low_within i.low_small (omega (arith, c.max.ensures, c.if-max-most.false));
      high_small = small_set high s high_end c.args.most high_within i.high_small
          (omega (arith, c.max.ensures, c.if-max-most.false));
      low_last = rw here (sym (get_or-set_same low s low_end 0 low_within));
      high_last = rw here (sym (get_or-set_same high s high_end 0 high_within));
      low_window = c.slid-low_sum.ensures ∙ sym (window_set low s low_end run c.requires.run.amount);
      high_window = c.slid-high_sum.ensures ∙ sym (window_set high s high_end run c.requires.run.amount);
      low_left = left_set low c.args.low.now s low_end i.low_left;
      high_left = left_set high c.args.high.now s high_end i.high_left;
      round = λ q e u r pos is raised was.
          rw (c.share.ensures, c.slid-low_sum.ensures, c.share-in-cells.ensures, c.slid-high_sum.ensures, c.raised-in-cells.ensures)
          (pass_goes_on run c.requires.run.amount c.args.factor q e c.args.down u r pos is raised (length c.args.low.now)
          c.args.low.now c.args.high.now was low high s c.cells.auto.s
          (omega (arith, c.cells-test.true, length-set {A = ℕ})) low_within i.alike (i.low_left s (omega arith))
          (i.high_left s (omega arith)) (i.round q e u r pos is raised was));
    }

pub returns-clause-round : goal.returns-clause-round
returns-clause-round c t q e u r pos is raised was =
    let n = length c.args.low.now in
    let some : 1 ≤ n = c.requires.some in
    let last : c.cells.s ≡ n =
    omega (arith, c.cells-test.false, c.cells.auto.s-end, some, length-set {A = ℕ}) in
    rw last at (c.cells.invariant.round q e u r pos is raised was)
