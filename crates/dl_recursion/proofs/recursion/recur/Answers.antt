use Rattle.std.proofs.Common.{rules}
use Rattle.std.proofs.Math.Nat.{le_of_lt}
use Rattle.dl_recursion.proofs.Common.{◌≡◌, ◌+◌, ◌*◌, ◌^◌, ◌≤◌, length, arith, max, ap, ◌∙◌, mul-pos, flat_map, all_parts, run_parts, Part, part_sum}
use Rattle.dl_recursion.specs.declared.cells.ScaledCells.{ScaledCells}
use Rattle.dl_recursion.proofs.Contributions.{room_part, share_room, room_before}
use Rattle.dl_recursion.proofs.Grow.{begun_first, begun_in_scale, grown_first}
use Rattle.dl_recursion.proofs.Runs.{all_positive, all_left, alone_le}
use Rattle.dl_recursion.proofs.recursion.recur.Goals as goal

pub reach_of-reach-requires-clause-room : goal.reach_of-reach-requires-clause-room
reach_of-reach-requires-clause-room c =
    share_room (max c.args.before c.args.after * c.args.cells) (part_sum (all_parts c.args.amounts.now)) (2 ^ 64)
    (mul-pos (omega (arith, c.requires.some_step)) c.requires.some) c.requires.room.room.weights

pub cells-init : goal.cells-init
cells-init c =
    let e = c.in_ok-x.ensures in
    record {
      in_scale = begun_in_scale c.args.amounts.now.runs.items c.in_ok-x.x e;
      count = ap length e.low;
      first = begun_first _ _ _ _ c.in_ok-x.x e;
    }

pub fill_rest-requires-clause-some : goal.fill_rest-requires-clause-some
fill_rest-requires-clause-some c = c.cells.invariant.in_scale.some

pub fill_rest-requires-clause-few : goal.fill_rest-requires-clause-few
fill_rest-requires-clause-few c = rw c.cells.invariant.count (le_of_lt c.cells-test.true)

pub fill_rest-requires-clause-room : goal.fill_rest-requires-clause-room
fill_rest-requires-clause-room c =
    rw (c.reach_of-reach.ensures.weight, c.cells.invariant.count) (room_before c.requires.room (le_of_lt c.cells-test.true))

pub alone-alone-requires-clause-room : goal.alone-alone-requires-clause-room
alone-alone-requires-clause-room c =
    let amounts = c.args.amounts.now in
    let room = room_before c.requires.room (le_of_lt c.cells-test.true) in
    rw (c.as_slice-low.ensures.value, c.deref.ensures.value, c.in_ok-fill_rest.ensures.kept c.if-branch.false, c.cells.invariant.count)
    (room_part room.room (alone_le amounts))

pub alone-alone-requires-clause-reach : goal.alone-alone-requires-clause-reach
alone-alone-requires-clause-reach c =
    let amounts = c.args.amounts.now in
    rw c.deref.ensures.value
    (all_left (λ (p : Part). p.amount ≤ c.reach_of-reach.result.amount) amounts.parts.items
    (flat_map run_parts amounts.runs.items) c.reach_of-reach.ensures.amount)

pub returns-then-branch : goal.returns-then-branch
returns-then-branch c =
    let i = c.cells.invariant in
    let amounts = c.args.amounts.now in
    let e = c.reach_of-reach.ensures in
    c.in_ok-fill_rest.ensures.first (rw c.if-branch.true (search rules)) (all_parts amounts) (all_positive amounts c.requires.amounts) e.amount e.weight i.first

pub cells-preserved : goal.cells-preserved
cells-preserved c =
    let i = c.cells.invariant in
    let e = c.in_ok-grow.ensures in
    let x = c.cells.x in
    let same = c.in_ok-fill_rest.ensures.kept c.if-branch.false in
    record {
      in_scale = e.in_scale;
      count = e.cells ∙ ap (λ (t : ScaledCells). length t.low.items + 1) same ∙ ap (λ t. t + 1) i.count;
      first = grown_first c.args.amounts.now c.args.before c.args.after c.args.q c.fill_rest.new.x _ e (rw same i.first);
    }

pub returns : goal.returns
returns c =
    let x = c.cells.x in
    let i = c.cells.invariant in
    let e : length x.low.items ≡ c.args.cells =
    omega (arith, i.count, c.requires.some, c.cells-test.false, c.cells.auto.n-end c.requires.some) in
    rw e at i.first
