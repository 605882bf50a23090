use Rattle.std.proofs.Common.{rules}
use Rattle.std.proofs.Math.Nat.{le_of_lt}
use Rattle.dl_recursion.proofs.Common.{◌≡◌, ◌+◌, length, arith, sym, ap, ◌∙◌, all_parts}
use Rattle.dl_recursion.specs.declared.cells.ScaledCells.{ScaledCells}
use Rattle.dl_recursion.proofs.Contributions.{room_part, room_before}
use Rattle.dl_recursion.proofs.Grow.{begun_first, begun_in_scale, grown_first}
use Rattle.dl_recursion.proofs.Runs.{all_positive, alone_le}
use Rattle.dl_recursion.proofs.BlockSums.{given_kept, given_nothing}
use Rattle.dl_recursion.proofs.blocks.by_blocks.Goals as goal

pub factors_of-requires : goal.factors_of-requires
factors_of-requires c = record {
  room = rw c.deref.ensures.value (room_part c.requires.room.room (alone_le c.args.amounts.now));
}

pub cells-init : goal.cells-init
cells-init c =
    let e = c.in_ok-x.ensures in
    let given = c.nothing_given-given.ensures in
    record {
      in_scale = begun_in_scale c.args.amounts.now.runs.items c.in_ok-x.x e;
      count = ap length e.low;
      first = begun_first _ _ _ _ c.in_ok-x.x e;
      given = λ same. given_nothing _ _ _ given.cells given.low given.high;
    }

pub fill_rest-requires-clause-room : goal.fill_rest-requires-clause-room
fill_rest-requires-clause-room c =
    rw (c.reach_of-reach.ensures.weight, c.cells.invariant.count) (room_before c.requires.room (le_of_lt c.cells-test.true))

pub returns-then-branch : goal.returns-then-branch
returns-then-branch c =
    let amounts = c.args.amounts.now in
    let e = c.reach_of-reach.ensures in
    c.in_ok-fill_rest.ensures.first (rw c.if-branch.true (search rules)) (all_parts amounts)
    (all_positive amounts c.requires.amounts) e.amount e.weight c.cells.invariant.first

pub with_block-alone-requires-clause-room : goal.with_block-alone-requires-clause-room
with_block-alone-requires-clause-room c =
    let room = room_before c.requires.room (le_of_lt c.cells-test.true) in
    rw (c.deref-in-cells-2.ensures.value, c.in_ok-fill_rest.ensures.kept c.if-branch.false, c.cells.invariant.count)
    (room_part room.room (alone_le c.args.amounts.now))

pub with_block-alone-requires-clause-amounts : goal.with_block-alone-requires-clause-amounts
with_block-alone-requires-clause-amounts c = rw c.deref-in-cells-2.ensures.value c.requires.amounts.parts

pub grow-requires-clause-room : goal.grow-requires-clause-room
grow-requires-clause-room c =
    rw (c.in_ok-fill_rest.ensures.kept c.if-branch.false, c.cells.invariant.count)
    (room_before c.requires.room (le_of_lt c.cells-test.true))

pub cells-preserved : goal.cells-preserved
cells-preserved c =
    let i = c.cells.invariant in
    let e = c.in_ok-grow.ensures in
    let next = c.in_ok-next_block.ensures in
    let known = c.if-not-branch.false in
    let same = c.in_ok-fill_rest.ensures.kept c.if-branch.false in
    record {
      in_scale = e.in_scale;
      count = e.cells ∙ ap (λ (t : ScaledCells). length t.low.items + 1) same ∙ ap (λ t. t + 1) i.count;
      first = grown_first c.args.amounts.now 0 c.args.after c.args.q c.fill_rest.new.x _ e (rw same i.first);
      given = λ h. given_kept _ c.fill_rest.new.x _ c.next_block.new.given
          (e.kept (sym h ∙ next.shift (rw known (search rules)))) (omega (arith, e.cells))
          (rw c.deref-in-cells.ensures.value at (next.given (rw known (search rules))));
    }

pub returns : goal.returns
returns c =
    let x = c.cells.x in
    let i = c.cells.invariant in
    let e : length x.low.items ≡ c.args.cells =
    omega (arith, i.count, c.requires.some, c.cells-test.false, c.cells.auto.n-end c.requires.some) in
    rw e at i.first
