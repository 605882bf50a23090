use Rattle.dl_panjer.specs.Cells.{counted}
use Rattle.dl_cert.proofs.Common.{Bool, true, false, ℕ, ◌^◌, arith, sym, subst, List, length, ◌<◌, All, IsWeighted, nat_tests, Item, ◌also◌}
use Rattle.dl_cert.proofs.Outside.{grid_size}
use Rattle.dl_cert.proofs.bases.share_number.Goals as goal

-- either way of a recursion has room
room_of : (b : Bool) (n : ℕ) → n < 2 ^ 48 → counted b 65536 n < 2 ^ 64
room_of true n small = omega (arith, small)
room_of false n small = omega (arith, small)

pub next_cell-requires : goal.next_cell-requires
next_cell-requires g c =
    let share = c.args.share.now in
    let same = sym c.as_slice.ensures in
    (omega arith)
    also (record {
      size = grid_size (length c.args.before.now) (grind (arith, nat_tests)) c.requires.cells.few;
      small = c.requires.cells.small;
    })
    also subst (λ (l : List Item). IsWeighted l share.positive.total) same share.positive.weighted
    also subst (λ (l : List Item). All (λ (i : Item). 0 < i.amount) l) same share.no_zero
    also room_of _ share.rate.num share.small
