use Rattle.dl_cert.proofs.Common.{sym, arith, subst, IsGrid, ◌also◌}
use Rattle.dl_cert.proofs.StartGrids.{exact_start, start_is_grid}
use Rattle.dl_cert.proofs.starting.start_grid.Goals as goal

pub grid_of-requires : goal.grid_of-requires
grid_of-requires c =
    let unit = c.args.unit.now in
    let list = c.in_ok-list.ensures in
    let cells = c.in_ok-list.list.items in
    let exact = exact_start c.in_ok-base.ensures c.requires.some list.cells list.low list.high in
    (omega arith) also (omega arith) also subst IsGrid (sym c.as_slice.ensures.value) (start_is_grid c.requires.valid.1
    c.requires.some (omega (arith, list.cells)) (omega (arith, list.cells)) list.small exact)
