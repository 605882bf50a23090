use Rattle.dl_recursion.proofs.recursion.shrink.Goals as goal

pub returns-clause-shifted : goal.returns-clause-shifted
returns-clause-shifted c =
    let e = c.shift_cells.ensures.shifted in
    record { sound = e.sound; cells = e.cells; shift = e.shift; low = e.low; high = e.high }
