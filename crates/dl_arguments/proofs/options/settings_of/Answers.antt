use Rattle.dl_arguments.proofs.options.settings_of.Goals as goal

pub returns-clause-some : goal.returns-clause-some
returns-clause-some c =
    let make = c.in_ok-make.ensures in
    let bs = c.in_ok-bs.ensures in
    rw (make.0, bs.0, ← make.1, ← bs.1) c.settings_with.ensures.some

pub returns-clause-none : goal.returns-clause-none
returns-clause-none c = rw (c.in_ok-make.ensures.0, c.in_ok-bs.ensures.0) c.settings_with.ensures.none
