-- When a clause fits sums on a lattice.
use Rattle.std.specs.Prelude.{ℕ, ◌+◌, ◌*◌}
use Rattle.std.specs.Int.{div_ceil}
use Rattle.dl_plan.specs.Prelude.{IsWhole, Clause, kept, edge}
use Rattle.dl_plan.specs.declared.cede.CedeLayer.{CedeLayer}

-- the clause maps every multiple of the step to a whole number
abbrev pub FitsStep : Clause → ℕ → Type 0
FitsStep clause step = (n : ℕ) → IsWhole (kept clause (n * step))

-- it does so for the first two multiples that are not below a place
abbrev pub FitsAfter : Clause → ℕ → ℕ → Type 0
FitsAfter clause step bound =
    let first : ℕ = div_ceil bound step * step in
    IsWhole (kept clause first) × IsWhole (kept clause (first + step))

-- and for those past where a layer begins and where it ends
abbrev pub FitsLayer : Clause → ℕ → CedeLayer → Type 0
FitsLayer clause step l = FitsAfter clause step l.attach × FitsAfter clause step (edge l)
