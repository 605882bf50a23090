-- The meaning of each fault of the words.
use Rattle.std.specs.Prelude.{ℕ, ◌≡◌, ◌≢◌, ◌⊎◌, ⊤, List, Result, Err}
use Rattle.clap.specs.declared.error.kind.ErrorKind.{ErrorKind}
use Rattle.clap.specs.declared.error.kind.ErrorKind.TheVariants as refusals
use Rattle.dl_plan.specs.declared.settings.Asked.{Asked}
use Rattle.dl_plan.specs.declared.settings.Settings.{Settings}
use Rattle.dl_arguments.specs.declared.fault.UsageFault.{UsageFault}
use Rattle.dl_arguments.specs.declared.fault.UsageFault.TheVariants.{Line, Ask}
use Rattle.dl_arguments.specs.declared.fault.WordsFault.{WordsFault}
use Rattle.dl_arguments.specs.declared.fault.WordsFault.TheVariants.{Usage, OutOfMemory}

-- the fault is this one, or memory ran out
abbrev pub Explains : Result Settings UsageFault → WordsFault → Type 0
Explains answer (Usage fault) = answer ≡ Err fault
Explains answer OutOfMemory = ⊤

-- the meaning of a refusal by `clap` of this kind: memory ran out where it says so, and else the
-- words do not fit the command
abbrev pub IsClapRefusal : ErrorKind → WordsFault → Type 0
IsClapRefusal kind fault =
    ((kind ≡ refusals.OutOfMemory) × (fault ≡ OutOfMemory))
    ⊎ ((kind ≢ refusals.OutOfMemory) × (fault ≡ Usage Line))

-- the fault is the first misfit of the asks, or memory ran out
abbrev pub ExplainsAsks : Result (List Asked) ℕ → WordsFault → Type 0
ExplainsAsks asks (Usage Line) = ⊥
ExplainsAsks asks (Usage (Ask i)) = asks ≡ Err i
ExplainsAsks asks OutOfMemory = ⊤
