-- A head that is none of the words is the head of no row.
use Rattle.dl_arguments.proofs.Common.{refl}
use Rattle.dl_arguments.proofs.Heads.{other}
use Rattle.dl_arguments.proofs.asks.ask_of_unit.Goals as goal

pub returns-in_default : goal.returns-in_default
returns-in_default c =
    let d = c.in_default in
    rw (other _ _ d.not-joint, other _ _ d.not-kappa, other _ _ d.not-cotail) refl
