-- A head that is none of the words is the head of no row.
use Rattle.dl_arguments.proofs.Heads.{other}
use Rattle.dl_arguments.proofs.asks.ask_between.Goals as goal

pub returns-in_default : goal.returns-in_default
returns-in_default c =
    let d = c.in_default in
    rw (
      other _ _ d.not-pmf,
      other _ _ d.not-cdf,
      other _ _ d.not-q,
      other _ _ d.not-tail,
      other _ _ d.not-price,
      other _ _ d.not-layer,
    ) c.ask_of_unit.ensures
