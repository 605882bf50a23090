use Rattle.dl_measures.proofs.Widths.{mass}
use Rattle.dl_measures.proofs.laws.law_mass.Goals as goal

pub returns : goal.returns
returns c = mass
