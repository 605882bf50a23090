use Rattle.dl_panjer.proofs.Base.{base_encloses}
use Rattle.dl_panjer.proofs.laws.law_base.Goals as goal

pub returns : goal.returns
returns c S K a b f w lo hi F z P pos severity start =
    base_encloses S K a b f lo hi F w z P pos severity start.1 start.0
