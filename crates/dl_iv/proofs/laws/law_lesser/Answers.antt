use Rattle.dl_iv.proofs.Common.{lesser_first, lesser_second, le_lesser}
use Rattle.dl_iv.proofs.laws.law_lesser.Goals as goal

pub returns-clause-first : goal.returns-clause-first
returns-clause-first c = lesser_first

pub returns-clause-second : goal.returns-clause-second
returns-clause-second c = lesser_second

pub returns-clause-greatest : goal.returns-clause-greatest
returns-clause-greatest c = le_lesser
