-- A covered text has no bad place.
use Rattle.dl_lexer.proofs.CoverLaws.{covered_not_bad}
use Rattle.dl_lexer.proofs.law.covered_is_not_bad.Goals as goal

pub returns : goal.returns
returns c = covered_not_bad
