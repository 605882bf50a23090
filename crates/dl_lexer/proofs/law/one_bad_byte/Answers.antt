-- A text has at most one bad place, and it is the last that the cutting reaches.
use Rattle.dl_lexer.proofs.CoverLaws.{bad_one, bad_last}
use Rattle.dl_lexer.proofs.law.one_bad_byte.Goals as goal

pub returns-clause-one : goal.returns-clause-one
returns-clause-one c = bad_one

pub returns-clause-last : goal.returns-clause-last
returns-clause-last c = bad_last
