-- What passes the test is spelled so.
use Rattle.dl_bytes.proofs.NumeralTests.{numeral_is}
use Rattle.dl_bytes.proofs.spelling.is_numeral.Goals as goal

pub returns-clause-spelled : goal.returns-clause-spelled
returns-clause-spelled c = numeral_is c.args.text.now c.passes.result c.passes.ensures
