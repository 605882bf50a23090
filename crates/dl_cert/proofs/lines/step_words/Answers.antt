use Rattle.dl_cert.proofs.Common.{codes, length, ap, arith, drop, begins_so, begins_otherwise}
use Rattle.dl_cert.proofs.Words.{begins_with}
use Rattle.dl_cert.proofs.Readings.{begins_one, no_step}
use Rattle.dl_cert.proofs.lines.step_words.Goals as goal

pub returns-in-Some : goal.returns-in-Some
returns-in-Some c =
    let line = c.args.line.now in
    let rest = c.in-Some._cells.now in
    let cases = c.in-Some.ensures.cases in
    let begins = begins_with (codes "one") line rest (begins_so (codes "one") line rest cases.0 cases.1) cases.1 in
    (begins_one (drop 3 line) begins, omega (arith, ap length begins))

pub returns : goal.returns
returns c =
    let line = c.args.line.now in
    no_step (begins_otherwise (codes "one") line c.in_default.ensures.cases)
    (begins_otherwise (codes "start ") line c.in_default-strip_prefix.ensures.cases)
    (begins_otherwise (codes "times ") line c.in_default-strip_prefix-2.ensures.cases)
