-- What one read gave is what was appended, and a read that failed is told as a fault.
use Rattle.std.proofs.Common.{arith, refl}
use Rattle.std.proofs.lemmas.List.{length-take}
use Rattle.dl_streams.proofs.Taken.{Keeps-TakesAtMost, filled-TakesAtMost, Consumes-more}
use Rattle.dl_streams.proofs.whole.read_more.Goals as goal

pub returns-in-Err-clause-steady : goal.returns-in-Err-clause-steady
returns-in-Err-clause-steady g c = λ other. absurd (other refl)

pub returns-in-Ok-extend_from_slice-clause-count : goal.returns-in-Ok-extend_from_slice-clause-count
returns-in-Ok-extend_from_slice-clause-count g c = omega (
  arith,
  c.in-Ok-extend_from_slice.ensures.len,
  length-take c.in-Ok.count c.read.new.buf,
  c.in-Ok.ensures.bound,
)

pub returns-in-Ok-extend_from_slice-clause-end : goal.returns-in-Ok-extend_from_slice-clause-end
returns-in-Ok-extend_from_slice-clause-end g c = λ none room. c.in-Ok.ensures.bytes.1 none (omega arith)

pub returns-in-Ok-extend_from_slice-clause-step : goal.returns-in-Ok-extend_from_slice-clause-step
returns-in-Ok-extend_from_slice-clause-step g c = c.in-Ok.ensures.step

pub returns-in-Ok-extend_from_slice-clause-given : goal.returns-in-Ok-extend_from_slice-clause-given
returns-in-Ok-extend_from_slice-clause-given g c = c.in-Ok-extend_from_slice.ensures.items

pub returns-in-Ok-extend_from_slice-clause-bytes : goal.returns-in-Ok-extend_from_slice-clause-bytes
returns-in-Ok-extend_from_slice-clause-bytes g c all before =
    Consumes-more all _ _ c.args.bytes.now.items _ _ before c.in-Ok.ensures.bytes.0 c.in-Ok-extend_from_slice.ensures.items

pub returns-in-Ok-extend_from_slice-clause-taken : goal.returns-in-Ok-extend_from_slice-clause-taken
returns-in-Ok-extend_from_slice-clause-taken g c =
    filled-TakesAtMost _ _ c.read.new.buf _ _ c.in-Ok.ensures.bytes.0 c.in-Ok.ensures.bound.0 c.read.auto.buf

pub returns-in-Err-extend_from_slice-clause-taken : goal.returns-in-Err-extend_from_slice-clause-taken
returns-in-Err-extend_from_slice-clause-taken g c =
    filled-TakesAtMost _ _ c.read.new.buf _ _ c.in-Ok.ensures.bytes.0 c.in-Ok.ensures.bound.0 c.read.auto.buf

pub returns-in-Err-clause-taken : goal.returns-in-Err-clause-taken
returns-in-Err-clause-taken g c = Keeps-TakesAtMost _ _ _ c.in-Err.ensures.bytes

pub returns-in-Err-clause-kept : goal.returns-in-Err-clause-kept
returns-in-Err-clause-kept g c = λ fault. c.in-Err.ensures.bytes
