-- What is read is the text so far.
use Rattle.dl_frac.proofs.Common.{take, IsReadingOf}
use Rattle.dl_frac.proofs.numerals.ratio.Given as goal

abbrev pub invariant-bytes : goal.invariant-bytes
invariant-bytes l = IsReadingOf l.digits (take l.byte-index l.text) l.read
