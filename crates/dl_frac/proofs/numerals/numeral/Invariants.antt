-- What is read is the text so far, and there is no slash in it.
use Rattle.dl_frac.proofs.Common.{◌≡◌, false, take, list_any, is_slash, IsReadingOf}
use Rattle.dl_frac.proofs.numerals.numeral.Given as goal

abbrev pub invariant-bytes : goal.invariant-bytes
invariant-bytes l = record {
  reads : IsReadingOf l.digits (take l.at l.text) l.read;
  whole : list_any is_slash (take l.at l.text) ≡ false;
}
