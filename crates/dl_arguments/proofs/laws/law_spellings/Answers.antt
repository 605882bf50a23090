-- The tests are those of the spellings.
use Rattle.dl_arguments.proofs.Common.{numeral_test}
use Rattle.dl_arguments.proofs.laws.law_spellings.Goals as goal

pub returns : goal.returns
returns c = record {
  numeral = numeral_test;
  word = λ text. (λ h. h, λ h. h);
}
