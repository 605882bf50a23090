-- Each kind by its parts.
use Rattle.dl_frac.proofs.NumeralLaws.{decimal_bad_law, percent_bad_law, fraction_bad_law}
use Rattle.dl_frac.proofs.laws.law_bad_numerals.Goals as goal

pub returns : goal.returns
returns c = record { decimal = decimal_bad_law; percent = percent_bad_law; fraction = fraction_bad_law }
