-- Each kind by its parts.
use Rattle.dl_frac.proofs.NumeralLaws.{plain_law, pointed_law, percent_law, fraction_law}
use Rattle.dl_frac.proofs.laws.law_numeral_values.Goals as goal

pub returns : goal.returns
returns c = record { plain = plain_law; pointed = pointed_law; percent = percent_law; fraction = fraction_law }
