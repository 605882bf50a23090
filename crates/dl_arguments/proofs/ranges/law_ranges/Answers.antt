-- The laws.
use Rattle.dl_arguments.proofs.RangeLaws.{words_are_text, words_in_range, words_have_few_cells}
use Rattle.dl_arguments.proofs.ranges.law_ranges.Goals as goal

pub returns : goal.returns
returns c = record { ranges = words_in_range; texts = words_are_text; cells = words_have_few_cells }
