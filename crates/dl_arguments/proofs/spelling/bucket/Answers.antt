use Rattle.dl_arguments.proofs.Common.{Bool, ◌∙◌, sym, nat_lt, Fraction}
use Rattle.dl_arguments.proofs.TestedValues.{none_tested, some_tested}
use Rattle.dl_arguments.proofs.spelling.bucket.Goals as goal

abbrev is_above_zero : Fraction → Bool
is_above_zero value = nat_lt 0 value.num

pub returns-in_err-value : goal.returns-in_err-value
returns-in_err-value c =
    c.from_residual.ensures ∙ none_tested _ is_above_zero _ (sym c.in_err-value.was ∙ c.fraction.ensures)

pub returns : goal.returns
returns c = c.then_some.ensures
    ∙ rw c.num.ensures.part (some_tested _ is_above_zero _ _ (sym c.in_ok-value.was ∙ c.fraction.ensures))
