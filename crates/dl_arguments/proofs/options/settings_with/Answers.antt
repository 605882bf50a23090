use Rattle.dl_arguments.proofs.Common.{refl}
use Rattle.dl_arguments.proofs.options.settings_with.Goals as goal

pub returns-clause-some : goal.returns-clause-some
returns-clause-some c =
    let log2 = c.in_ok-log2.ensures.value in
    let digits = c.in_ok-digits.ensures.value in
    let width = c.in_ok-width.ensures.value in
    let mwidth = c.in_ok-mwidth.ensures.value in
    let format = c.in_ok-format.ensures in
    let rules = c.in_ok-rules.ensures in (
      rw (log2.0, digits.0, width.0, mwidth.0, format.0, rules.0) refl,
      rw (log2.1, digits.1, width.1, mwidth.1, format.1, rules.1, c.from_vec.ensures, c.new.ensures.items) refl,
    )
