-- The list is too long, whatever its items are.
use Rattle.dl_reading.proofs.Common.{◌∙◌}
use Rattle.dl_reading.proofs.Spanned.{long_read}
use Rattle.dl_reading.proofs.value_lists.long_list.Goals as goal

pub returns-clause-read : goal.returns-clause-read
returns-clause-read c =
    long_read c.args.bounds c.args.list.now _ c.requires.long c.requires.items
    (c.no_values.ensures.flaws ∙ rw c.long_at.ensures at c.or.ensures)
