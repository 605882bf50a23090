-- Each call goes on where the one before it ended.
use Rattle.dl_printer.proofs.Common.{item_pieces, rules}
use Rattle.dl_printer.proofs.Growing.{with_append}
use Rattle.dl_printer.proofs.lists.ListItemPrinted.print.Goals as goal

pub returns : goal.returns
unfolding item_pieces
returns c = search (rules, with_append)
