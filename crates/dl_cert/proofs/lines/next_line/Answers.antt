use Rattle.dl_cert.proofs.LineLists.{ended_line, open_line}
use Rattle.dl_cert.proofs.lines.next_line.Goals as goal

pub returns-then-end-text-clause-lines : goal.returns-then-end-text-clause-lines
returns-then-end-text-clause-lines c =
    ended_line c.args.text.now c.args.offset c.requires c.after.ensures c.index_of.ensures.offset c.if-end-text.true

pub returns-else-end-text-clause-lines : goal.returns-else-end-text-clause-lines
returns-else-end-text-clause-lines c =
    open_line c.args.text.now c.args.offset c.requires c.after.ensures c.index_of.ensures.offset c.if-end-text.false
