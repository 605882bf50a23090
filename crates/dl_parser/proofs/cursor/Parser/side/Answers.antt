-- The next token tells which side it is.
use Rattle.dl_parser.proofs.Common.{true, false, sym, ◌∙◌, Word, side, ◌≫◌, ◌means◌, Net, Of, Ceded, To}
use Rattle.dl_parser.proofs.Steps.{or_first}
use Rattle.dl_parser.proofs.cursor.Parser.side.Goals as goal

pub returns-then-is_next-clause-reads : goal.returns-then-is_next-clause-reads
unfolding side
returns-then-is_next-clause-reads c =
    or_first (Word Net ≫ Word Of means true) (Word Ceded ≫ Word To means false) c.args.self.now c.take_pair.new.self
    c.take_pair.result (sym c.is_next.ensures ∙ c.if-is_next.true) c.take_pair.ensures.reads
