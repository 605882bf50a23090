-- The loop over parts reads as many as there are.
use Rattle.dl_parser.proofs.Common.{rules, sym}
use Rattle.dl_parser.proofs.Loops.{loop_goes_on}
use Rattle.dl_parser.proofs.Steps.{fewer_tokens}
use Rattle.dl_parser.proofs.cursor.Parser.parts.Goals as goal

pub parts-preserved : goal.parts-preserved
parts-preserved g c = record {
  source = search rules;
  so_far = rw (c.in_ok-push.ensures.items)
      (loop_goes_on g.T.Part.next_rule g.met.T.Part.plain _ _ _ _ _ c.parts.invariant.so_far
      (sym c.parts-test.ensures) c.in_ok-next.ensures.reads);
}

pub parts-smaller : goal.parts-smaller
parts-smaller g c =
    fewer_tokens g.T.Part.next_rule g.met.T.Part.plain c.parts.self c.next.new.parser c.in_ok-next.field-0
    c.in_ok-next.ensures.reads
