-- The loop over definitions reads as many as there are.
use Rattle.dl_parser.proofs.Common.{rules, sym, sevdef, plain}
use Rattle.dl_parser.proofs.Loops.{loop_goes_on}
use Rattle.dl_parser.proofs.Steps.{fewer_tokens}
use Rattle.dl_parser.proofs.cursor.Parser.definitions.Goals as goal

pub definitions-smaller : goal.definitions-smaller
definitions-smaller c =
    fewer_tokens sevdef plain.by_definitions c.definitions.self c.definition.new.self c.in_ok-definition.field-0
    c.in_ok-definition.ensures.reads

pub definitions-preserved : goal.definitions-preserved
definitions-preserved c = record {
  source = search rules;
  so_far = rw (c.in_ok-push.ensures.items)
      (loop_goes_on sevdef plain.by_definitions _ _ _ _ _ c.definitions.invariant.so_far
      (sym c.definitions-test.ensures) c.in_ok-definition.ensures.reads);
}
