-- The loop over atoms reads as many as there are.
use Rattle.dl_parser.proofs.Common.{rules, sym, [], ◌∷◌, ◌++◌, ap, ◌∙◌, append_assoc, atom, plain}
use Rattle.dl_parser.proofs.Loops.{loop_goes_on}
use Rattle.dl_parser.proofs.Steps.{fewer_tokens}
use Rattle.dl_parser.proofs.cursor.Parser.more_atoms.Goals as goal

pub atoms-smaller : goal.atoms-smaller
atoms-smaller c =
    fewer_tokens atom plain.by_atoms c.atoms.self c.atom.new.self c.in_ok-atom.field-0 c.in_ok-atom.ensures.reads

pub atoms-preserved : goal.atoms-preserved
atoms-preserved c =
    let before = c.atoms.invariant.so_far in
    record {
      source = search rules;
      so_far = (
        before.0 ++ c.in_ok-atom.field-0 ∷ [],
        c.in_ok-push.ensures.items ∙ ap (λ xs. xs ++ c.in_ok-atom.field-0 ∷ []) before.1 ∙ append_assoc _ before.0 _,
        loop_goes_on atom plain.by_atoms _ _ _ _ _ before.2 (sym c.atoms-test.ensures) c.in_ok-atom.ensures.reads,
      );
    }
