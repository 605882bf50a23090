use Rattle.dl_top.proofs.Common.{◌≡◌, ◌*◌, ◌++◌, codes, value_after, unit_lines}
use Rattle.dl_top.proofs.generator.made.Given as goal

abbrev pub invariant-loop-before : goal.invariant-loop-before
invariant-loop-before l = (l.text.items ≡ codes "port Made\n" ++ unit_lines l.n l.before)
    × (l.draws.value ≡ value_after l.n (2 * l.before))
