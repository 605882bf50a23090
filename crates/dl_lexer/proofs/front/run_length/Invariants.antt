-- The bytes so far are all of the class, and the rest goes on with the run.
use Rattle.dl_lexer.proofs.Common.{◌≡◌, ◌+◌, drop, prefix_len, is_in}
use Rattle.dl_lexer.proofs.front.run_length.Given as goal

abbrev pub invariant-loop-i : goal.invariant-loop-i
invariant-loop-i l = l.i + prefix_len (is_in l.class) (drop l.i l.bytes) ≡ prefix_len (is_in l.class) l.bytes
