-- The rest of the table finds what the whole table finds.
use Rattle.dl_lexer.proofs.Common.{◌≡◌, drop, map, first_spelled}
use Rattle.dl_lexer.proofs.token.find_in.Given as goal

abbrev pub invariant-loop-keyword : goal.invariant-loop-keyword
invariant-loop-keyword l = first_spelled (map (λ item. item.0) (drop l.keyword-index l.table)) l.bytes ≡ first_spelled
    (map (λ item. item.0) l.table) l.bytes
