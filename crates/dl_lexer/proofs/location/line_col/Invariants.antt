-- The line and the column of the place that the loop has reached.
use Rattle.dl_lexer.proofs.Common.{◌≡◌, ◌≤◌, ◌+◌, line_of, column_of}
use Rattle.dl_lexer.proofs.location.line_col.Given as goal

abbrev pub invariant-loop-byte : goal.invariant-loop-byte
invariant-loop-byte l = record {
  line : l.line ≡ line_of l.source l.byte-index;
  column : l.column ≡ column_of l.source l.byte-index;
  short_line : l.line ≤ 1 + l.byte-index;
  short_column : l.column ≤ 1 + l.byte-index;
}
