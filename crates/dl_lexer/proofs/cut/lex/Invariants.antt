-- What the cutting keeps: the tokens so far cover the text up to the place that it has reached.
use Rattle.dl_lexer.proofs.Common.{◌-◌, ◌≤◌, length, Covers}
use Rattle.dl_lexer.proofs.cut.lex.Given as goal

abbrev pub invariant-cutting : goal.invariant-cutting
invariant-cutting l = record { within : l.at ≤ length l.source; covers : Covers l.source l.at l.tokens.items }

abbrev pub decreases-cutting : goal.decreases-cutting
decreases-cutting l = length l.source - l.at
