-- The fraction, where digits stand round a slash.
use Rattle.dl_lexer.proofs.Common.{arith, ap, drop, prefix_len, is_ascii_digit, ◌≡◌, ◌+◌, ◌∙◌}
use Rattle.std.proofs.lemmas.List.{take_rest}
use Rattle.dl_lexer.proofs.NumeralLengths.{fraction_none, fraction_with_slash}
use Rattle.dl_lexer.proofs.front.fraction_length.Goals as goal

pub returns-then-below-eq0 : goal.returns-then-below-eq0
returns-then-below-eq0 c =
    let behind : c.run_length-below.result ≡ prefix_len is_ascii_digit (drop (c.args.above + 1) c.args.bytes.now) =
    c.run_length-below.ensures.run ∙ ap (λ bs. prefix_len is_ascii_digit bs) (take_rest c.args.bytes.now (c.args.above + 1)) in
    fraction_none c.args.bytes.now c.args.above c.run_length-below.result c.requires behind
    (λ mark above below. omega (arith, below, c.if-below-eq0.true))

pub returns-else-below-eq0 : goal.returns-else-below-eq0
returns-else-below-eq0 c =
    let behind : c.run_length-below.result ≡ prefix_len is_ascii_digit (drop (c.args.above + 1) c.args.bytes.now) =
    c.run_length-below.ensures.run ∙ ap (λ bs. prefix_len is_ascii_digit bs) (take_rest c.args.bytes.now (c.args.above + 1)) in
    fraction_with_slash c.args.bytes.now c.args.above c.run_length-below.result c.requires (c.is_at.ensures.is.0 c.if-not-is_at.false)
    behind (omega (arith, c.if-above-eq0.false)) (omega (arith, c.if-below-eq0.false))
