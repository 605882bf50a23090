-- The longest decimal, with a point behind the first digits.
use Rattle.dl_lexer.proofs.Common.{arith, ap, drop, prefix_len, is_ascii_digit, ◌≡◌, ◌+◌, ◌∙◌}
use Rattle.std.proofs.lemmas.List.{take_rest}
use Rattle.dl_lexer.proofs.NumeralLengths.{decimal_with_point, decimal_with_bare_point}
use Rattle.dl_lexer.proofs.front.decimal_length.Goals as goal

pub returns-then-whole-part-eq0 : goal.returns-then-whole-part-eq0
returns-then-whole-part-eq0 c =
    let behind : c.run_length-part.result ≡ prefix_len is_ascii_digit (drop (c.args.whole + 1) c.args.bytes.now) =
    c.run_length-part.ensures.run ∙ ap (λ bs. prefix_len is_ascii_digit bs) (take_rest c.args.bytes.now (c.args.whole + 1)) in
    decimal_with_bare_point c.args.bytes.now c.args.whole c.run_length-part.result c.requires behind c.if-whole-part-eq0.true

pub returns-else-whole-part-eq0 : goal.returns-else-whole-part-eq0
returns-else-whole-part-eq0 c =
    let behind : c.run_length-part.result ≡ prefix_len is_ascii_digit (drop (c.args.whole + 1) c.args.bytes.now) =
    c.run_length-part.ensures.run ∙ ap (λ bs. prefix_len is_ascii_digit bs) (take_rest c.args.bytes.now (c.args.whole + 1)) in
    decimal_with_point c.args.bytes.now c.args.whole c.run_length-part.result c.requires
    (c.is_at.ensures.is.0 c.if-not-is_at.false) behind (omega (arith, c.if-whole-part-eq0.false))
