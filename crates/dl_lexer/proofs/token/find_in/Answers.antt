-- One entry of the table is compared, and the rest is searched.
use Rattle.dl_lexer.proofs.Common.{◌≡◌, ◌≢◌, ◌∙◌, List, ℕ, ap, sym, rules, first_spelled}
use Rattle.dl_lexer.proofs.Spellings.{first_spelled_here, first_spelled_later, rest_of_table}
use Rattle.dl_lexer.proofs.token.find_in.Goals as goal

pub returns-then-eq : goal.returns-then-eq
returns-then-eq c =
    let bytes : List ℕ = c.args.bytes.now in
    let same : c.spelling.result.now ≡ bytes = search rules in
    let at = ap (λ ks. first_spelled ks bytes)
    (rest_of_table c.args.table.now c.loop-keyword.keyword-index _ c.loop-keyword-test.true) in
    sym (first_spelled_here _ _ bytes (sym c.spelling.ensures ∙ same)) ∙ sym at ∙ c.loop-keyword.invariant

pub loop-keyword-preserved : goal.loop-keyword-preserved
loop-keyword-preserved c =
    let bytes : List ℕ = c.args.bytes.now in
    let other : c.spelling.result.now ≢ bytes = search rules in
    let at = ap (λ ks. first_spelled ks bytes)
    (rest_of_table c.args.table.now c.loop-keyword.keyword-index _ c.loop-keyword-test.true) in
    sym (first_spelled_later _ _ bytes (λ e. other (c.spelling.ensures ∙ e))) ∙ sym at ∙ c.loop-keyword.invariant
