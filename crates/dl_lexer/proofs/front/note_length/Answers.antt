-- The note, where its text ends with a closing brace.
use Rattle.dl_lexer.proofs.Common.{◌≢◌, ◌+◌, List, ℕ, sym, subst, Some, slice_get, rules, IsNote, IsLongest, codes, begins_so}
use Rattle.dl_lexer.proofs.WordLengths.{note_closed, note_open}
use Rattle.dl_lexer.proofs.front.note_length.Goals as goal

pub returns-then-is_at : goal.returns-then-is_at
returns-then-is_at c =
    let text : List ℕ = c.in-Some.text.now in
    let n : ℕ = c.run_length-length.result in
    let split = begins_so (codes "note{") c.args.bytes.now text c.in-Some.ensures.cases.0 c.in-Some.ensures.cases.1 in
    subst (λ ys. IsLongest IsNote ys (n + 6)) (sym split)
    (note_closed text n c.run_length-length.ensures.run (c.is_at.ensures.is.0 c.if-is_at.true))

pub returns-else-is_at : goal.returns-else-is_at
returns-else-is_at c =
    let text : List ℕ = c.in-Some.text.now in
    let n : ℕ = c.run_length-length.result in
    let split = begins_so (codes "note{") c.args.bytes.now text c.in-Some.ensures.cases.0 c.in-Some.ensures.cases.1 in
    let open_end : slice_get text n ≢ Some 125 = search rules in
    subst (λ ys. IsLongest IsNote ys 0) (sym split) (note_open text n c.run_length-length.ensures.run open_end)
