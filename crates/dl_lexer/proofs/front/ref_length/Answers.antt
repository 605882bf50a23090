-- The reference, where a word stands behind its first bytes.
use Rattle.dl_lexer.proofs.Common.{ℕ, List, ◌+◌, sym, subst, arith, IsRef, IsLongest, codes, begins_so, begins_otherwise}
use Rattle.dl_lexer.proofs.WordLengths.{ref_longest, ref_none}
use Rattle.dl_lexer.proofs.front.ref_length.Goals as goal

pub returns-in_default : goal.returns-in_default
returns-in_default c =
    ref_none c.args.bytes.now (begins_otherwise (codes "sev.") c.args.bytes.now c.in_default.ensures.cases)

pub returns-then-length-gt0 : goal.returns-then-length-gt0
returns-then-length-gt0 c =
    let name : List ℕ = c.in-Some.name.now in
    let n : ℕ = c.word_length-length.result in
    let split = begins_so (codes "sev.") c.args.bytes.now name c.in-Some.ensures.cases.0 c.in-Some.ensures.cases.1 in
    subst (λ ys. IsLongest IsRef ys (n + 4)) (sym split) (ref_longest name n c.word_length-length.ensures (omega arith))
