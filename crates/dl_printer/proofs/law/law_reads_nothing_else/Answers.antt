-- Since a text has one token list, and that spells one program.
use Rattle.dl_printer.proofs.Common.{◌≡◌, ◌∙◌, sym, ap, subst, List, length, Program, lexemes, canonical, Token, Spells, program, IsWellFormed, bare, SameProgram, cover_one, one_program}
use Rattle.dl_lexer.specs.Cutting.{Covers}
use Rattle.dl_printer.proofs.Cut.{reads_back}
use Rattle.dl_printer.proofs.SameText.{same_text}
use Rattle.dl_printer.proofs.law.law_reads_nothing_else.Goals as goal

nothing_else : (p q : Program) (tokens : List Token) → IsWellFormed p
    → Covers (canonical p) (length (canonical p)) tokens
    → Spells program q (lexemes (canonical p) tokens) → SameProgram q p
nothing_else p q tokens w covered spelled =
    let back = reads_back p w in
    let same_tokens : tokens ≡ back.tokens =
    cover_one (canonical p) (length (canonical p)) tokens back.tokens covered back.covered in
    let again : Spells program q (lexemes (canonical p) back.tokens) = subst
    (λ ts. Spells program q (lexemes (canonical p) ts)) same_tokens spelled in
    ap bare (one_program q back.read (lexemes (canonical p) back.tokens) again back.spelled) ∙ back.same

texts : (p q : Program) → IsWellFormed p → IsWellFormed q → canonical p ≡ canonical q → SameProgram p q
texts p q v w e =
    let back = reads_back p v in
    let covered : Covers (canonical q) (length (canonical q)) back.tokens = subst
    (λ bytes. Covers bytes (length bytes) back.tokens) e back.covered in
    let spelled : Spells program back.read (lexemes (canonical q) back.tokens) = subst
    (λ bytes. Spells program back.read (lexemes bytes back.tokens)) e back.spelled in
    sym back.same ∙ nothing_else q back.read back.tokens w covered spelled

pub returns-clause-read : goal.returns-clause-read
returns-clause-read c = nothing_else

pub returns-clause-again : goal.returns-clause-again
returns-clause-again c = λ p q tokens w covered spelled. same_text q p (nothing_else p q tokens w covered spelled)

pub returns-clause-texts : goal.returns-clause-texts
returns-clause-texts c = texts
