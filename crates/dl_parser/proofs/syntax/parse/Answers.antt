-- The three ends of a parse, and that what is left is no longer than all.
use Rattle.dl_parser.proofs.Common.{◌≡◌, ℕ, ◌+◌, ◌-◌, ◌≤◌, List, [], ◌∷◌, length, map, arith, refl, ap, sym, ◌∙◌, true, ◌==◌, length-map, state, nat_tests, program_formed}
use Rattle.dl_parser.proofs.Covered.{covered_real, covered_few}
use Rattle.dl_parser.proofs.Whole.{read_whole, read_further, read_stuck, left_got, left_stuck}
use Rattle.dl_parser.proofs.syntax.parse.Goals as goal

nil_of : {A : Type 0} (xs : List A) → (length xs == 0) ≡ true → xs ≡ []
nil_of [] h = refl
nil_of (x ∷ xs) h = absurd (grind (arith, nat_tests))

left : (n m a b : ℕ) → n ≡ a → m ≡ b → b ≤ a → (n - m) + b ≡ a
left n m a b h g le = omega arith

pub taken-requires-clause-left : goal.taken-requires-clause-left
taken-requires-clause-left c =
    simp length-map at (left_got _ c.in-Ok.program (state c.program.new.self) c.in-Ok.ensures.reads)

pub taken-requires-in-Err-Wanted-clause-left : goal.taken-requires-in-Err-Wanted-clause-left
taken-requires-in-Err-Wanted-clause-left c =
    simp length-map at (left_stuck _ c.in-Err-Wanted.kind (state c.program.new.self)
    (rw c.in-Err-Wanted.field-0-is at c.in-Err-Wanted.ensures.reads))

pub returns-then-is_at_end-clause-spelled : goal.returns-then-is_at_end-clause-spelled
returns-then-is_at_end-clause-spelled c =
    read_whole _ c.in-Ok.program (state c.program.new.self) c.in-Ok.ensures.reads
    (ap (map _) (nil_of _ (sym c.is_at_end.ensures ∙ c.if-is_at_end.true)))

pub returns-then-is_at_end-clause-formed : goal.returns-then-is_at_end-clause-formed
returns-then-is_at_end-clause-formed c =
    program_formed c.in-Ok.program _ (covered_real c.args.source.now _ c.args.tokens.now c.requires.covered)
    (simp length-map
    (omega (arith, covered_few c.args.source.now c.args.tokens.now c.requires.covered c.requires.short)))
    (returns-then-is_at_end-clause-spelled c)

pub returns-else-is_at_end-clause-refused : goal.returns-else-is_at_end-clause-refused
returns-else-is_at_end-clause-refused c = rw c.taken.ensures
    (read_further _ c.in-Ok.program (state c.program.new.self) _ c.in-Ok.ensures.reads
    (simp length-map (grind (arith, nat_tests, c.is_at_end.ensures, c.if-is_at_end.false)))
    (simp length-map (left _ _ _ _ refl refl
    (simp length-map at (left_got _ c.in-Ok.program (state c.program.new.self) c.in-Ok.ensures.reads)))))

pub returns-in-Err-Wanted-clause-refused : goal.returns-in-Err-Wanted-clause-refused
returns-in-Err-Wanted-clause-refused c =
    let r = rw c.in-Err-Wanted.field-0-is at c.in-Err-Wanted.ensures.reads in
    rw (c.fault.ensures, c.taken-in-Err-Wanted.ensures)
    (read_stuck _ c.in-Err-Wanted.kind (state c.program.new.self) _ r
    (simp length-map (left _ _ _ _ refl refl
    (simp length-map at (left_stuck _ c.in-Err-Wanted.kind (state c.program.new.self) r)))))
