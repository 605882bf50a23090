-- What the grammar without named severities spells, the whole one spells.
use Rattle.std.proofs.Common.{◌≡◌, ◌∙◌, ◌++◌, ℕ, List, [], ◌∷◌, Option, Some, None, refl, sym, ap, subst, inl, inr}
use Rattle.std.proofs.lemmas.List.{append-nil}
use Rattle.dl_lexer.specs.declared.token.Keyword.TheVariants as words
use Rattle.dl_lexer.specs.declared.token.Sign.TheVariants as signs
use Rattle.dl_lexer.specs.declared.token.Kind.{Kind}
use Rattle.dl_lexer.specs.declared.token.Kind.TheVariants.{Word, Sign}
use Rattle.dl_lexer.specs.declared.token.Span.{Span}
use Rattle.dl_ast.specs.declared.ast.Program.{Program}
use Rattle.dl_ast.specs.Lexemes.{Lexeme}
use Rattle.dl_ast.specs.Rules.{Rule, one, ◌▸◌, ◌or◌, maybe, many, made, node, Each, Spells}
use Rattle.dl_ast.specs.Grammar.{◌≫◌, some_of, spanned, unit, head, book, sev, cost, count, freq, program}
use Rattle.dl_ast.specs.OldGrammar as old

-- each thing that the one rule spells, the other spells by the same tokens
record Goes {X : Type 0} (a b : Rule X) : Type 0 where
  pub goes : (x : X) (ts : List Lexeme) → Spells a x ts → Spells b x ts

same : {X : Type 0} {a : Rule X} → Goes a a
same {X} {a} = record { goes = λ x ts s. s }

seq_goes : {A B : Type 0} {a c : Rule A} {b d : Rule B} → Goes a c → Goes b d → Goes (a ▸ b) (c ▸ d)
seq_goes {A} {B} {a} {c} {b} {d} f g =
    record { goes = λ p ts (us, vs, h, s, t). (us, vs, h, f.goes p.0 us s, g.goes p.1 vs t) }

or_goes : {A : Type 0} {a c b d : Rule A} → Goes a c → Goes b d → Goes (a or b) (c or d)
or_goes {A} {a} {c} {b} {d} f g = record { goes = either }
  where
    either : (x : A) (ts : List Lexeme) → Spells (a or b) x ts → Spells (c or d) x ts
    either x ts (inl s) = inl (f.goes x ts s)
    either x ts (inr s) = inr (g.goes x ts s)

many_goes : {A : Type 0} {a c : Rule A} → Goes a c → Goes (many a) (many c)
many_goes {A} {a} {c} f = record { goes = each }
  where
    each : (xs : List A) (ts : List Lexeme) → Each (Spells a) xs ts → Each (Spells c) xs ts
    each [] ts s = s
    each (x ∷ xs) ts (us, vs, h, s, t) = (us, vs, h, f.goes x us s, each xs vs t)

made_goes : {A B : Type 0} {f : A → B} {a c : Rule A} → Goes a c → Goes (made f a) (made f c)
made_goes {A} {B} {f} {a} {c} g = record { goes = λ y ts (x, e, s). (x, e, g.goes x ts s) }

node_goes : {A B : Type 0} {f : A → Span → B} {a c : Rule A} → Goes a c → Goes (node f a) (node f c)
node_goes {A} {B} {f} {a} {c} g = record { goes = λ y ts (x, e, s). (x, e, g.goes x ts s) }

behind_goes : {A : Type 0} {k : Kind} {a c : Rule A} → Goes a c → Goes (k ≫ a) (k ≫ c)
behind_goes {A} {k} {a} {c} f = made_goes (seq_goes same f)

left_goes : {A : Type 0} {a b : Rule A} → Goes a (a or b)
left_goes {A} {a} {b} = record { goes = λ x ts s. inl s }

right_goes : {A : Type 0} {a b c : Rule A} → Goes a c → Goes a (b or c)
right_goes {A} {a} {b} {c} f = record { goes = λ x ts s. inr (f.goes x ts s) }

-- the lines that differ

sev_goes : Goes old.sev sev
unfolding old.sev sev cost
sev_goes = node_goes (seq_goes left_goes same)

count_goes : Goes old.count count
unfolding old.count count
count_goes = node_goes (or_goes same (or_goes same (right_goes same)))

freq_goes : Goes old.freq freq
unfolding old.freq freq
freq_goes = record {
  goes = λ p ts (f, e, s). ((f, None), e, (ts, [], sym (append-nil ts), count_goes.goes f ts s, refl));
}

unit_goes : Goes old.unit unit
unfolding old.unit unit
unit_goes = or_goes
    (made_goes (behind_goes (seq_goes same (seq_goes same (seq_goes same (seq_goes sev_goes (seq_goes same
    (seq_goes freq_goes same))))))))
    (made_goes (behind_goes (seq_goes same (seq_goes same (seq_goes same (seq_goes sev_goes same))))))

head_goes : Goes old.head head
unfolding old.head head
head_goes = record {
  goes = λ h ts (p, e, (q, f, (us, vs, g, k, (ws, zs, i, n, t)))). (
    (q.1.0, (None, q.1.1)),
    e ∙ ap (λ r. record { name = r.0; common = None; note = r.1 }) f,
    ((q.0, (q.1.0, (None, q.1.1))), refl, (us, vs, g, k, (ws, zs, i, n, ([], zs, refl, refl, t)))),
  );
}

units_go : Goes (some_of old.unit old.unit) (some_of unit unit)
units_go = made_goes (seq_goes unit_goes (many_goes unit_goes))

-- there are no definitions

pub old_spelled : (p : Program) (ts : List Lexeme) → Spells old.program p ts → Spells program p ts
unfolding old.program program book
old_spelled p ts (inl (u, e, s)) =
    (([], (None, u ∷ [])), e, ([], ts, refl, refl, inl (u, refl, unit_goes.goes u ts s)))
old_spelled p ts (inr (q, e, (us, vs, h, a, b))) = (
  ([], (Some q.0, q.1)),
  e,
  ([], ts, refl, refl, inr (q, refl, (us, vs, h, head_goes.goes q.0 us a, units_go.goes q.1 vs b))),
)

pub old_unnamed : (p : Program) (ts : List Lexeme) → Spells old.program p ts → p.sevs ≡ []
unfolding old.program
old_unnamed p ts (inl (u, e, s)) = ap (λ (q : Program). q.sevs) e
old_unnamed p ts (inr (q, e, s)) = ap (λ (q : Program). q.sevs) e
