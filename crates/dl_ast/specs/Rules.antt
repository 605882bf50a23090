-- Rules of a grammar, and what each of them spells.
use Rattle.std.specs.Prelude.{◌≡◌, ℕ, List, [], ◌∷◌, ◌++◌, Option, Some, None, ◌⊎◌}
use Rattle.dl_lexer.specs.declared.token.Kind.{Kind}
use Rattle.dl_lexer.specs.declared.token.Span.{Span}
use Rattle.dl_ast.specs.Lexemes.{Lexeme}

infixr 6 ◌▸◌
infixr 4 ◌or◌
-- A rule, by the type of what it spells: one token of a kind; one thing and then another; one of
-- two; once or not at all; any number of times; once or not at all, where a reader takes it unless
-- the next two tokens are of these kinds. The last two make a node of what a rule spells, without
-- and with its span.
pub data Rule : Type 0 → Type 1 where
  one : Kind → Rule Lexeme
  ◌▸◌ : {A B : Type 0} → Rule A → Rule B → Rule (A × B)
  ◌or◌ : {A : Type 0} → Rule A → Rule A → Rule A
  maybe : {A : Type 0} → Rule A → Rule (Option A)
  many : {A : Type 0} → Rule A → Rule (List A)
  unless : {A : Type 0} → Kind → Kind → Rule A → Rule (Option A)
  made : {A B : Type 0} → (A → B) → Rule A → Rule B
  node : {A B : Type 0} → (A → Span → B) → Rule A → Rule B

-- where the last of some tokens ends, and at where there is none
abbrev pub end_of : ℕ → List Lexeme → ℕ
end_of at [] = at
end_of at (t ∷ ts) = end_of t.span.end ts

-- from the start of the first token to the end of the last
abbrev pub span_of : List Lexeme → Span
span_of [] = record { start = 0; end = 0 }
span_of (t ∷ ts) = record { start = t.span.start; end = end_of t.span.end ts }

-- the tokens are those of each thing, in order
abbrev pub Each : {A : Type 0} → (A → List Lexeme → Type 0) → List A → List Lexeme → Type 0
Each P [] ts = ts ≡ []
Each P (x ∷ xs) ts = (us vs : List Lexeme) × (ts ≡ us ++ vs) × P x us × Each P xs vs

-- these tokens spell this thing by the rule
abbrev pub Spells : {X : Type 0} → Rule X → X → List Lexeme → Type 0
Spells (one k) x ts = (x.kind ≡ k) × (ts ≡ x ∷ [])
Spells (a ▸ b) x ts = (us vs : List Lexeme) × (ts ≡ us ++ vs) × Spells a x.0 us × Spells b x.1 vs
Spells (a or b) x ts = Spells a x ts ⊎ Spells b x ts
Spells (maybe a) None ts = ts ≡ []
Spells (maybe a) (Some x) ts = Spells a x ts
Spells (unless j k a) None ts = ts ≡ []
Spells (unless j k a) (Some x) ts = Spells a x ts
Spells (many a) xs ts = Each (Spells a) xs ts
Spells (made {A} f a) y ts = (x : A) × (y ≡ f x) × Spells a x ts
Spells (node {A} f a) y ts = (x : A) × (y ≡ f x (span_of ts)) × Spells a x ts
