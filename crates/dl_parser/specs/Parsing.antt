-- What the parser's methods say.
use Rattle.std.specs.Prelude.{◌≡◌, List, ◌++◌, Result, Ok, Err}
use Rattle.dl_lexer.specs.declared.token.Token.{Token}
use Rattle.dl_parser.specs.declared.cursor.Parser.{Parser}
use Rattle.dl_parser.specs.declared.stop.Stop.{Stop}
use Rattle.dl_parser.specs.declared.stop.Stop.TheVariants.{Wanted, OutOfMemory}
use Rattle.dl_ast.specs.Prelude.{Lexeme, lexeme, lexemes, Rule}
use Rattle.dl_parser.specs.Reading.{State, got, stuck, read}

-- the place of a parser
abbrev pub state : Parser → State
state p = record { end = p.end; rest = lexemes p.source.now p.rest.now }

-- What a method returns is what reading by the rule gives, and the parser's place is that of the
-- reader.
abbrev pub ReadsBy : {X : Type 0} → Rule X → Parser → Parser → Result X Stop → Type 0
ReadsBy r old new (Ok x) = read r (state old) ≡ got x (state new)
ReadsBy r old new (Err (Wanted kind)) = read r (state old) ≡ stuck kind (state new)
ReadsBy r old new (Err OutOfMemory) = Unit {0}

-- the same of a token
abbrev pub TakesBy : Rule Lexeme → Parser → Parser → Result Token Stop → Type 0
TakesBy r old new (Ok t) = read r (state old) ≡ got (lexeme old.source.now t) (state new)
TakesBy r old new (Err (Wanted k)) = read r (state old) ≡ stuck k (state new)
TakesBy r old new (Err OutOfMemory) = ⊥

-- the same where what is read comes behind what is there
abbrev pub Adds : {A : Type 0} → Rule (List A) → Parser → Parser → List A → List A
    → Result Unit Stop → Type 0
Adds {A} r old new xs ys (Ok _) = (zs : List A) × (ys ≡ xs ++ zs) ×
    (read r (state old) ≡ got zs (state new))
Adds r old new xs ys (Err (Wanted k)) = read r (state old) ≡ stuck k (state new)
Adds r old new xs ys (Err OutOfMemory) = Unit {0}

-- the same, and something more behind it
abbrev pub AddsAnd : {A B : Type 0} → Rule (List A × B) → Parser → Parser → List A → List A
    → Result B Stop → Type 0
AddsAnd {A} r old new xs ys (Ok y) = (zs : List A) × (ys ≡ xs ++ zs) ×
    (read r (state old) ≡ got (zs, y) (state new))
AddsAnd r old new xs ys (Err (Wanted k)) = read r (state old) ≡ stuck k (state new)
AddsAnd r old new xs ys (Err OutOfMemory) = Unit {0}
