-- Each kind has a token.
use Rattle.std.proofs.Common.{◌≡◌, ℕ, List, [], ◌∷◌, None, refl, arith}
use Rattle.std.specs.Prelude.{codes, length, ◌≢◌}
use Rattle.dl_lexer.specs.declared.token.Keyword.{Keyword}
use Rattle.dl_lexer.specs.declared.token.Kind.{Kind}
use Rattle.dl_lexer.specs.declared.token.Kind.TheVariants.{Word, Name, Ref, Numeral, Note, Sign}
use Rattle.dl_lexer.specs.Prelude.{spelling, first_spelled, IsSpelled, sign_byte, note, ref, a_decimal, digits}
use Rattle.dl_lexer.proofs.Spellings.{none_spelled}
use Rattle.dl_ast.specs.Lexemes.{Lexeme, IsReal}

-- a name of one letter, a reference to it, the number 1, a note of nothing
text_of : Kind → List ℕ
text_of (Word k) = spelling k
text_of Name = 65 ∷ []
text_of Ref = codes "sev.A"
text_of Numeral = 49 ∷ []
text_of Note = codes "note{}"
text_of (Sign s) = sign_byte s ∷ []

no_keyword : (k : Keyword) → spelling k ≢ 65 ∷ []
unfolding first_spelled
no_keyword k = none_spelled None (65 ∷ []) refl k

text_spelled : (k : Kind) → IsSpelled k (text_of k)
unfolding text_of
text_spelled (Word k) = refl
text_spelled Name = record { word = refl; no_keyword = no_keyword }
text_spelled Ref = ref (65 ∷ []) refl refl
text_spelled Numeral = a_decimal (digits (omega arith, refl))
text_spelled Note = note [] refl refl
text_spelled (Sign s) = refl

pub token_of : Kind → Lexeme
token_of k = record { kind = k; text = text_of k; span = record { start = 0; end = length (text_of k) } }

pub token_kind : (k : Kind) → (token_of k).kind ≡ k
unfolding token_of
token_kind k = refl

pub token_real : (k : Kind) → IsReal (token_of k)
unfolding token_of
token_real k = text_spelled k

pub token_text : (k : Kind) → IsSpelled k (token_of k).text
unfolding token_of
token_text k = text_spelled k
