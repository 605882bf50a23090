-- The asks of good words are written with plain bytes alone.
use Rattle.dl_arguments.proofs.Common.{◌≡◌, ℕ, Bool, true, inl, inr, refl, sym, subst, List, [], ◌∷◌, ◌++◌, All, Ok, arith, codes, nat_lt, ◌&&◌, ◌==◌, IsTrue, list_all, is_ascii_digit, All-nil, nat_tests, is_word_byte, begins_with_letter, Ask, Asked, Rules, Standard, Extended, Settings, Text, is_amount, is_number, is_numeral, is_probability, is_word, SpellsAsk, words_of, IsPlainByte, Term, is_weight, Pmf, Cdf, Quantile, LayerMean, Tail, Price, Joint, Kappa, Cotail, Share, amount, by_row, colon, layer, letter_s, letter_x, limit, mean, name, plus, probability, rows, share_of_tail, term, terms, unit_amount, unit_level, weight, All-weaker}
use Rattle.std.specs.Prelude.{not}
use Rattle.dl_arguments.specs.Ways.{AreJoined, Way, behind, last, made, more, pair}
use Rattle.std.proofs.lemmas.Bool.{and_parts as both}
use Rattle.dl_arguments.proofs.NumeralBytes.{joined, passed, written_each}
use Rattle.dl_arguments.proofs.RangeLaws.{IsSpelled, asks_by_rules}
use Rattle.dl_arguments.proofs.TableLaws.{EachRow, Spelling, by_each, no_more, spelled_row, ◌also◌}

-- ---- bytes

abbrev pub ArePlain : Text → Type 0
ArePlain text = All IsPlainByte text

abbrev is_plain : ℕ → Bool
is_plain b = nat_lt 32 b && not (b == 34) && not (b == 44) && not (b == 92)

plain_byte : (b : ℕ) → is_plain b ≡ true → IsPlainByte b
plain_byte b h = grind arith

digit_plain : (b : ℕ) → is_ascii_digit b ≡ true → IsPlainByte b
digit_plain b h = plain_byte b (grind (arith, nat_tests, h))

word_plain : (b : ℕ) → is_word_byte b ≡ true → IsPlainByte b
word_plain b h = plain_byte b (grind (arith, nat_tests, h))

-- ---- texts of such bytes

literal : (text : Text) → IsTrue (list_all is_plain text) → ArePlain text
literal = passed IsPlainByte is_plain plain_byte

around : (a b : Text) (sign : ℕ) → IsTrue (is_plain sign) → ArePlain a → ArePlain b → ArePlain (a ++ sign ∷ b)
around a b sign s = joined IsPlainByte a b sign (plain_byte sign s)

-- ---- the values in an ask

numeral_plain : (text : Text) → IsTrue (is_numeral text) → ArePlain text
numeral_plain = written_each IsPlainByte digit_plain (plain_byte 46 refl) (plain_byte 37 refl) (plain_byte 47 refl)

amount_plain : (text : Text) → IsTrue (is_amount text) → ArePlain text
amount_plain text h = passed IsPlainByte is_ascii_digit digit_plain text (both _ _ (both (is_number text) _ h).0).1

probability_plain : (digits : ℕ) (text : Text) → IsTrue (is_probability digits text) → ArePlain text
probability_plain digits text h = numeral_plain text (both (is_numeral text) _ (both _ _ h).0).0

weight_plain : (text : Text) → IsTrue (is_weight text) → ArePlain text
weight_plain text h = numeral_plain text (both (is_numeral text) _ h).0

name_plain : (text : Text) → IsTrue (is_word text) → ArePlain text
name_plain text h = passed IsPlainByte is_word_byte word_plain text (both (begins_with_letter text) _ h).1

-- ---- asks

-- a way whose texts are written with plain bytes
abbrev IsPlainWay : {A : Type 0} → Way A → Type 0
IsPlainWay {A} w = (text : Text) (x : A) → w.Spells text x → ArePlain text

pair_plain : {A B : Type 0} (sign : ℕ) (a : Way A) (b : Way B) → IsTrue (is_plain sign) → IsPlainWay a → IsPlainWay b
    → IsPlainWay (pair sign a b)
pair_plain sign a b s pa pb text both (front, back, e, x, y) =
    subst ArePlain (sym e) (around front back sign s (pa front both.0 x) (pb back both.1 y))

made_plain : {A : Type 0} (f : A → Ask) (w : Way A) → IsPlainWay w → Spelling (λ text ask. ArePlain text) (made f w)
made_plain f w each text ask h = each text h.0 h.2

amount_way : IsPlainWay amount
amount_way text x h = amount_plain text h.0

level_way : (digits : ℕ) → IsPlainWay (probability digits)
level_way digits text p h = probability_plain digits text h.0

name_way : IsPlainWay name
name_way text x h = name_plain text h.0

limit_way : IsPlainWay limit
limit_way text x (inl h) = subst ArePlain (sym h.0) (literal (codes "inf") refl)
limit_way text x (inr h) = amount_plain text h.2.0

attach_way : IsPlainWay (behind letter_s amount)
attach_way text x (rest, e, h) = subst ArePlain (sym e) (around [] rest 115 refl (All-nil IsPlainByte) (amount_plain rest h.0))

term_way : IsPlainWay term
term_way text x h =
    pair_plain 64 weight (probability 9) refl (λ text w h. weight_plain text h.0) (level_way 9) text h.0 h.2

terms_way : (text : Text) (all : List Term) → AreJoined plus term.Spells text all → ArePlain text
terms_way text _ (last x h) = term_way text x h
terms_way text _ (more front rest x xs h later e) =
    subst ArePlain (sym e) (around front rest 43 refl (term_way front x h) (terms_way rest xs later))

unit_amount_way : IsPlainWay unit_amount
unit_amount_way = pair_plain colon name amount refl name_way amount_way

unit_level_way : (digits : ℕ) → IsPlainWay (unit_level digits)
unit_level_way digits = pair_plain colon name (probability digits) refl name_way (level_way digits)

share_plain : (rules : Rules) → Spelling (λ text ask. ArePlain text) (share_of_tail rules)
share_plain Standard = made_plain (λ both. Cotail both.0 both.1) (unit_level 4) (unit_level_way 4)
share_plain Extended = made_plain (λ both. Share both.0 both.1) (unit_level 9) (unit_level_way 9)

rows_plain : (rules : Rules) → EachRow (λ row. Spelling (λ text ask. ArePlain text) row.follows) (rows rules)
rows_plain rules =
    made_plain Pmf amount amount_way
    also made_plain Cdf amount amount_way
    also made_plain Quantile (probability 9) (level_way 9)
    also made_plain Tail (probability 9) (level_way 9)
    also made_plain Price terms (λ text all h. terms_way text all h.0.0)
    also made_plain (λ both. LayerMean both.0 both.1) layer
    (pair_plain letter_x limit (behind letter_s amount) refl limit_way attach_way)
    also made_plain (λ both. Joint both.0 both.1) unit_amount unit_amount_way
    also made_plain (λ both. Kappa both.0 both.1) unit_amount unit_amount_way
    also share_plain rules
    also no_more

heads_plain : (rules : Rules) → EachRow (λ row. list_all is_plain row.head ≡ true) (rows rules)
heads_plain rules = refl also refl also refl also refl also refl also refl also refl also refl also refl also no_more

spelled_plain : (rules : Rules) (text : Text) (ask : Ask) → SpellsAsk rules text ask → ArePlain text
spelled_plain rules text _ (mean e) = subst ArePlain (sym e) (literal (codes "mean") refl)
spelled_plain rules text _ (by_row head rest ask e s) =
    let front : ArePlain head =
    spelled_row (rows rules) head rest ask (heads_plain rules) s (λ row p h _. rw h (literal row.head p)) in
    subst ArePlain (sym e) (around head rest 58 refl front (by_each (λ text ask. ArePlain text) rules head rest ask (rows_plain rules) s))

-- ---- the law

abbrev pub HasPlainText : Asked → Type 0
HasPlainText asked = ArePlain asked.text

pub asks_are_plain : (words : List Text) (settings : Settings) → words_of words ≡ Ok settings
    → All HasPlainText settings.asks
asks_are_plain words s e = All-weaker (IsSpelled s.rules) HasPlainText
    (λ asked. spelled_plain s.rules asked.text asked.ask) s.asks (asks_by_rules words s e)
