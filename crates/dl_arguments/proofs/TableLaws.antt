-- What is read as an ask is what the table of the asks has.
use Rattle.dl_arguments.proofs.Common.{◌≡◌, ◌∙◌, inl, inr, cases_Bool, ℕ, Bool, true, false, refl, sym, ap, subst, List, [], ◌∷◌, ◌++◌, Some, None, codes, true≢false, arith, ◌==◌, ◌&&◌, IsTrue, option_and_then, is_ascii_digit, list_all, list_any, bytes_eq, nat_tests, bytes_eq-Decides, numeral_value, is_word_byte, begins_with_letter, Ask, Rules, Standard, Extended, ask_of, cut_at, Text, is_amount, is_probability, is_word, number, SpellsAsk, false_from_ne_true, not-true, list_any_none, Pmf, Cdf, Mean, Quantile, LayerMean, Tail, Price, Joint, Kappa, Cotail, Share, Way, behind, made, any_at}
use Rattle.std.specs.Prelude.{not}
use Rattle.dl_arguments.proofs.NumeralBytes.{passed}
use Rattle.dl_arguments.specs.Table.{Row, SpelledBy, amount, by_row, colon, layer, letter_s, letter_x, limit, mean, name, probability, read_by, rows, share_of_tail, terms, unit_amount, unit_level}
use Rattle.std.proofs.lemmas.Bool.{and_parts as both}
use Rattle.dl_arguments.proofs.Signs.{chained, cut_back, cut_there, not_some, some_is}
use Rattle.dl_arguments.proofs.Prices.{terms_read}
use Rattle.dl_arguments.proofs.WayLaws.{IsRead, IsWithout, behind_read, made_read, one_read, pair_read, word_or_read}

-- ---- texts without a sign

none_of : (is_good : ℕ → Bool) (s : ℕ) → ((b : ℕ) → is_good b ≡ true → (b == s) ≡ false) → (text : Text)
    → list_all is_good text ≡ true → list_any (λ b. b == s) text ≡ false
none_of is_good s f text h = list_any_none _ text (passed (λ b. (b == s) ≡ false) is_good f text h)

digit_no_x : (b : ℕ) → is_ascii_digit b ≡ true → (b == 120) ≡ false
digit_no_x b h = grind (arith, nat_tests, h)

word_no_colon : (b : ℕ) → is_word_byte b ≡ true → (b == 58) ≡ false
word_no_colon b h = grind (arith, nat_tests, h)

limit_without : IsWithout letter_x limit
limit_without text x (inl h) = rw h.0 refl
limit_without text x (inr h) = none_of is_ascii_digit 120 digit_no_x text (both _ _ (both _ _ h.2.0).0).1

name_without : IsWithout colon name
name_without text x h = none_of is_word_byte 58 word_no_colon text (both (begins_with_letter text) _ h.0).1

-- ---- what follows a head

amount_read : IsRead amount
amount_read = one_read is_amount number

level_read : (digits : ℕ) → IsRead (probability digits)
level_read digits = one_read (is_probability digits) numeral_value

name_read : IsRead name
name_read = one_read is_word (λ text. text)

limit_read : IsRead limit
limit_read = word_or_read (codes "inf") None (made Some amount) refl (made_read Some amount amount_read)
    (λ x h. true≢false (sym h.2.0))

layer_read : IsRead layer
layer_read = pair_read letter_x limit (behind letter_s amount) limit_read (behind_read letter_s amount refl amount_read)
    limit_without

unit_amount_read : IsRead unit_amount
unit_amount_read = pair_read colon name amount name_read amount_read name_without

unit_level_read : (digits : ℕ) → IsRead (unit_level digits)
unit_level_read digits = pair_read colon name (probability digits) name_read (level_read digits) name_without

share_read : (rules : Rules) → IsRead (share_of_tail rules)
share_read Standard = made_read (λ both. Cotail both.0 both.1) (unit_level 4) (unit_level_read 4)
share_read Extended = made_read (λ both. Share both.0 both.1) (unit_level 9) (unit_level_read 9)

-- ---- rows

infixr 5 ◌also◌
-- each row has it
pub data EachRow (P : Row → Type 0) : List Row → Type 1 where
  no_more : EachRow P []
  ◌also◌ : {row : Row} {rows : List Row} → P row → EachRow P rows → EachRow P (row ∷ rows)

-- what each row has, the row that spells an ask has
pub spelled_row : {P : Row → Type 0} {C : Type 0} (all : List Row) (head rest : Text) (ask : Ask) → EachRow P all
    → SpelledBy all head rest ask → ((row : Row) → P row → head ≡ row.head → row.follows.Spells rest ask → C) → C
spelled_row [] head rest ask each h f = absurd h
spelled_row (row ∷ all) head rest ask (p also later) (inl h) f = f row p h.0 h.1
spelled_row (row ∷ all) head rest ask (p also later) (inr h) f = spelled_row all head rest ask later h f

rows_read : (rules : Rules) → EachRow (λ row. IsRead row.follows) (rows rules)
rows_read rules =
    made_read Pmf amount amount_read
    also made_read Cdf amount amount_read
    also made_read Quantile (probability 9) (level_read 9)
    also made_read Tail (probability 9) (level_read 9)
    also made_read Price terms terms_read
    also made_read (λ both. LayerMean both.0 both.1) layer layer_read
    also made_read (λ both. Joint both.0 both.1) unit_amount unit_amount_read
    also made_read (λ both. Kappa both.0 both.1) unit_amount unit_amount_read
    also share_read rules
    also no_more

-- no other row has the head
differs : Text → List Row → Bool
differs head [] = true
differs head (row ∷ all) = not (bytes_eq row.head head) && differs head all

-- no two rows have one head
all_differ : List Row → Bool
all_differ [] = true
all_differ (row ∷ all) = differs row.head all && all_differ all

rows_differ : (rules : Rules) → IsTrue (all_differ (rows rules))
unfolding all_differ differs
rows_differ rules = refl

no_colon : (rules : Rules) → EachRow (λ row. list_any (λ b. b == 58) row.head ≡ false) (rows rules)
no_colon rules = refl also refl also refl also refl also refl also refl also refl also refl also refl also no_more

other_head : (other : Text) (all : List Row) (head rest : Text) (ask : Ask) → IsTrue (differs other all)
    → SpelledBy all head rest ask → bytes_eq head other ≡ false
unfolding differs
other_head other [] head rest ask d h = absurd h
other_head other (row ∷ all) head rest ask d (inl h) = grind (arith, not-true, both)
other_head other (row ∷ all) head rest ask d (inr h) =
    other_head other all head rest ask (both (not (bytes_eq row.head other)) _ d).1 h

read_there : (all : List Row) (head rest : Text) (ask : Ask) → EachRow (λ row. IsRead row.follows) all
    → IsTrue (all_differ all) → SpelledBy all head rest ask → read_by all head rest ≡ Some ask
unfolding all_differ
read_there [] head rest ask r d h = absurd h
read_there (row ∷ all) head rest ask (r also later) d (inl h) = grind (arith, bytes_eq-Decides head row.head)
read_there (row ∷ all) head rest ask (r also later) d (inr h) =
    let t = both (differs row.head all) (all_differ all) d in
    rw (other_head row.head all head rest ask t.0 h) (read_there all head rest ask later t.1 h)

read_back : (all : List Row) (head rest : Text) (ask : Ask) → EachRow (λ row. IsRead row.follows) all → read_by all head rest ≡ Some ask
    → SpelledBy all head rest ask
read_back [] head rest ask r e = not_some ask e
read_back (row ∷ all) head rest ask (r also later) e = elim (cases_Bool (bytes_eq head row.head)) [
  | inl h ↦ inl ((bytes_eq-Decides head row.head).0 h, r.back rest ask (rw h at e))
  | inr h ↦ inr (read_back all head rest ask later (rw h at e))
]

-- ---- the table

not_mean : (head rest : Text) → bytes_eq (head ++ 58 ∷ rest) (codes "mean") ≡ false
not_mean head rest = false_from_ne_true _ (λ h. true≢false (sym (any_at (λ b. b == 58) 58 refl head rest)
    ∙ ap (list_any (λ b. b == 58)) ((bytes_eq-Decides (head ++ 58 ∷ rest) (codes "mean")).0 h)))

pub table_read : (rules : Rules) (text : Text) (ask : Ask) → SpellsAsk rules text ask → ask_of rules text ≡ Some ask
unfolding ask_of
table_read rules text _ (mean e) = rw e refl
table_read rules text _ (by_row head rest ask e s) =
    let free : list_any (λ b. b == 58) head ≡ false =
    spelled_row (rows rules) head rest ask (no_colon rules) s (λ row p h _. rw h p) in
    rw (e, not_mean head rest) (ap (option_and_then (λ cut. read_by (rows rules) cut.0 cut.1)) (cut_there 58 head rest free)
    ∙ read_there (rows rules) head rest ask (rows_read rules) (rows_differ rules) s)

pub table_back : (rules : Rules) (text : Text) (ask : Ask) → ask_of rules text ≡ Some ask → SpellsAsk rules text ask
unfolding ask_of
table_back rules text ask e = elim (cases_Bool (bytes_eq text (codes "mean"))) [
  | inl h ↦ subst (SpellsAsk rules text) (some_is Mean ask (rw h at e)) (mean ((bytes_eq-Decides text (codes "mean")).0 h))
  | inr h ↦
      let c = chained (λ cut. read_by (rows rules) cut.0 cut.1) (cut_at 58 text) ask (rw h at e) in
      by_row c.0.0 c.0.1 ask (cut_back 58 text c.0 c.1) (read_back (rows rules) c.0.0 c.0.1 ask (rows_read rules) c.2)
]

-- ---- what holds of what each row spells

-- it holds of each text and ask
abbrev pub Spelling : (Text → Ask → Type 0) → Way Ask → Type 0
Spelling P w = (rest : Text) (ask : Ask) → w.Spells rest ask → P rest ask

pub by_each : (P : Text → Ask → Type 0) (rules : Rules) (head rest : Text) (ask : Ask)
    → EachRow (λ row. Spelling P row.follows) (rows rules) → SpelledBy (rows rules) head rest ask → P rest ask
by_each P rules head rest ask each h = spelled_row (rows rules) head rest ask each h (λ row p _ s. p rest ask s)
