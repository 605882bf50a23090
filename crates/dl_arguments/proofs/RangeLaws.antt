-- What good words say lies in its ranges, and the asks are words.
use Rattle.dl_arguments.proofs.Common.{◌≡◌, inl, inr, cases_Bool, ℕ, suc, ◌≤◌, Bool, refl, ap, subst, List, [], ◌∷◌, length, map, All, Option, Some, None, Result, Ok, Err, IfOk, arith, codes, nat_lt, ◌&&◌, ◌==◌, IsTrue, list_all, All-nil, All-cons, nat_tests, is_bad, numeral_value, Ask, Asked, Form, Run, Cert, Verify, Rules, Standard, Extended, Settings, ask_of, asks_of, with_ask, Values, are_taken, form_named, is_taken, rules_in, Part, command_parts, positionals_of, option_values, Text, begins_plainly, is_bucket, is_numeral, is_probability, is_number_within, number, SpellsAsk, admits, answer, to_parts, to_positionals, with_asks, words_of, below_one, leb-true, ltb-true, not-true, pow-le-pow_right, All-head, All-tail, All-weaker, pos_num, one_bucket, IsBucket, IsLevel, IsAskInRange, AreInRange, IsOfCert, Term, Pmf, Cdf, Quantile, LayerMean, Tail, Price, Joint, Kappa, Cotail, Share, amount, by_row, layer, mean, plus, probability, rows, share_of_tail, term, terms, unit_amount, unit_level, is_report_plain, are_of_cert, are_of_verify, most_cert_log2, or_default, rules_of, settings_of, IsSmall, numeral_small}
use Rattle.std.proofs.Common.{not, IsUtf8, ◌^◌}
use Rattle.dl_exact.specs.Fraction.{Fraction, whole}
use Rattle.dl_arguments.specs.Ways.{AreJoined, Way, last, made, more}
use Rattle.dl_arguments.proofs.Prices.{priced}
use Rattle.std.proofs.lemmas.Bool.{and_parts as both}
use Rattle.dl_arguments.proofs.WrittenLaws.{parts_written, written_each}
use Rattle.dl_arguments.proofs.TableLaws.{EachRow, Spelling, by_each, no_more, table_back, ◌also◌}

-- ---- the values of the options

-- a numeral that is not bad has small parts
small : (e : ℕ) (text : Text) → IsTrue (is_numeral text && not (is_bad (suc (suc e)) text))
    → IsSmall (suc (suc e)) (numeral_value text)
small e text h = numeral_small e text (not-true _ (both (is_numeral text) _ h).1)

bucket : (text : Text) → IsTrue (is_bucket text) → IsBucket (numeral_value text)
bucket text h =
    let t = both _ (nat_lt 0 (numeral_value text).num) h in
    let s = small 9 text t.0 in
    record { above = pos_num (numeral_value text) (ltb-true 0 (numeral_value text).num t.1); num = s.num; den = s.den }

level : (e : ℕ) → e ≤ 7 → (text : Text) → IsTrue (is_probability (suc (suc e)) text)
    → IsLevel (numeral_value text) × ((numeral_value text).den ≤ 10 ^ suc (suc e))
level e few text h =
    let t = both (is_numeral text && not (is_bad (suc (suc e)) text)) _ h in
    let s = small e text t.0 in
    let le : suc (suc e) ≤ 9 = omega (arith, few) in
    let most : 10 ^ suc (suc e) ≤ 10 ^ 9 = pow-le-pow_right (omega arith) le in (
      record {
        below = below_one (numeral_value text) (ltb-true (numeral_value text).num (numeral_value text).den t.1);
        num = omega (arith, s.num, most);
        den = omega (arith, s.den, most);
      },
      s.den,
    )

-- what holds of the default and of each value that is taken holds of what stands
taken : {A : Type 0} (P : A → Type 0) (takes : Text → Bool) (default : A) (read : Text → A) (texts : List Text)
    → P default
    → ((text : Text) → IsTrue (takes text) → P (read text)) → IsTrue (is_taken takes texts)
    → P (or_default default read texts)
taken P takes default read [] p f h = p
taken P takes default read (text ∷ texts) p f h = grind (arith, both)

-- a number of the settings lies between its bounds
abbrev pub Between : ℕ → ℕ → ℕ → Type 0
Between low high n = (low ≤ n) × (n ≤ high)

number_between : (low high : ℕ) (text : Text) → IsTrue (is_number_within low high text) → Between low high (number text)
number_between low high text h = grind (arith, both, leb-true)

module _ (low high default : ℕ) (texts : List Text) where
  pub between_of : Between low high default → IsTrue (is_taken (is_number_within low high) texts)
      → Between low high (or_default default number texts)
  between_of d h =
      taken (Between low high) (is_number_within low high) default number texts d (number_between low high) h

-- ---- the asks

level_of : (text : Text) (p : Fraction) → (probability 9).Spells text p → IsLevel p
level_of text p h = subst IsLevel h.1 (level 7 (omega arith) text h.0).0

short_level_of : (text : Text) (p : Fraction) → (probability 4).Spells text p → IsLevel p × (p.den ≤ 10 ^ 4)
short_level_of text p h = subst (λ q. IsLevel q × (q.den ≤ 10 ^ 4)) h.1 (level 2 (omega arith) text h.0)

term_level : (text : Text) (t : Term) → term.Spells text t → IsLevel t.p
term_level text t (parts, is, (w, p, e, hw, hp)) = subst (λ t. IsLevel t.p) is (level_of p parts.1 hp)

one_level : (p : Fraction) → IsLevel p → All IsLevel (p ∷ [])
one_level p h = All-cons IsLevel p [] h (All-nil IsLevel)

term_levels : (text : Text) (all : List Term) → AreJoined plus term.Spells text all → All IsLevel (map (λ t. t.p) all)
term_levels text _ (last x h) = one_level x.p (term_level text x h)
term_levels text _ (more front rest x xs h later e) = grind (arith, term_level front x h, term_levels rest xs later)

-- what is made of values is in range
made_in_range : {A : Type 0} (f : A → Ask) (w : Way A)
    → ((text : Text) (x : A) → w.Spells text x → IsAskInRange (f x)) → Spelling (λ text ask. IsAskInRange ask) (made f w)
made_in_range f w each text ask h = subst IsAskInRange h.1 (each text h.0 h.2)

share_in_range : (rules : Rules) → Spelling (λ text ask. IsAskInRange ask) (share_of_tail rules)
share_in_range Standard = made_in_range (λ both. Cotail both.0 both.1) (unit_level 4) (λ text both h.
    let short = short_level_of h.1 both.1 h.4 in record { levels = one_level both.1 short.0; terms = tt; share = short.1 })
share_in_range Extended = made_in_range (λ both. Share both.0 both.1) (unit_level 9) (λ text both h.
    record { levels = one_level both.1 (level_of h.1 both.1 h.4); terms = tt; share = tt })

rows_in_range : (rules : Rules) → EachRow (λ row. Spelling (λ text ask. IsAskInRange ask) row.follows) (rows rules)
rows_in_range rules =
    made_in_range Pmf amount (λ text x h. record { levels = All-nil IsLevel; terms = tt; share = tt })
    also made_in_range Cdf amount (λ text x h. record { levels = All-nil IsLevel; terms = tt; share = tt })
    also made_in_range Quantile (probability 9) (λ text p h. record { levels = one_level p (level_of text p h); terms = tt; share = tt })
    also made_in_range Tail (probability 9) (λ text p h. record { levels = one_level p (level_of text p h); terms = tt; share = tt })
    also made_in_range Price terms (λ text all h. record { levels = term_levels text all h.0.0; terms = priced text all h; share = tt })
    also made_in_range (λ both. LayerMean both.0 both.1) layer
    (λ text x h. record { levels = All-nil IsLevel; terms = tt; share = tt })
    also made_in_range (λ both. Joint both.0 both.1) unit_amount
    (λ text x h. record { levels = All-nil IsLevel; terms = tt; share = tt })
    also made_in_range (λ both. Kappa both.0 both.1) unit_amount
    (λ text x h. record { levels = All-nil IsLevel; terms = tt; share = tt })
    also share_in_range rules
    also no_more

in_range : (rules : Rules) (text : Text) (ask : Ask) → SpellsAsk rules text ask → IsAskInRange ask
in_range rules text ask (mean e) = record { levels = All-nil IsLevel; terms = tt; share = tt }
in_range rules text ask (by_row head rest ask' e s) =
    by_each (λ text ask. IsAskInRange ask) rules head rest ask (rows_in_range rules) s

-- what holds of no texts and their asks, and of one more text and its ask, holds of all
module _ (rules : Rules) (R : List Text → List Asked → Type 0) (nil : R [] []) (cons : (text : Text) (ask : Ask) (texts : List Text)
    (asks : List Asked) → ask_of rules text ≡ Some ask → R texts asks → R (text ∷ texts) (record { text = text; ask = ask } ∷ asks))
  where
    one_more : (text : Text) (ask : Option Ask) (texts : List Text) (rest : Result (List Asked) ℕ) → ask_of rules text ≡ ask
        → IfOk rest (R texts) → IfOk (with_ask text ask rest) (R (text ∷ texts))
    one_more text None texts rest e h = tt
    one_more text (Some ask) texts (Err i) e h = tt
    one_more text (Some ask) texts (Ok asks) e h = cons text ask texts asks e h

    each_read : (texts : List Text) → IfOk (asks_of rules texts) (R texts)
    unfolding asks_of
    each_read [] = nil
    each_read (text ∷ texts) = one_more text (ask_of rules text) texts (asks_of rules texts) refl (each_read texts)

    pub asks_each : (texts : List Text) (asks : List Asked) → asks_of rules texts ≡ Ok asks → R texts asks
    asks_each texts asks e = subst (λ r. IfOk r (R texts)) e (each_read texts)

-- its text spells the ask
abbrev pub IsSpelled : Rules → Asked → Type 0
IsSpelled rules asked = SpellsAsk rules asked.text asked.ask

asks_spelled : (rules : Rules) (texts : List Text) (asks : List Asked) → asks_of rules texts ≡ Ok asks
    → All (IsSpelled rules) asks
asks_spelled rules = asks_each rules (λ texts. All (IsSpelled rules)) (All-nil (IsSpelled rules))
    (λ text ask texts asks is. All-cons (IsSpelled rules) _ asks (table_back rules text ask is))

none : (n : ℕ) → IsTrue (n == 0) → n ≤ 256
none n h = grind (arith, nat_tests, h)

few : (form : Form) (values : Values) (asks : List Text) → IsTrue (admits form values asks) → length asks ≤ 256
few Run values asks h = leb-true (length asks) 256 (both (nat_lt 0 (length asks)) _ h).1
few _ values asks h = none (length asks) (both (length asks == 0) _ h).0

-- ---- the settings of a form, of the values of the options and of asks

module _ (form : Form) (values : Values) (texts : List Text) (asks : List Asked) where
  pub ranges : IsTrue (are_taken values) → IsTrue (admits form values texts) → asks_of (rules_in values) texts ≡ Ok asks
      → AreInRange (settings_of form values asks)
  ranges taken_all admitted e =
      let make = both _ _ taken_all in
      let bs = both _ _ make.1 in
      let log2 = both _ _ bs.1 in
      let digits = both _ _ log2.1 in
      let width = both _ _ digits.1 in
      let mwidth = both _ _ width.1 in
      let cells = between_of 1 16 10 (values (codes "log2")) (omega arith, omega arith) log2.0 in
      let places = between_of 1 9 6 (values (codes "digits")) (omega arith, omega arith) digits.0 in
      let wide = between_of 1 1000000000 10 (values (codes "width")) (omega arith, omega arith) width.0 in
      let mean_wide = between_of 1 1000000000000 1000000 (values (codes "mwidth"))
      (omega arith, omega arith) mwidth.0 in
      let ranged = All-weaker (IsSpelled (rules_in values)) (λ asked. IsAskInRange asked.ask)
      (λ asked. in_range (rules_in values) asked.text asked.ask) asks (asks_spelled (rules_in values) texts asks e) in
      let same = asks_each (rules_in values) (λ texts asks. length asks ≡ length texts) refl (λ text ask texts asks is h. ap suc h) texts asks e in
      record {
        bucket = taken IsBucket is_bucket (whole 1) numeral_value (values (codes "bs")) one_bucket bucket bs.0;
        some_cells = cells.0;
        few_cells = cells.1;
        some_digits = places.0;
        few_digits = places.1;
        width = wide.0;
        mwidth = mean_wide.0;
        asks = ranged;
        few_asks = omega (arith, same, few form values texts admitted);
      }

-- a form of a certificate has a small power
of_cert : (form : Form) (values : Values) (texts : List Text) → IsTrue (admits form values texts) → IsOfCert form
    → IsTrue (are_of_cert values)
of_cert Cert values texts h of = (both (length texts == 0) (are_of_cert values) h).1
of_cert Verify values texts h of = grind (arith, both (length texts == 0) (are_of_verify values) h, both)
of_cert _ values texts h of = absurd of

few_power : (values : Values) → IsTrue (are_of_cert values)
    → or_default 10 number (values (codes "log2")) ≤ most_cert_log2
few_power values h = (between_of 1 10 10 (values (codes "log2")) (omega arith, omega arith)
    (both (is_taken (is_number_within 1 most_cert_log2) (values (codes "log2"))) (is_report_plain values) h).0).1

-- ---- from the answer back to the form, the values and the asks

-- what holds of the settings of a form, of values and of asks, all as they must be and taken from the words, holds of
-- the settings of the words
module _ (P : Settings → Type 0) (words : List Text) (each : (word : Text) (texts : List Text) (form : Form) (values : Values)
    (asks : List Asked) → ((Q : Text → Type 0) → All Q words → All Q (word ∷ texts)) → IsTrue (are_taken values)
    → IsTrue (admits form values texts) → asks_of (rules_in values) texts ≡ Ok asks → P (settings_of form values asks)) where
  answered : (word : Text) (texts : List Text) (values : Values) → ((Q : Text → Type 0) → All Q words → All Q (word ∷ texts))
      → (form : Option Form) → IfOk (answer form values texts) P
  answered word texts values q None = tt
  answered word texts values q (Some form) = elim (cases_Bool (are_taken values && list_all begins_plainly texts
      && admits form values texts)) [
        | inl h ↦
            let t = both _ (admits form values texts) h in
            rw h (asked (asks_of (rules_in values) texts) refl (both (are_taken values) _ t.0).0 t.1)
        | inr h ↦ rw h tt
      ]
    where
      asked : (r : Result (List Asked) ℕ) → asks_of (rules_in values) texts ≡ r → IsTrue (are_taken values) → IsTrue (admits form values texts)
          → IfOk (with_asks form values r) P
      asked (Err i) is t a = tt
      asked (Ok asks) is t a = each word texts form values asks q t a is

  from_parts : (o : Option (List Part)) → command_parts words ≡ o → IfOk (to_parts o) P
  from_parts None e = tt
  from_parts (Some ps) e = go (positionals_of ps) (λ Q a. written_each Q words ps (parts_written words ps e) a)
    where
      go : (ws : List Text) → ((Q : Text → Type 0) → All Q words → All Q ws)
          → IfOk (to_positionals (λ name. option_values name ps) ws) P
      go [] q = tt
      go (word ∷ texts) q = answered word texts (λ name. option_values name ps) q (form_named word)

  pub from_words : (settings : Settings) → words_of words ≡ Ok settings → P settings
  from_words settings e = subst (λ r. IfOk r P) e (from_parts (command_parts words) refl)

-- ---- the laws

pub words_in_range : (words : List Text) (settings : Settings) → words_of words ≡ Ok settings → AreInRange settings
words_in_range words = from_words AreInRange words (λ word texts form values asks q. ranges form values texts asks)

-- each ask is what its text spells by the rules of the settings
pub asks_by_rules : (words : List Text) (settings : Settings) → words_of words ≡ Ok settings
    → All (IsSpelled settings.rules) settings.asks
asks_by_rules words = from_words (λ s. All (IsSpelled s.rules) s.asks) words
    (λ word texts form values asks q t a. asks_spelled (rules_in values) texts asks)

pub words_are_text : (words : List Text) (settings : Settings) → All IsUtf8 words → words_of words ≡ Ok settings
    → All (λ asked. IsUtf8 asked.text) settings.asks
words_are_text words settings u e = from_words (λ s. All (λ asked. IsUtf8 asked.text) s.asks) words
    (λ word texts form values asks q t a read. asks_each (rules_in values) (λ texts asks. All IsUtf8 texts → All (λ asked. IsUtf8 asked.text) asks)
    (λ _. All-nil (λ asked. IsUtf8 asked.text)) (λ text ask texts asks is h u.
    All-cons (λ asked. IsUtf8 asked.text) _ asks (All-head IsUtf8 text texts u) (h (All-tail IsUtf8 text texts u)))
    texts asks read (All-tail IsUtf8 word texts (q IsUtf8 u))) settings e

pub words_have_few_cells : (words : List Text) (settings : Settings) → words_of words ≡ Ok settings
    → IsOfCert settings.form → settings.log2 ≤ most_cert_log2
words_have_few_cells words = from_words (λ s. IsOfCert s.form → s.log2 ≤ most_cert_log2) words
    (λ word texts form values asks q t a read of. few_power values (of_cert form values texts a of))

-- ---- the rules of a certificate

unnamed : (texts : List Text) → IsTrue (length texts == 0) → or_default Standard rules_of texts ≡ Standard
unnamed [] none = refl
unnamed (text ∷ texts) none = grind arith

no_rules : (values : Values) → IsTrue (is_report_plain values) → rules_in values ≡ Standard
no_rules values plain =
    let one = both (length (values (codes "digits")) == 0) _ plain in
    let two = both (length (values (codes "width")) == 0) _ one.1 in
    let three = both (length (values (codes "mwidth")) == 0) _ two.1 in
    let four = both (length (values (codes "format")) == 0) _ three.1 in
    unnamed (values (codes "rules")) (both (length (values (codes "rules")) == 0) _ four.1).0

-- they are the standard ones
pub certs_are_standard : (words : List Text) (settings : Settings) → words_of words ≡ Ok settings
    → IsOfCert settings.form → settings.rules ≡ Standard
certs_are_standard words = from_words (λ s. IsOfCert s.form → s.rules ≡ Standard) words
    (λ word texts form values asks q t a read of. no_rules values
    (both (is_taken (is_number_within 1 most_cert_log2) (values (codes "log2"))) (is_report_plain values)
    (of_cert form values texts a of)).1)
