-- The terms of a price, as they are read and as they are spelled.
use Rattle.dl_arguments.proofs.Common.{◌≡◌, ◌∙◌, ℕ, ◌≤◌, true, false, refl, sym, ap, List, ◌∷◌, ◌++◌, length, map, All, Option, Some, None, arith, ◌==◌, IsTrue, if◌then◌else◌, option_and_then, is_ascii_digit, nat_tests, Fraction, numeral_value, Text, is_numeral, is_probability, and_from, eq-eqb, eqb-true, le-leb, leb-true, false_from_ne_true, list_any_none, over_self, over_same, Term, ArePriced, most_terms, most_weight_parts, common_denominator, one_only, is_weight, are_weighted, plus, probability, term, terms, weight, and_parts}
use Rattle.dl_exact.specs.Prelude.{whole, sum_over}
use Rattle.dl_arguments.specs.Ways.{AreJoined, last, more, joined, list}
use Rattle.dl_arguments.proofs.NumeralBytes.{joined as bytes_joined, written_each}
use Rattle.dl_arguments.proofs.WayLaws.{IsRead, IsWithout, list_read, made_read, one_read, pair_read, that_read}

-- ---- terms have no `+`, and weights no `@`

digit_no_at : (b : ℕ) → is_ascii_digit b ≡ true → (b == 64) ≡ false
digit_no_at b h = grind (arith, nat_tests, h)

digit_no_plus : (b : ℕ) → is_ascii_digit b ≡ true → (b == 43) ≡ false
digit_no_plus b h = grind (arith, nat_tests, h)

-- a numeral has no sign that is no digit and none of its own
no_sign : (s : ℕ) → ((b : ℕ) → is_ascii_digit b ≡ true → (b == s) ≡ false) → (46 == s) ≡ false → (37 == s) ≡ false
    → (47 == s) ≡ false → (text : Text) → IsTrue (is_numeral text) → All (λ b. (b == s) ≡ false) text
no_sign s = written_each (λ b. (b == s) ≡ false)

weight_without : IsWithout 64 weight
weight_without w x h = list_any_none _ w (no_sign 64 digit_no_at refl refl refl w (and_parts _ _ h.0).0)

term_without : IsWithout plus term
term_without text x (parts, is, (w, p, e, hw, hp)) =
    rw e (list_any_none _ (w ++ 64 ∷ p) (bytes_joined (λ b. (b == 43) ≡ false) w p 64 refl
    (no_sign 43 digit_no_plus refl refl refl w (and_parts _ _ hw.0).0)
    (no_sign 43 digit_no_plus refl refl refl p (and_parts _ _ (and_parts _ _ hp.0).0).0)))

term_read : IsRead term
term_read = made_read (λ both. record { weight = both.0; p = both.1 }) _ (pair_read 64 weight (probability 9)
    (one_read is_weight numeral_value) (one_read (is_probability 9) numeral_value) weight_without)

joined_terms : IsRead (list most_terms plus term)
joined_terms = list_read plus term term_read term_without most_terms

pub terms_read : IsRead terms
terms_read = that_read are_weighted (list most_terms plus term) joined_terms

pub some_joined : {A : Type 0} {P : Text → A → Type 0} (sign : ℕ) (text : Text) (xs : List A) → AreJoined sign P text xs
    → 1 ≤ length xs
some_joined sign text _ (last x h) = omega arith
some_joined sign text _ (more front rest x xs h later e) = omega arith

-- ---- weights that sum to 1

one_parts : (x : Fraction) → x ≡ whole 1 → (x.num == x.den) ≡ true
one_parts x e = eq-eqb x.num x.den (one_only x.num x.den x.positive (over_self x ∙ e))

parts_one : (x : Fraction) → (x.num == x.den) ≡ true → x ≡ whole 1
parts_one x h = sym (over_self x)
    ∙ over_same x.num x.den 1 1 x.positive (omega arith) (omega (arith, eqb-true x.num x.den h))

pub priced_weighted : (terms : List Term) → ArePriced terms → are_weighted terms ≡ true
priced_weighted terms priced =
    and_from _ _ (le-leb (common_denominator (map (λ term. term.weight) terms)) most_weight_parts priced.fine)
    (one_parts (sum_over terms (λ term. term.weight)) priced.total)

pub weighted_priced : (terms : List Term) → 1 ≤ length terms → length terms ≤ most_terms → are_weighted terms ≡ true
    → ArePriced terms
weighted_priced terms some few h = grind (arith, and_parts, leb-true, parts_one)

-- ---- what is read

pub priced : (text : Text) (all : List Term) → terms.Spells text all → ArePriced all
priced text all h = weighted_priced all (some_joined plus text all h.0.0) h.0.1 h.1

abbrev pub if_weighted : List Term → Option (List Term)
if_weighted all = if are_weighted all then Some all else None

module _ (text : Text) (all : List Term) (read : Some all ≡ joined plus term.read most_terms text) where
  pub price_told : ArePriced all → Some all ≡ terms.read text
  price_told priced = grind (arith, priced_weighted all priced)

  pub price_refused : ¬ ArePriced all → None ≡ terms.read text
  price_refused not_priced = sym (ap (option_and_then if_weighted) (sym read) ∙ (rw none refl))
    where
      none : are_weighted all ≡ false
      none = false_from_ne_true _ (λ h. not_priced (priced text all (joined_terms.back text all (sym read), h)))
