-- The longest decimal, percent and fraction at the front of some bytes.
use Rattle.dl_lexer.proofs.Common.{ℕ, zero, suc, ◌≡◌, ◌≢◌, ◌∙◌, ◌+◌, ◌<◌, ◌≤◌, ◌⊎◌, List, [], ◌∷◌, ◌++◌, length, get_or, take, drop, Bool, ◌||◌, ◌==◌, false, true, max, inl, inr, refl, sym, ap, arith, append_assoc, length-append, length-drop, Some, slice_get, subst, list_all, prefix_len, take-append-drop, length-take-le, cases_lt, prefix_len-le-length, slice_get_within, get_or_from_slice_get, is_ascii_digit, IsDecimal, digits, digits_point, point_digits, percent, fraction, IsNumeral, a_decimal, a_percent, a_fraction, IsLongest, take-append_seam, get_or-take, length-prefix_len, list_all-append, list_all_at, AllPass-from_list_all, list_all-from_AllPass, AreDigits, IsDigits, IsPercent, IsFraction}
use Rattle.dl_lexer.proofs.Prefix.{prefix_passes, prefix_most, prefix_ends, passes_prefix, take_around, get_behind, drop_behind}
use Rattle.dl_lexer.proofs.Longest.{either, longest_either, longest_none}

-- how many digits some bytes begin with
abbrev pub run : List ℕ → ℕ
run bytes = prefix_len is_ascii_digit bytes

-- digits, a mark and digits stand at the front: then they lie within the two runs of digits there
record IsMarked (c : ℕ) (bytes : List ℕ) (w m : ℕ) (a b : List ℕ) : Type 0 where
  pub mark : slice_get bytes w ≡ Some c
  pub first : length a ≡ w
  pub second : length b ≤ run (drop (w + 1) bytes)
  pub whole : m ≡ length a + 1 + length b

marked : (c : ℕ) (bytes : List ℕ) (w m : ℕ) (a b : List ℕ) → is_ascii_digit c ≡ false → w ≡ run bytes → m ≤ length bytes
    → take m bytes ≡ a ++ c ∷ b → AreDigits a → AreDigits b → IsMarked c bytes w m a b
marked c bytes w m a b mark before h e all_a all_b =
    let after : List ℕ = drop m bytes in
    let split : bytes ≡ a ++ c ∷ (b ++ after) = sym (take-append-drop m bytes) ∙ ap (λ ys. ys ++ after) e
    ∙ append_assoc a (c ∷ b) after in
    let ends : prefix_len is_ascii_digit (a ++ c ∷ (b ++ after)) ≡ length a =
    prefix_ends is_ascii_digit c a (b ++ after) mark all_a in
    let size : length a ≡ w = sym (before ∙ ap run split ∙ ends) in
    let at : slice_get bytes (length a) ≡ Some c = rw split (get_behind a (b ++ after) c) in
    let rest : drop (length a + 1) bytes ≡ b ++ after = ap (λ ys. drop (length a + 1) ys) split
    ∙ drop_behind a (b ++ after) c in
    let most : length b ≤ run (drop (length a + 1) bytes) = rw rest (passes_prefix is_ascii_digit b after all_b) in
    let count : length (take m bytes) ≡ length (a ++ c ∷ b) = ap length e in
    record {
      mark = subst (λ n. slice_get bytes n ≡ Some c) size at;
      first = size;
      second = subst (λ n. length b ≤ run (drop (n + 1) bytes)) size most;
      whole = omega (arith, count, length-take-le m bytes h, length-append a (c ∷ b));
    }

-- the digits that begin some bytes
are_digits : (bytes : List ℕ) (n : ℕ) → n ≡ run bytes → AreDigits (take n bytes)
are_digits bytes n e = rw e (prefix_passes is_ascii_digit bytes)

some_digits : (bytes : List ℕ) (n : ℕ) → n ≡ run bytes → 0 < n → IsDigits (take n bytes)
some_digits bytes n e some = grind (arith, length-prefix_len is_ascii_digit bytes, are_digits bytes n e)

-- digits, a mark and digits lie within the bytes
round_within : (c : ℕ) (bytes : List ℕ) (w p : ℕ) → slice_get bytes w ≡ Some c → p ≡ run (drop (w + 1) bytes)
    → w + 1 + p ≤ length bytes
round_within c bytes w p mark second = omega (
  arith,
  slice_get_within bytes w c mark,
  length-drop (w + 1) bytes,
  prefix_len-le-length is_ascii_digit (drop (w + 1) bytes),
)

-- a decimal at the front, with no point behind the first digits
pub decimal_no_point : (bytes : List ℕ) → slice_get bytes (run bytes) ≢ Some 46
    → IsLongest IsDecimal bytes (run bytes)
decimal_no_point bytes other = record {
  within = prefix_len-le-length is_ascii_digit bytes;
  spelled = λ some. digits (some_digits bytes (run bytes) refl some);
  longest = most;
}
  where
    most : (m : ℕ) → m ≤ length bytes → IsDecimal (take m bytes) → m ≤ run bytes
    most m h (digits d) = prefix_most is_ascii_digit bytes m h d.1
    most m h (digits_point a b e all_a all_b) =
        absurd (other (marked 46 bytes (run bytes) m a b refl refl h e all_a.1 all_b).mark)
    most m h (point_digits b e all_b) =
        absurd (other (marked 46 bytes (run bytes) m [] b refl refl h e refl all_b.1).mark)

-- a decimal at the front, with a point
pub decimal_with_point : (bytes : List ℕ) (w p : ℕ) → w ≡ run bytes → slice_get bytes w ≡ Some 46
    → p ≡ run (drop (w + 1) bytes) → 0 < w + p → IsLongest IsDecimal bytes (w + 1 + p)
decimal_with_point bytes w p first mark second some = record {
  within = round_within 46 bytes w p mark second;
  spelled = λ _. rw (take_around bytes w 46 p mark) (spelled w refl);
  longest = most;
}
  where
    behind : List ℕ
    behind = drop (w + 1) bytes

    spelled : (n : ℕ) → n ≡ w → IsDecimal (take n bytes ++ 46 ∷ take p behind)
    spelled zero e = point_digits (take p behind) refl (some_digits behind p second (omega arith))
    spelled (suc n) e = digits_point (take (suc n) bytes) (take p behind) refl
        (some_digits bytes (suc n) (e ∙ first) (omega arith)) (are_digits behind p second)

    most : (m : ℕ) → m ≤ length bytes → IsDecimal (take m bytes) → m ≤ w + 1 + p
    most m h (digits d) = let short : m ≤ run bytes = prefix_most is_ascii_digit bytes m h d.1 in omega arith
    most m h (digits_point a b e all_a all_b) = grind (arith, marked 46 bytes w m a b refl first h e all_a.1 all_b)
    most m h (point_digits b e all_b) =
        let at = marked 46 bytes w m [] b refl first h e refl all_b.1 in omega arith

-- a lone point begins no decimal
pub decimal_with_bare_point : (bytes : List ℕ) (w p : ℕ) → w ≡ run bytes → p ≡ run (drop (w + 1) bytes) → w + p ≡ 0
    → IsLongest IsDecimal bytes 0
decimal_with_bare_point bytes w p first second none = longest_none IsDecimal bytes no_decimal
  where
    no_decimal : (m : ℕ) → m ≤ length bytes → IsDecimal (take m bytes) → ⊥
    no_decimal m h (digits d) = grind (arith, prefix_most is_ascii_digit bytes m h d.1, length-take-le m bytes h)
    no_decimal m h (digits_point a b e all_a all_b) =
        let at = marked 46 bytes w m a b refl first h e all_a.1 all_b in omega (arith, all_a.0)
    no_decimal m h (point_digits b e all_b) =
        let at = marked 46 bytes w m [] b refl first h e refl all_b.1 in omega (arith, all_b.0)

-- a fraction at the front
pub fraction_with_slash : (bytes : List ℕ) (w p : ℕ) → w ≡ run bytes → slice_get bytes w ≡ Some 47
    → p ≡ run (drop (w + 1) bytes) → 0 < w → 0 < p → IsLongest IsFraction bytes (w + 1 + p)
fraction_with_slash bytes w p first mark second above below = record {
  within = round_within 47 bytes w p mark second;
  spelled = λ _. rw (take_around bytes w 47 p mark)
      (fraction (take w bytes) (take p (drop (w + 1) bytes)) refl (some_digits bytes w first above)
      (some_digits (drop (w + 1) bytes) p second below));
  longest = most;
}
  where
    most : (m : ℕ) → m ≤ length bytes → IsFraction (take m bytes) → m ≤ w + 1 + p
    most m h (fraction a b e all_a all_b) = grind (arith, marked 47 bytes w m a b refl first h e all_a.1 all_b.1)

-- no fraction begins without a slash, or without digits round it
pub fraction_none : (bytes : List ℕ) (w p : ℕ) → w ≡ run bytes → p ≡ run (drop (w + 1) bytes)
    → (slice_get bytes w ≡ Some 47 → 0 < w → 0 < p → ⊥) → IsLongest IsFraction bytes 0
fraction_none bytes w p first second never = longest_none IsFraction bytes no_fraction
  where
    no_fraction : (m : ℕ) → m ≤ length bytes → IsFraction (take m bytes) → ⊥
    no_fraction m h (fraction a b e all_a all_b) =
        let at = marked 47 bytes w m a b refl first h e all_a.1 all_b.1 in
        never at.mark (omega (arith, all_a.0)) (omega (arith, all_b.0))

-- what a decimal is made of
is_decimal_byte : ℕ → Bool
is_decimal_byte b = is_ascii_digit b || b == 46

all_weaken : (p q : ℕ → Bool) → ((b : ℕ) → p b ≡ true → q b ≡ true) → (bs : List ℕ) → list_all p bs ≡ true
    → list_all q bs ≡ true
all_weaken p q weaker bs h =
    list_all-from_AllPass q bs (λ k d lt. weaker (get_or bs k d) (AllPass-from_list_all p bs h k d lt))

digit_in_decimal : (b : ℕ) → is_ascii_digit b ≡ true → is_decimal_byte b ≡ true
unfolding is_decimal_byte
digit_in_decimal b h = rw h refl

all_round : (a b : List ℕ) → AreDigits a → AreDigits b → list_all is_decimal_byte (a ++ 46 ∷ b) ≡ true
unfolding is_decimal_byte
all_round a b all_a all_b =
    let left : list_all is_decimal_byte a ≡ true = all_weaken is_ascii_digit is_decimal_byte digit_in_decimal a all_a in
    let right : list_all is_decimal_byte b ≡ true = all_weaken is_ascii_digit is_decimal_byte digit_in_decimal b all_b in
    list_all-append is_decimal_byte a (46 ∷ b) ∙ rw left right

decimal_bytes : (bs : List ℕ) → IsDecimal bs → list_all is_decimal_byte bs ≡ true
decimal_bytes bs (digits d) = all_weaken is_ascii_digit is_decimal_byte digit_in_decimal bs d.1
decimal_bytes bs (digits_point a b e all_a all_b) = ap (list_all is_decimal_byte) e ∙ all_round a b all_a.1 all_b
decimal_bytes bs (point_digits b e all_b) = ap (list_all is_decimal_byte) e ∙ all_round [] b refl all_b.1

-- no decimal is empty
decimal_some : (bs : List ℕ) → IsDecimal bs → 0 < length bs
decimal_some bs (digits d) = d.0
decimal_some bs (digits_point a b e all_a all_b) = omega (arith, ap length e, length-append a (46 ∷ b))
decimal_some bs (point_digits b e all_b) = omega (arith, ap length e)

-- a percent at the front is a decimal there, and a percent sign
record IsPercentAt (bytes : List ℕ) (m k : ℕ) : Type 0 where
  pub count : m ≡ k + 1
  pub some : 0 < k
  pub decimal : IsDecimal (take k bytes)
  pub within : k ≤ length bytes
  pub mark : slice_get bytes k ≡ Some 37

percent_at : (bytes : List ℕ) (m : ℕ) → m ≤ length bytes → IsPercent (take m bytes) → (k : ℕ) × IsPercentAt bytes m k
percent_at bytes m h (percent d e dec) =
    let split : bytes ≡ d ++ 37 ∷ drop m bytes = sym (take-append-drop m bytes) ∙ ap (λ ys. ys ++ drop m bytes) e
    ∙ append_assoc d (37 ∷ []) (drop m bytes) in
    let size : length (take m bytes) ≡ length d + 1 = ap length e ∙ length-append d (37 ∷ []) in
    let front : take (length d) bytes ≡ d = ap (take (length d)) split ∙ take-append_seam d (37 ∷ drop m bytes) in (
      length d,
      record {
        count = omega (arith, size, length-take-le m bytes h);
        some = decimal_some d dec;
        decimal = subst IsDecimal (sym front) dec;
        within = omega (arith, size, length-take-le m bytes h);
        mark = rw split (get_behind d (drop m bytes) 37);
      },
    )

pub percent_with_mark : (bytes : List ℕ) (d : ℕ) → IsLongest IsDecimal bytes d → 0 < d
    → slice_get bytes d ≡ Some 37
    → IsLongest IsPercent bytes (d + 1)
percent_with_mark bytes d decimal some mark = record {
  within = omega (arith, slice_get_within bytes d 37 mark);
  spelled = λ _. percent (take d bytes) whole (decimal.spelled some);
  longest = most;
}
  where
    whole : take (d + 1) bytes ≡ take d bytes ++ 37 ∷ []
    whole = let count : d + 1 ≡ d + 1 + 0 = omega arith in ap (λ n. take n bytes) count ∙ take_around bytes d 37 0 mark

    most : (m : ℕ) → m ≤ length bytes → IsPercent (take m bytes) → m ≤ d + 1
    most m h p =
        let at = percent_at bytes m h p in omega (arith, decimal.longest at.0 at.1.within at.1.decimal, at.1.count)

pub percent_without_mark : (bytes : List ℕ) (d : ℕ) → IsLongest IsDecimal bytes d
    → (0 < d → slice_get bytes d ≢ Some 37) → IsLongest IsPercent bytes 0
unfolding is_decimal_byte
percent_without_mark bytes d decimal other = longest_none IsPercent bytes no_percent
  where
    no_percent : (m : ℕ) → m ≤ length bytes → IsPercent (take m bytes) → ⊥
    no_percent m h p =
        let at = percent_at bytes m h p in
        let most : at.0 ≤ d = decimal.longest at.0 at.1.within at.1.decimal in
        mark_inside at.0 most at.1.some at.1.mark
      where
        mark_inside : (k : ℕ) → k ≤ d → 0 < k → slice_get bytes k ≡ Some 37 → ⊥
        mark_inside k most some mark = either (cases_lt k d)
            (λ lt. let all = decimal_bytes (take d bytes) (decimal.spelled (omega arith)) in
            let here : get_or (take d bytes) k 0 ≡ 37 = get_or-take d bytes k 0 lt
            ∙ get_or_from_slice_get bytes k 37 0 mark in
            let fails : list_all is_decimal_byte (take d bytes) ≡ false =
            list_all_at is_decimal_byte (take d bytes) k 0 (omega (arith, length-take-le d bytes decimal.within))
            (ap is_decimal_byte here) in
            absurd (cc))
            (λ ge. let same : k ≡ d = omega arith in
            other (omega arith) (subst (λ n. slice_get bytes n ≡ Some 37) same mark))

-- the longest numeral is the longest of the three
pub numeral_longest : (bytes : List ℕ) (d p f : ℕ) → IsLongest IsDecimal bytes d → IsLongest IsPercent bytes p
    → IsLongest IsFraction bytes f → IsLongest IsNumeral bytes (max (max d p) f)
numeral_longest bytes d p f decimal a_percent' a_fraction' =
    longest_either (λ bs. IsDecimal bs ⊎ IsPercent bs) IsFraction IsNumeral bytes (max d p) f
    (λ bs t. either t (λ x. a_decimal x) (λ x. a_percent x)) (λ bs t. a_fraction t) parts
    (longest_either IsDecimal IsPercent (λ bs. IsDecimal bs ⊎ IsPercent bs) bytes d p (λ bs t. inl t)
    (λ bs t. inr t)
    (λ bs t. t) decimal a_percent') a_fraction'
  where
    parts : (bs : List ℕ) → IsNumeral bs → (IsDecimal bs ⊎ IsPercent bs) ⊎ IsFraction bs
    parts bs (a_decimal t) = inl (inl t)
    parts bs (a_percent t) = inl (inr t)
    parts bs (a_fraction t) = inr t
