-- The parts of a text round the first byte that passes a test.
use Rattle.dl_bytes.proofs.Common.{◌≡◌, inl, inr, ℕ, suc, ◌+◌, ◌<◌, ◌≤◌, Bool, true, false, ◌||◌, List, [], ◌∷◌, ◌++◌, length, take, drop, arith, refl, sym, ap, ◌∙◌, ◌==◌, list_any, before_first, after_first, position_or_len, append-nil, cases_Bool, or_parts, eqb-true}
use Rattle.std.proofs.Common.{Some, None, ◌-◌, cond}
use Rattle.std.specs.List.{position}
use Rattle.std.specs.Prelude.{nat_lt}
use Rattle.std.proofs.lemmas.Bool.{ltb-false, ltb-true}
use Rattle.std.proofs.lemmas.List.{take_rest}
use Rattle.std.proofs.lemmas.List.Folds.{list_any-append}
use Rattle.std.proofs.Math.Bool.{or-false}

pub clash : {P : Type 0} (b : Bool) → b ≡ true → b ≡ false → P
clash b p q = absurd (let e : true ≡ false = sym p ∙ q in cc)

drop_more : (x : ℕ) (xs : List ℕ) (k : ℕ) → drop (1 + k + 1) (x ∷ xs) ≡ drop (k + 1) xs
drop_more x xs k = let e : 1 + k + 1 ≡ suc (k + 1) = omega arith in ap (λ n. drop n (x ∷ xs)) e

take_one : (x : ℕ) (xs : List ℕ) (k : ℕ) → take (1 + k) (x ∷ xs) ≡ x ∷ take k xs
take_one x xs k = let e : 1 + k ≡ suc k = omega arith in ap (λ n. take n (x ∷ xs)) e

pub after_yes : (p : ℕ → Bool) (x : ℕ) (xs : List ℕ) → p x ≡ true → after_first p (x ∷ xs) ≡ xs
after_yes p x xs h = rw h

pub after_no : (p : ℕ → Bool) (x : ℕ) (xs : List ℕ) → p x ≡ false → after_first p (x ∷ xs) ≡ after_first p xs
after_no p x xs h = rw h (drop_more x xs (position_or_len p xs))

pub before_yes : (p : ℕ → Bool) (x : ℕ) (xs : List ℕ) → p x ≡ true → before_first p (x ∷ xs) ≡ []
before_yes p x xs h = rw h

pub before_no : (p : ℕ → Bool) (x : ℕ) (xs : List ℕ) → p x ≡ false → before_first p (x ∷ xs) ≡ x ∷ before_first p xs
before_no p x xs h = rw h (take_one x xs (position_or_len p xs))

any_none : (p : ℕ → Bool) (x : ℕ) (xs : List ℕ) → list_any p (x ∷ xs) ≡ false → (p x ≡ false) × (list_any p xs ≡ false)
any_none p x xs h = or_parts (p x) (list_any p xs) h

pub after_none : (p : ℕ → Bool) (front back : List ℕ) → list_any p front ≡ false
    → after_first p (front ++ back) ≡ after_first p back
after_none p [] back h = refl
after_none p (x ∷ xs) back h =
    after_no p x (xs ++ back) (any_none p x xs h).0 ∙ after_none p xs back (any_none p x xs h).1

pub before_none : (p : ℕ → Bool) (front back : List ℕ) → list_any p front ≡ false
    → before_first p (front ++ back) ≡ front ++ before_first p back
before_none p [] back h = refl
before_none p (x ∷ xs) back h =
    before_no p x (xs ++ back) (any_none p x xs h).0 ∙ ap (λ t. x ∷ t) (before_none p xs back (any_none p x xs h).1)

pub before_at : (p : ℕ → Bool) (front back : List ℕ) (b : ℕ) → list_any p front ≡ false → p b ≡ true
    → before_first p (front ++ b ∷ back) ≡ front
before_at p front back b h e =
    before_none p front (b ∷ back) h ∙ ap (λ t. front ++ t) (before_yes p b back e) ∙ append-nil front

pub after_at : (p : ℕ → Bool) (front back : List ℕ) (b : ℕ) → list_any p front ≡ false → p b ≡ true
    → after_first p (front ++ b ∷ back) ≡ back
after_at p front back b h e = after_none p front (b ∷ back) h ∙ after_yes p b back e

pub any_at : (p : ℕ → Bool) (b : ℕ) → p b ≡ true → (front back : List ℕ) → list_any p (front ++ b ∷ back) ≡ true
any_at p b h [] back = rw h
any_at p b h (x ∷ xs) back = elim (cases_Bool (p x)) [ inl hit ↦ rw hit | inr miss ↦ rw miss (any_at p b h xs back) ]

pub any_push : (p : ℕ → Bool) (text : List ℕ) (b : ℕ) → list_any p (text ++ b ∷ []) ≡ (list_any p text || p b)
any_push p text b = list_any-append p text (b ∷ []) ∙ ap (λ t. list_any p text || t) (or-false (p b))

pub any_push_no : (p : ℕ → Bool) (text : List ℕ) (b : ℕ) → p b ≡ false → list_any p (text ++ b ∷ []) ≡ list_any p text
any_push_no p text b h = any_push p text b ∙ ap (λ t. list_any p text || t) h ∙ or-false (list_any p text)

-- bytes other than a sign, that sign, and more bytes
pub any_none_cons : (p : ℕ → Bool) (b : ℕ) (front back : List ℕ) → p b ≡ false → list_any p front ≡ false
    → list_any p back ≡ false → list_any p (front ++ b ∷ back) ≡ false
any_none_cons p b front back e f g = list_any-append p front (b ∷ back) ∙ rw (f, e, g)

-- a text in which the sign s occurs is before_first ++ s ∷ after_first
pub cut_first : (s : ℕ) (text : List ℕ) → list_any (λ b. b == s) text ≡ true
    → text ≡ before_first (λ b. b == s) text ++ s ∷ after_first (λ b. b == s) text
cut_first s [] h = absurd (cc)
cut_first s (b ∷ bs) h = elim (cases_Bool (b == s)) [
  | inl hit ↦ rw (before_yes (λ b. b == s) b bs hit, after_yes (λ b. b == s) b bs hit) (ap (λ c. c ∷ bs) (eqb-true b s hit))
  | inr miss ↦
      let rest = cut_first s bs (rw miss at h) in
      rw (before_no (λ b. b == s) b bs miss, after_no (λ b. b == s) b bs miss) (ap (λ t. b ∷ t) rest)
]

-- ---- the first place, or the length where there is none

module _ (p : ℕ → Bool) where
  near_place : (x : ℕ) (xs : List ℕ) → p x ≡ true → position_or_len p (x ∷ xs) ≡ 0
  near_place x xs h = rw h refl

  next_place : (x : ℕ) (xs : List ℕ) → p x ≡ false → position_or_len p (x ∷ xs) ≡ 1 + position_or_len p xs
  next_place x xs h = rw h refl

  pub found_any : (text : List ℕ) → position_or_len p text < length text → list_any p text ≡ true
  found_any [] h = absurd (omega (arith, h))
  found_any (x ∷ xs) h = elim (cases_Bool (p x)) [
    | inl hit ↦ rw hit refl
    | inr miss ↦ rw miss (found_any xs (omega (arith, h, next_place x xs miss)))
  ]

  pub none_any : (text : List ℕ) → length text ≤ position_or_len p text → list_any p text ≡ false
  none_any [] h = refl
  none_any (x ∷ xs) h = elim (cases_Bool (p x)) [
    | inl hit ↦ absurd (omega (arith, h, near_place x xs hit))
    | inr miss ↦ rw miss (none_any xs (omega (arith, h, next_place x xs miss)))
  ]

  place_is : (text : List ℕ) (i : ℕ) → Some i ≡ position p text → (i < length text) × (i ≡ position_or_len p text)
  place_is text i e = elim (cases_Bool (nat_lt (position_or_len p text) (length text))) [
    | inl hit ↦
        let f : Some i ≡ Some (position_or_len p text) =
        e ∙ ap (λ b. cond b (Some (position_or_len p text)) None) hit in
        let same : i ≡ position_or_len p text = cc in
        (omega (arith, same, ltb-true _ _ hit), same)
    | inr miss ↦
        let f : Some i ≡ None = e ∙ ap (λ b. cond b (Some (position_or_len p text)) None) miss in
        absurd (cc)
  ]

  pub first_there : (text : List ℕ) (i : ℕ) → Some i ≡ position p text → list_any p text ≡ true
  first_there text i e = let at = place_is text i e in found_any text (omega (arith, at.0, at.1))

  pub first_before : (text : List ℕ) (i : ℕ) → Some i ≡ position p text → take i text ≡ before_first p text
  first_before text i e = ap (λ k. take k text) (place_is text i e).1

  pub first_behind : (text : List ℕ) (i : ℕ) → Some i ≡ position p text
      → take (length text - (i + 1)) (drop (i + 1) text) ≡ after_first p text
  first_behind text i e = take_rest text (i + 1) ∙ ap (λ k. drop (k + 1) text) (place_is text i e).1

  pub no_place : (text : List ℕ) → None ≡ position p text → list_any p text ≡ false
  no_place text e = elim (cases_Bool (nat_lt (position_or_len p text) (length text))) [
    | inl hit ↦
        let f : None ≡ Some (position_or_len p text) =
        e ∙ ap (λ b. cond b (Some (position_or_len p text)) None) hit in
        absurd (cc)
    | inr miss ↦ none_any text (ltb-false _ _ miss)
  ]
