-- Ways to write values: which text spells which value, beside what a text is read as.
use Rattle.std.specs.Prelude.{ℕ, zero, suc, ◌≡◌, ◌++◌, ◌==◌, ◌≤◌, ◌⊎◌, Bool, IsTrue, List, [], ◌∷◌, Option, Some, None, length, option_map, option_and_then, if◌then◌else◌}
use Rattle.std.specs.List.{list_any, before_first, after_first}
use Rattle.std.specs.Str.{bytes_eq}
use Rattle.dl_arguments.specs.Spelling.{Text}

-- the text before the first byte that is the sign, and the text behind it
abbrev pub cut_at : ℕ → Text → Option (Text × Text)
cut_at sign text =
    if list_any (λ b. b == sign) text then Some
    (before_first (λ b. b == sign) text, after_first (λ b. b == sign) text) else None

-- the text behind the sign, where the sign begins it
abbrev pub behind_sign : ℕ → Text → Option Text
behind_sign sign [] = None
behind_sign sign (c ∷ rest) = if c == sign then Some rest else None

-- a way to write values: the text spells the value, and what the text is read as
pub record Way (A : Type 0) : Type 1 where
  pub Spells : Text → A → Type 0
  pub read : Text → Option A

-- a text that passes the test, for the value that it writes
abbrev pub one : {A : Type 0} → (Text → Bool) → (Text → A) → Way A
one {A} passes value = record {
  Spells = λ (text : Text) (x : A). IsTrue (passes text) × (value text ≡ x);
  read = λ text. if passes text then Some (value text) else None;
}

-- a value, the sign, and another value
abbrev pub pair : {A B : Type 0} → ℕ → Way A → Way B → Way (A × B)
pair {A} {B} sign a b = record {
  Spells = λ (text : Text) (both : A × B). (front back : Text) × (text ≡ front ++ sign ∷ back)
      × a.Spells front both.0 × b.Spells back both.1;
  read = λ text. option_and_then (λ cut. option_and_then (λ x. option_map (λ y. (x, y)) (b.read cut.1))
      (a.read cut.0)) (cut_at sign text);
}

-- the sign, and a value
abbrev pub behind : {A : Type 0} → ℕ → Way A → Way A
behind {A} sign a = record {
  Spells = λ (text : Text) (x : A). (rest : Text) × (text ≡ sign ∷ rest) × a.Spells rest x;
  read = λ text. option_and_then a.read (behind_sign sign text);
}

-- this word for this value, or another value
abbrev pub word_or : {A : Type 0} → Text → A → Way A → Way A
word_or {A} word v a = record {
  Spells = λ (text : Text) (x : A). (text ≡ word) × (v ≡ x) ⊎ a.Spells text x;
  read = λ text. if bytes_eq text word then Some v else a.read text;
}

-- a value in another form
abbrev pub made : {A B : Type 0} → (A → B) → Way A → Way B
made {A} {B} f a = record {
  Spells = λ (text : Text) (y : B). (x : A) × (f x ≡ y) × a.Spells text x;
  read = λ text. option_map f (a.read text);
}

-- a value that passes the test
abbrev pub that : {A : Type 0} → (A → Bool) → Way A → Way A
that {A} passes a = record {
  Spells = λ (text : Text) (x : A). a.Spells text x × IsTrue (passes x);
  read = λ text. option_and_then (λ x. if passes x then Some x else None) (a.read text);
}

-- the text is some values joined by the sign
pub data AreJoined {A : Type 0} (sign : ℕ) (P : Text → A → Type 0) : Text → List A → Type 0 where
  last : {text : Text} (x : A) → P text x → AreJoined sign P text (x ∷ [])
  more : {text : Text} (front rest : Text) (x : A) (xs : List A) → P front x → AreJoined sign P rest xs
      → text ≡ front ++ sign ∷ rest → AreJoined sign P text (x ∷ xs)

-- one value; or the first of some, where they are cut at the sign, in front of what the rest is
-- read as
abbrev pub joined_at : {A : Type 0} → (item : Text → Option A) → (rest : Text → Option (List A)) → Text
    → Option (Text × Text) → Option (List A)
joined_at item rest text None = option_map (λ x. x ∷ []) (item text)
joined_at item rest text (Some cut) = option_and_then (λ x. option_map (λ xs. x ∷ xs) (rest cut.1))
    (item cut.0)

-- values joined by the sign, at most so many
unfoldable pub joined : {A : Type 0} → (sign : ℕ) → (item : Text → Option A) → (most : ℕ) → Text
    → Option (List A)
joined sign item zero text = None
joined sign item (suc most) text = joined_at item (λ rest. joined sign item most rest) text
    (cut_at sign text)

-- at most so many values, joined by the sign
abbrev pub list : {A : Type 0} → (most sign : ℕ) → Way A → Way (List A)
list {A} most sign a = record {
  Spells = λ (text : Text) (xs : List A). AreJoined sign a.Spells text xs × (length xs ≤ most);
  read = λ text. joined sign a.read most text;
}
