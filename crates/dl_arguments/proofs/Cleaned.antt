-- Parts with no hyphen at the start of a value or a positional are read alike.
use Rattle.dl_arguments.proofs.Common.{◌≡◌, ◌∙◌, inl, inr, cases_Bool, ℕ, Bool, true, false, refl, sym, ap, List, [], ◌∷◌, Option, Some, None, true≢false, if◌then◌else◌, is_some, slice_get, ◌&&◌, chars, Part, Mode, Kind, kind_of, parts_from, read_kind, with_part, option, positional, between, value, ended, ends, whole, begins, plain, misfit, Text, begins_plainly}
use Rattle.std.proofs.Common.{◌==◌}
use Rattle.dl_arguments.proofs.Reading.{clap_from, clap_kind, value_kind}

abbrev pub is_clean_part : Part → Bool
is_clean_part (option n v) = begins_plainly v
is_clean_part (positional w) = begins_plainly w

abbrev pub is_clean : List Part → Bool
is_clean [] = true
is_clean (p ∷ ps) = is_clean_part p && is_clean ps

-- the parts, if they are clean
abbrev pub cleaned : Option (List Part) → Option (List Part)
cleaned None = None
cleaned (Some ps) = if is_clean ps then Some ps else None

cleaned_part : (p : Part) (o : Option (List Part)) → cleaned (with_part p o)
    ≡ (if is_clean_part p then with_part p (cleaned o) else None)
cleaned_part p None = go (is_clean_part p)
  where
    go : (a : Bool) → None ≡ (if a then with_part p None else None)
    go true = refl
    go false = refl
cleaned_part p (Some ps) = go (is_clean_part p) (is_clean ps)
  where
    go : (a b : Bool) → (if a && b then Some (p ∷ ps) else None)
        ≡ (if a then with_part p (if b then Some ps else None) else None)
    go true true = refl
    go true false = refl
    go false b = refl

-- the part goes, if it is not clean
not_clean : (p : Part) (o : Option (List Part)) → is_clean_part p ≡ false → cleaned (with_part p o) ≡ None
not_clean p o e = cleaned_part p o ∙ (rw e refl)

same_part : (p : Part) (o q : Option (List Part)) → cleaned o ≡ cleaned q
    → cleaned (with_part p o) ≡ cleaned (with_part p q)
same_part p o q e = cleaned_part p o ∙ ap (λ x. if is_clean_part p then with_part p x else None) e
    ∙ sym (cleaned_part p q)

same_kind : (word : Text) (k : Kind) (f g : Mode → Option (List Part))
    → ((mode : Mode) → cleaned (f mode) ≡ cleaned (g mode))
    → cleaned (read_kind word k f) ≡ cleaned (read_kind word k g)
same_kind word ends f g h = h ended
same_kind word (whole name v) f g h = same_part (option name v) _ _ (h between)
same_kind word (begins name) f g h = h (value name)
same_kind word plain f g h = same_part (positional word) _ _ (h between)
same_kind word misfit f g h = refl

-- `clap` takes a word that fits nothing for a plain one only where it begins with a hyphen
pub data SameKind (w : Text) : Type 0 where
  alike : clap_kind w ≡ kind_of w → SameKind w
  hyphen : clap_kind w ≡ plain → kind_of w ≡ misfit → begins_plainly w ≡ false → SameKind w

pub kinds : (w : Text) → SameKind w
kinds [] = alike refl
kinds (c ∷ cs) = go (c == 45) refl cs
  where
    flags : (d : ℕ) (ds : Text) → c == 45 ≡ true → d == 45 ≡ false → (b : Bool)
        → is_some (slice_get (chars (d ∷ ds)) 0) ≡ b → SameKind (c ∷ d ∷ ds)
    flags d ds e f true g = alike (rw (e, f, g) refl)
    flags d ds e f false g = hyphen (rw (e, f, g) refl) (rw (e, f) refl) (rw e refl)

    second : (d : ℕ) (ds : Text) → c == 45 ≡ true → (b : Bool) → d == 45 ≡ b → SameKind (c ∷ d ∷ ds)
    second d ds e true f = alike (rw (e, f) refl)
    second d ds e false f = flags d ds e f (is_some (slice_get (chars (d ∷ ds)) 0)) refl

    go : (b : Bool) → c == 45 ≡ b → (ds : Text) → SameKind (c ∷ ds)
    go false e ds = alike (rw e refl)
    go true e [] = hyphen (rw e refl) (rw e refl) (rw e refl)
    go true e (d ∷ ds) = second d ds e (d == 45) refl

between_same : (word : Text) (f g : Mode → Option (List Part)) → SameKind word
    → ((mode : Mode) → cleaned (f mode) ≡ cleaned (g mode))
    → cleaned (read_kind word (clap_kind word) f) ≡ cleaned (read_kind word (kind_of word) g)
between_same word f g (alike e) h = rw e (same_kind word (kind_of word) f g h)
between_same word f g (hyphen e k n) h = rw (e, k) (not_clean (positional word) (f between) n)

-- a word that begins with no hyphen is plain
pub plain_kind : (w : Text) → begins_plainly w ≡ true → kind_of w ≡ plain
plain_kind [] h = refl
plain_kind (c ∷ cs) h = elim (cases_Bool (c == 45)) [
  | inl e ↦ absurd (true≢false (sym (rw e at h)))
  | inr e ↦ rw e refl
]

clap_plain : (w : Text) → begins_plainly w ≡ true → clap_kind w ≡ plain
clap_plain w h = elim (kinds w) [
  | alike e ↦ e ∙ plain_kind w h
  | hyphen e k n ↦ e
]

value_same : (name word : Text) (o q : Option (List Part)) → cleaned o ≡ cleaned q
    → cleaned (value_kind name word (clap_kind word) o) ≡ cleaned (with_part (option name word) q)
value_same name word o q h = elim (cases_Bool (begins_plainly word)) [
  | inl e ↦ rw (clap_plain word e) (same_part (option name word) o q h)
  | inr e ↦ or_none (clap_kind word) e ∙ sym (not_clean (option name word) q e)
]
  where
    or_none : (k : Kind) → begins_plainly word ≡ false → cleaned (value_kind name word k o) ≡ None
    or_none plain n = not_clean (option name word) o n
    or_none _ n = refl

pub same_cleaned : (words : List Text) (mode : Mode) → cleaned (clap_from mode words) ≡ cleaned (parts_from mode words)
unfolding parts_from
same_cleaned [] between = refl
same_cleaned [] (value name) = refl
same_cleaned [] ended = refl
same_cleaned (word ∷ rest) between = between_same word _ _ (kinds word) (same_cleaned rest)
same_cleaned (word ∷ rest) (value name) = value_same name word _ _ (same_cleaned rest between)
same_cleaned (word ∷ rest) ended = same_part (positional word) _ _ (same_cleaned rest ended)
