-- The words as `clap` reads them: a lone hyphen is a plain word, and no option takes a value that begins with a hyphen,
-- but for a lone one.
use Rattle.dl_arguments.proofs.Common.{◌≡◌, ℕ, Bool, true, false, refl, List, [], ◌∷◌, Option, Some, None, if◌then◌else◌, is_some, slice_get, list_any, before_first, after_first, bytes_eq, chars, long_of, short_of, Text, Part, Mode, Kind, is_equals, is_name, read_kind, with_part, option, positional, between, value, ended, ends, whole, begins, plain, misfit, after_hyphens}
use Rattle.std.proofs.Common.{◌==◌}

abbrev pub clap_after_hyphen : Text → Kind
clap_after_hyphen [] = plain
clap_after_hyphen (c ∷ cs) = if c == 45 then after_hyphens cs
    else if is_some (slice_get (chars (c ∷ cs)) 0) then misfit else plain

abbrev pub clap_kind : Text → Kind
clap_kind [] = plain
clap_kind (c ∷ cs) = if c == 45 then clap_after_hyphen cs else plain

abbrev pub value_kind : Text → Text → Kind → Option (List Part) → Option (List Part)
value_kind name word plain next = with_part (option name word) next
value_kind name word _ next = None

abbrev pub clap_from : Mode → List Text → Option (List Part)
clap_from between [] = Some []
clap_from (value name) [] = None
clap_from ended [] = Some []
clap_from between (word ∷ rest) = read_kind word (clap_kind word) (λ mode. clap_from mode rest)
clap_from (value name) (word ∷ rest) = value_kind name word (clap_kind word) (clap_from between rest)
clap_from ended (word ∷ rest) = with_part (positional word) (clap_from ended rest)

-- ---- what clap's lexer sees in a word

abbrev pub hyphens : Text
hyphens = 45 ∷ 45 ∷ []

abbrev pub option_kind : Text → Option Text → Kind
option_kind name None = begins name
option_kind name (Some v) = whole name v

-- a long name, with a value or none
pub record IsLong (w name : Text) (v : Option Text) : Type 0 where
  pub other : bytes_eq w hyphens ≡ false
  pub seen : long_of w ≡ Some (name, v)
  pub kind : clap_kind w ≡ (if is_name name then option_kind name v else misfit)

-- no `--` and no long name, and these flags
pub record IsShort (w : Text) (flags : Option Text) : Type 0 where
  pub other : bytes_eq w hyphens ≡ false
  pub no_long : long_of w ≡ None
  pub seen : short_of w ≡ flags

pub data Seen (w : Text) : Type 0 where
  seen_ends : bytes_eq w hyphens ≡ true → clap_kind w ≡ ends → Seen w
  seen_long : (name : Text) (v : Option Text) → IsLong w name v → Seen w
  seen_flags : (x : ℕ) (xs : Text) (c : ℕ) → IsShort w (Some (x ∷ xs)) → slice_get (chars (x ∷ xs)) 0 ≡ Some c
      → clap_kind w ≡ misfit → Seen w
  seen_bytes : (x : ℕ) (xs : Text) → IsShort w (Some (x ∷ xs)) → slice_get (chars (x ∷ xs)) 0 ≡ None
      → clap_kind w ≡ plain → Seen w
  seen_plain : IsShort w None → clap_kind w ≡ plain → Seen w

pub seen : (w : Text) → Seen w
seen [] = seen_plain (record { other = refl; no_long = refl; seen = refl }) refl
seen (c ∷ cs) = go (c == 45) refl cs
  where
    long_kind : (text : Text) (b : Bool) → (if is_name (before_first is_equals text)
        then (if b then whole (before_first is_equals text) (after_first is_equals text)
        else begins (before_first is_equals text)) else misfit)
        ≡ (if is_name (before_first is_equals text) then option_kind (before_first is_equals text)
        (if b then Some (after_first is_equals text) else None) else misfit)
    long_kind text true = refl
    long_kind text false = refl

    flags : (d : ℕ) (ds : Text) → c == 45 ≡ true → d == 45 ≡ false → (o : Option ℕ)
        → slice_get (chars (d ∷ ds)) 0 ≡ o → Seen (c ∷ d ∷ ds)
    flags d ds e f (Some x) g =
        seen_flags d ds x (record { other = rw (e, f) refl; no_long = rw (e, f) refl; seen = rw (e, f) refl }) g (rw (e, f, g) refl)
    flags d ds e f None g =
        seen_bytes d ds (record { other = rw (e, f) refl; no_long = rw (e, f) refl; seen = rw (e, f) refl }) g (rw (e, f, g) refl)

    second : (d : ℕ) → c == 45 ≡ true → (ds : Text) (b : Bool) → d == 45 ≡ b → Seen (c ∷ d ∷ ds)
    second d e [] true f = seen_ends (rw (e, f) refl) (rw (e, f) refl)
    second d e (x ∷ xs) true f = seen_long (before_first is_equals (x ∷ xs)) (if list_any is_equals (x ∷ xs)
        then Some (after_first is_equals (x ∷ xs)) else None) (record {
          other = rw (e, f) refl;
          seen = rw (e, f) refl;
          kind = rw (e, f) (long_kind (x ∷ xs) _);
        })
    second d e ds false f = flags d ds e f (slice_get (chars (d ∷ ds)) 0) refl

    go : (b : Bool) → c == 45 ≡ b → (ds : Text) → Seen (c ∷ ds)
    go false e ds = seen_plain (record { other = rw e refl; no_long = rw e refl; seen = rw e refl }) (rw e refl)
    go true e [] = seen_plain (record { other = rw e refl; no_long = rw e refl; seen = rw e refl }) (rw e refl)
    go true e (d ∷ ds) = second d e ds (d == 45) refl
