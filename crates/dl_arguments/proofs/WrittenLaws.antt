-- The parts of the words are those that they are written as.
use Rattle.dl_arguments.proofs.Common.{◌≡◌, ◌∙◌, inl, inr, cases_Bool, ℕ, Bool, true, false, refl, sym, ap, subst, List, [], ◌∷◌, ◌++◌, Option, Some, None, codes, map, true≢false, arith, ◌==◌, list_any, before_first, after_first, nat_tests, append-nil, before_none, Part, Mode, Kind, is_equals, is_name, kind_of, parts_from, positionals_of, read_kind, with_part, option, positional, between, value, ended, ends, whole, begins, plain, misfit, Text, begins_plainly, named, cut_first, after_at, any_at, before_at, All, IfSome, All-cons, All-head, All-tail}
use Rattle.dl_arguments.specs.AsWritten.{AreParts, nothing, joined, apart, plain as word_plain, ended as all_plain}
use Rattle.dl_arguments.proofs.Cleaned.{plain_kind}
use Rattle.dl_arguments.proofs.Simulation.{AllNamed}
use Rattle.dl_arguments.proofs.Whole.{by_name}

-- ---- what is written is read

no_equals : (name : Text) → is_name name ≡ true → list_any is_equals name ≡ false
no_equals = by_name (λ name. list_any is_equals name ≡ false) refl refl refl refl refl refl refl refl

all_before : (name : Text) → list_any is_equals name ≡ false → before_first is_equals name ≡ name
all_before name h = grind (arith, append-nil name, before_none is_equals name)

-- two hyphens and a name
whole_kind : (name v : Text) → is_name name ≡ true → kind_of (codes "--" ++ (name ++ (codes "=" ++ v))) ≡ whole name v
whole_kind [] v h = absurd (true≢false (sym h))
whole_kind (c ∷ cs) v h =
    let name : Text = c ∷ cs in
    let none = no_equals name h in
    let front : before_first is_equals (name ++ 61 ∷ v) ≡ name = before_at is_equals name v 61 none refl in
    let back : after_first is_equals (name ++ 61 ∷ v) ≡ v = after_at is_equals name v 61 none refl in
    let some : list_any is_equals (name ++ 61 ∷ v) ≡ true = any_at is_equals 61 refl name v in
    let is : named (name ++ 61 ∷ v) ≡ whole name v = rw (front, h, some, back) refl in
    is

begins_kind : (name : Text) → is_name name ≡ true → kind_of (codes "--" ++ name) ≡ begins name
begins_kind [] h = absurd (true≢false (sym h))
begins_kind (c ∷ cs) h = grind (arith, all_before (c ∷ cs) (no_equals (c ∷ cs) h), no_equals (c ∷ cs) h)

all_positional : (rest : List Text) → parts_from ended rest ≡ Some (map positional rest)
unfolding parts_from
all_positional [] = refl
all_positional (word ∷ rest) = ap (with_part (positional word)) (all_positional rest)

pub written_read : (words : List Text) (ps : List Part) → AreParts words ps → parts_from between words ≡ Some ps
unfolding parts_from
written_read _ _ nothing = refl
written_read _ _ (joined name v rest ps is h) = grind (arith, whole_kind name v is, written_read rest ps h)
written_read _ _ (apart name v rest ps is h) = grind (arith, begins_kind name is, written_read rest ps h)
written_read _ _ (word_plain word rest ps is h) = grind (arith, plain_kind word is, written_read rest ps h)
written_read _ _ (all_plain rest) = all_positional rest

-- ---- what is read is written

-- a word that is read as its kind is written so
pub data Written (word : Text) : Kind → Type 0 where
  is_ends : word ≡ codes "--" → Written word ends
  is_number_within : (name v : Text) → is_name name ≡ true → word ≡ codes "--" ++ (name ++ (codes "=" ++ v))
      → Written word (whole name v)
  is_begins : (name : Text) → is_name name ≡ true → word ≡ codes "--" ++ name → Written word (begins name)
  is_plain : begins_plainly word ≡ true → Written word plain
  is_misfit : Written word misfit

named_written : (word text : Text) → word ≡ codes "--" ++ text → Written word (named text)
named_written word text e = elim (cases_Bool (is_name (before_first is_equals text))) [
  | inl h ↦ elim (cases_Bool (list_any is_equals text)) [
    | inl k ↦ rw (h, k) (is_number_within (before_first is_equals text) (after_first is_equals text) h
        (e ∙ ap (λ t. codes "--" ++ t) (cut_first 61 text k)))
    | inr k ↦ rw (h, k) (is_begins (before_first is_equals text) h
        (e ∙ ap (λ t. codes "--" ++ t) (sym (all_before text k))))
  ]
  | inr h ↦ rw h is_misfit
]

hyphen_is : (c : ℕ) → (c == 45) ≡ true → c ≡ 45
hyphen_is c h = grind (arith, nat_tests, h)

written : (word : Text) → Written word (kind_of word)
written [] = is_plain refl
written (c ∷ cs) = go (c == 45) refl cs
  where
    second : (d : ℕ) (ds : Text) → (c == 45) ≡ true → (b : Bool) → d == 45 ≡ b
        → Written (c ∷ d ∷ ds) (kind_of (c ∷ d ∷ ds))
    second d ds e false f = rw (e, f) is_misfit
    second d [] e true f = rw (e, f) (is_ends (rw (hyphen_is c e, hyphen_is d f) refl))
    second d (x ∷ xs) e true f =
        let hyphens : c ∷ d ∷ x ∷ xs ≡ codes "--" ++ (x ∷ xs) = rw (hyphen_is c e, hyphen_is d f) refl in
        rw (e, f) (named_written (c ∷ d ∷ x ∷ xs) (x ∷ xs) hyphens)

    go : (b : Bool) → (c == 45) ≡ b → (ds : Text) → Written (c ∷ ds) (kind_of (c ∷ ds))
    go false e ds = rw e (is_plain (rw e refl))
    go true e [] = rw e is_misfit
    go true e (d ∷ ds) = second d ds e (d == 45) refl

some_parts : (part : Part) (o : Option (List Part)) (ps : List Part) → with_part part o ≡ Some ps
    → (qs : List Part) × (o ≡ Some qs) × (part ∷ qs ≡ ps)
some_parts part None ps e = absurd (cc)
some_parts part (Some qs) ps e = (qs, refl, cc)

-- the parts are those of what a mode leads to
abbrev IsRead : Mode → List Text → Type 0
IsRead between rest = (ps : List Part) → parts_from between rest ≡ Some ps → AreParts rest ps
IsRead ended rest = (ps : List Part) → parts_from ended rest ≡ Some ps → map positional rest ≡ ps
IsRead (value name) rest = (is_name name ≡ true) → (ps : List Part) → parts_from (value name) rest ≡ Some ps
    → AreParts ((codes "--" ++ name) ∷ rest) ps

between_read : (word : Text) (rest : List Text) (k : Kind) → Written word k → ((mode : Mode) → IsRead mode rest)
    → (ps : List Part)
    → read_kind word k (λ mode. parts_from mode rest) ≡ Some ps → AreParts (word ∷ rest) ps
between_read word rest _ (is_ends e) next ps h =
    rw e (subst (AreParts (codes "--" ∷ rest)) (next ended ps h) (all_plain rest))
between_read word rest _ (is_number_within name v is e) next ps h =
    let t = some_parts (option name v) (parts_from between rest) ps h in
    rw e (subst (AreParts _) t.2 (joined name v rest t.0 is (next between t.0 t.1)))
between_read word rest _ (is_begins name is e) next ps h = rw e (next (value name) is ps h)
between_read word rest _ (is_plain is) next ps h =
    let t = some_parts (positional word) (parts_from between rest) ps h in
    subst (AreParts (word ∷ rest)) t.2 (word_plain word rest t.0 is (next between t.0 t.1))
between_read word rest _ is_misfit next ps h = absurd (cc)

read_written : (words : List Text) (mode : Mode) → IsRead mode words
unfolding parts_from
read_written [] between = λ ps h. let e : [] ≡ ps = cc in subst (AreParts []) e nothing
read_written [] ended = λ ps h. cc
read_written [] (value name) = λ is ps h. absurd (cc)
read_written (word ∷ rest) between = grind (arith, written word, read_written rest, between_read)
read_written (word ∷ rest) ended = λ ps h.
    let t = some_parts (positional word) (parts_from ended rest) ps h in
    ap (λ qs. positional word ∷ qs) (read_written rest ended t.0 t.1) ∙ t.2
read_written (word ∷ rest) (value name) = λ is ps h.
    let t = some_parts (option name word) (parts_from between rest) ps h in
    subst (AreParts _) t.2 (apart name word rest t.0 is (read_written rest between t.0 t.1))

pub parts_written : (words : List Text) (ps : List Part) → parts_from between words ≡ Some ps → AreParts words ps
parts_written words ps h = read_written words between ps h

-- what holds of the parts that words are written as holds of those that are read
pub if_read : (words : List Text) (P : List Part → Type 0) → ((ps : List Part) → AreParts words ps → P ps)
    → IfSome (parts_from between words) P
if_read words P f = go (parts_from between words) refl
  where
    go : (o : Option (List Part)) → parts_from between words ≡ o → IfSome o P
    go None e = tt
    go (Some ps) e = f ps (parts_written words ps e)

pub written_named : (words : List Text) (ps : List Part) → AreParts words ps → AllNamed ps
written_named _ _ nothing = tt
written_named _ _ (joined name v rest ps is h) = (is, written_named rest ps h)
written_named _ _ (apart name v rest ps is h) = (is, written_named rest ps h)
written_named _ _ (word_plain word rest ps is h) = (tt, written_named rest ps h)
written_named _ _ (all_plain rest) = positional_named rest
  where
    positional_named : (rest : List Text) → AllNamed (map positional rest)
    positional_named [] = tt
    positional_named (word ∷ rest) = (tt, positional_named rest)

positionals_map : (rest : List Text) → positionals_of (map positional rest) ≡ rest
positionals_map [] = refl
positionals_map (word ∷ rest) = ap (λ ws. word ∷ ws) (positionals_map rest)

-- what each word has, each positional has
pub written_each : (P : Text → Type 0) (words : List Text) (ps : List Part) → AreParts words ps → All P words
    → All P (positionals_of ps)
written_each P _ _ nothing a = a
written_each P _ _ (joined name v rest ps is h) a = written_each P rest ps h (All-tail P _ rest a)
written_each P _ _ (apart name v rest ps is h) a = written_each P rest ps h (All-tail P v rest (All-tail P _ (v ∷ rest) a))
written_each P _ _ (word_plain word rest ps is h) a =
    All-cons P word (positionals_of ps) (All-head P word rest a) (written_each P rest ps h (All-tail P word rest a))
written_each P _ _ (all_plain rest) a = rw (positionals_map rest) (All-tail P _ rest a)
