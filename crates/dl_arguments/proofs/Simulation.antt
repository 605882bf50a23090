-- The walk of `clap` over the words uses their parts in turn.
use Rattle.dl_arguments.proofs.Common.{◌≡◌, ◌∙◌, ℕ, Bool, true, false, refl, sym, ap, subst, List, [], ◌∷◌, Option, Some, None, if◌then◌else◌, slice_get, ◌||◌, ⊤, fold, bytes_eq, chars, bytes_eq-Decides, Kinds, or_else, Row, Rule, Walk, arg_by_id, arg_by_index, arg_by_long, arg_by_short, settled, Shape, settle_fault, use_fault, Text, Part, Mode, is_name, read_kind, with_part, option, positional, between, value, ended, misfit, and-false, both_ways, option_map_or, unwrap_or_range, flags_fault, long_fault, short_fault, step_fault, turn_fault, word_fault, walk_fault}
use Rattle.clap.specs.Walk.{Held, Step, Waiting, after_step, bundle_met, idle, is_multiple, most_values, next_position, option as wants, positional as several, plain_word, settled_rows, subcommand_met, takes_several, takes_values, word_met, value as value_step, used, used_by_id, walked, is_pending}
use Rattle.dl_arguments.proofs.Reading.{IsLong, IsShort, Seen, clap_from, hyphens, option_kind, seen, value_kind, seen_bytes, seen_ends, seen_flags, seen_long, seen_plain}

-- ---- kinds

pub or_else-assoc : (a b c : Kinds) → or_else (or_else a b) c ≡ or_else a (or_else b c)
or_else-assoc [] b c = refl
or_else-assoc (k ∷ ks) b c = refl

pub or_else-nil : (a : Kinds) → or_else a [] ≡ a
or_else-nil [] = refl
or_else-nil (k ∷ ks) = refl

-- there is a fault
abbrev pub Fails : Kinds → Type 0
Fails [] = ⊥
Fails (k ∷ ks) = ⊤

pub fails_first : (a b : Kinds) → Fails a → Fails (or_else a b)
fails_first [] b h = absurd h
fails_first (k ∷ ks) b h = tt

pub fails_next : (a b : Kinds) → Fails b → Fails (or_else a b)
fails_next [] b h = h
fails_next (k ∷ ks) b h = tt

same_behind : {A : Type 0} (a b : Kinds) (x : A) → a ≡ b → ◌≡◌ {A = Kinds × A} (a, x) (b, x)
same_behind a b x e = ap (λ k. (k, x)) e

-- ---- the arguments that the walk meets

-- an argument that takes one value in each use
pub record TakesOne (s : Shape) (id : Text) (a : Rule) : Type 0 where
  pub found : arg_by_id s.rules id ≡ Some a
  pub same : a.id ≡ id
  pub takes : takes_values a ≡ true
  pub single : takes_several a ≡ false
  pub most : most_values a ≡ 1
  pub least : (unwrap_or_range a.range).start_inclusive ≡ 1

-- what the arguments of a long name are: none that takes it, or one that takes a value
pub data LongMet (s : Shape) (name : Text) : Type 0 where
  no_long : is_name name ≡ false
      → ((v : Option Text) (h : Held) → Fails (long_fault s.rules false (arg_by_long s.rules name) v h)) → LongMet s name
  takes_long : (a : Rule) → is_name name ≡ true → arg_by_long s.rules name ≡ Some a → TakesOne s name a → LongMet s name

-- the place of the next positional: the first, or one after it
abbrev pub position_of : Bool → ℕ
position_of true = 1
position_of false = 2

pub record IsPlace (s : Shape) (id : Text) (position : ℕ) : Type 0 where
  pub rule : Rule
  pub at : arg_by_index s.rules position ≡ Some rule
  pub takes : TakesOne s id rule
  pub next : next_position rule position ≡ 2
  pub goes_on : rule.trailing_var_arg ≡ false

pub record IsReady (s : Shape) (place : Bool → Text) : Type 0 where
  pub once : s.args_override_self ≡ false
  pub long : (name : Text) → LongMet s name
  pub short : (c : ℕ) (rest : Text) (h : Held) (next : Held → Kinds)
      → Fails (short_fault s.rules false (arg_by_short s.rules c) rest h next)
  pub places : (first : Bool) → IsPlace s (place first) (position_of first)

-- ---- parts, and their uses

abbrev pub IsNamed : Part → Type 0
IsNamed (option n v) = is_name n ≡ true
IsNamed (positional w) = ⊤

-- each option has a name of the command's
abbrev pub AllNamed : List Part → Type 0
AllNamed [] = ⊤
AllNamed (p ∷ ps) = IsNamed p × AllNamed ps

abbrev pub Use : Type 0
Use = Text × Text

abbrev pub uses_of : (Bool → Text) → Bool → List Part → List Use
uses_of place first [] = []
uses_of place first (option n v ∷ ps) = (n, v) ∷ uses_of place first ps
uses_of place first (positional w ∷ ps) = (place first, w) ∷ uses_of place false ps

-- a fault or none, and rows
abbrev pub Outcome : Type 0
Outcome = Kinds × List Row

abbrev pub after : Kinds → Outcome → Outcome
after k o = (or_else k o.0, o.1)

module _ (s : Shape) where
  abbrev pub step : List Row → Use → List Row
  step r u = used_by_id (arg_by_id s.rules u.0) (u.1 ∷ []) r

  abbrev pub fault : List Row → Use → Kinds
  fault r u = option_map_or (λ a. use_fault false a (u.1 ∷ []) r) (arg_by_id s.rules u.0) []

  abbrev pub faults : List Row → List Use → Kinds
  faults r [] = []
  faults r (u ∷ us) = or_else (fault r u) (faults (step r u) us)

  -- of some uses, and of the walk over some words
  abbrev pub does : List Row → List Use → Outcome
  does r us = (faults r us, fold step r us)

  abbrev pub outcome : Walk → List Text → Outcome
  outcome w words =
      let end = (fold (walked s.rules []) w words).held in
      (or_else (walk_fault s [] w words) (settle_fault s.rules s.args_override_self end), (settled s.rules end).rows)

abbrev pub stand : List Row → Option (Text × List Text) → Waiting → ℕ → Bool → Walk
stand r p waiting position is_trailing = record {
  held = record { rows = r; pending = p; skip = 0 };
  waiting = waiting;
  position = position;
  is_trailing = is_trailing;
  stopped = None;
}

-- ---- one word

pub bytes_same : (t : Text) → bytes_eq t t ≡ true
bytes_same t = (bytes_eq-Decides t t).1 refl

no_subcommand : (waiting : Waiting) (word : Text) → subcommand_met [] waiting word ≡ None
no_subcommand idle word = refl
no_subcommand _ word = refl

-- nothing waits for a value
abbrev pub calm : Bool → Waiting
calm b = if b then several else idle

calm_plain : (c : List Rule) (b : Bool) (word : Text) (h : Held) → plain_word c (calm b) word h ≡ (h, value_step)
calm_plain c true word h = refl
calm_plain c false word h = refl

or_false : (b : Bool) → (b || false) ≡ b
or_false true = refl
or_false false = refl

-- its fault, and where the walk stands after it
abbrev pub turned : Shape → Walk → Text → Kinds × Walk
turned s w word = (turn_fault s [] w word, walked s.rules [] w word)

pub record Turns (s : Shape) (w : Walk) (word : Text) (f : Kinds) (next : Walk) : Type 0 where
  pub is : turned s w word ≡ (f, next)

-- its fault as a flag, and what it is taken for
abbrev pub word_is : Shape → Walk → Text → Kinds × (Held × Step)
word_is s w word = (
  word_fault s [] w.is_trailing w.waiting word w.held,
  word_met s.rules [] w.is_trailing w.waiting w.position word w.held,
)

module _ (s : Shape) (place : Bool → Text) (ready : IsReady s place) where
  -- the fault of the use that is pending
  abbrev pending_fault : Option (Text × List Text) → List Row → Kinds
  pending_fault p r = settle_fault s.rules s.args_override_self (stand r p idle 0 false).held

  module _ (r : List Row) (p : Option (Text × List Text)) (waiting : Waiting) (position : ℕ) (word : Text) where
    abbrev here : Walk
    here = stand r p waiting position false

    -- `--`
    turns_ends : bytes_eq word hyphens ≡ true → Turns s here word [] (stand r p waiting position true)
    unfolding walked
    turns_ends e = record { is = rw (no_subcommand waiting word, e) refl }

    -- a long name: of an option with its value in the same word, of one that waits for its value, and of none
    turns_whole : (name v : Text) (a : Rule) → IsLong word name (Some v) → arg_by_long s.rules name ≡ Some a
        → TakesOne s name a → Turns s here word
        (or_else (pending_fault p r) (use_fault false a (v ∷ []) (settled_rows s.rules p r)))
        (stand (used a (v ∷ []) (settled_rows s.rules p r)) None idle position false)
    unfolding walked
    turns_whole name v a l found t = record {
      is = rw (no_subcommand waiting word, l.other, l.seen, found, t.takes, ready.once) (same_behind _ _ _ (or_else-nil _));
    }

    turns_begins : (name : Text) (a : Rule) → IsLong word name None → arg_by_long s.rules name ≡ Some a
        → TakesOne s name a → Turns s here word (pending_fault p r)
        (stand (settled_rows s.rules p r) (Some (name, [])) (wants name) position false)
    unfolding walked
    turns_begins name a l found t = record {
      is = rw (no_subcommand waiting word, l.other, l.seen, found, t.takes, t.same) (same_behind _ _ _ (or_else-nil _));
    }

    long_fails : (name : Text) (v : Option Text) → IsLong word name v → (is_name name ≡ true → Fails (pending_fault p r))
        → Fails (turn_fault s [] here word)
    long_fails name v l pending = rw (no_subcommand waiting word, l.other, l.seen) (fails_first _ _ (go (ready.long name) v))
      where
        go : LongMet s name → (u : Option Text)
            → Fails (long_fault s.rules s.args_override_self (arg_by_long s.rules name) u here.held)
        go (no_long n fails) u = rw ready.once (fails u here.held)
        go (takes_long a n e t) (Some u) = rw (e, t.takes) (fails_first _ _ (pending n))
        go (takes_long a n e t) None = rw (e, t.takes) (pending n)

    -- a bundle of flags that has a first character
    flags_fail : (x : ℕ) (xs : Text) (c : ℕ) → IsShort word (Some (x ∷ xs)) → slice_get (chars (x ∷ xs)) 0 ≡ Some c
        → Fails (turn_fault s [] here word)
    unfolding flags_fault
    flags_fail x xs c f first = rw (no_subcommand waiting word, f.other, f.no_long, f.seen, first, ready.once)
        (fails_first _ _ (ready.short c _ _ _))

    -- a word that is no flag
    record NoFlag : Type 0 where
      met : word_is s here word ≡ ([], plain_word s.rules waiting word here.held)

    plain_no_flag : IsShort word None → NoFlag
    plain_no_flag f = record { met = rw (no_subcommand waiting word, f.other, f.no_long, f.seen) refl }

    bytes_no_flag : (x : ℕ) (xs : Text) → IsShort word (Some (x ∷ xs)) → slice_get (chars (x ∷ xs)) 0 ≡ None → NoFlag
    unfolding flags_fault bundle_met
    bytes_no_flag x xs f none = record { met = rw (no_subcommand waiting word, f.other, f.no_long, f.seen, none) refl }

    met_turn : (is_trailing : Bool) (m : Kinds × (Held × Step)) → word_is s (stand r p waiting position is_trailing) word ≡ m
        → turned s (stand r p waiting position is_trailing) word ≡ (
          or_else m.0 (step_fault s position m.1.0 m.1.1),
          after_step s.rules word (stand r p waiting position is_trailing) m.1.0 m.1.1,
        )
    unfolding walked
    met_turn is_trailing m e = ap (λ (m : Kinds × (Held × Step)). (
      or_else m.0 (step_fault s position m.1.0 m.1.1),
      after_step s.rules word (stand r p waiting position is_trailing) m.1.0 m.1.1,
    )) e

    -- a positional, also behind `--`
    turns_positional : (first is_trailing : Bool) → position ≡ position_of first
        → word_is s (stand r p waiting position is_trailing) word ≡ ([], (here.held, value_step))
        → Turns s (stand r p waiting position is_trailing) word (pending_fault p r)
        (stand (settled_rows s.rules p r) (Some (place first, word ∷ []))
        (calm (is_multiple (ready.places first).rule)) 2 is_trailing)
    turns_positional first is_trailing e is =
        let here = ready.places first in
        let alone = and-false (is_pending here.rule p) in
        record {
          is = met_turn is_trailing _ is ∙ rw (e, here.at, here.next, here.takes.single, alone, here.goes_on)
              (rw (or_false is_trailing, ← here.takes.same) refl);
        }

    -- the value of an option that waits
    turns_value : (name : Text) (a : Rule) → TakesOne s name a → p ≡ Some (name, []) → waiting ≡ wants name → NoFlag
        → Turns s here word [] (stand r (Some (name, word ∷ [])) idle position false)
    turns_value name a t e w is = record {
      is = met_turn false _ is.met ∙ rw (e, w, t.found, t.most, t.same, bytes_same name) refl;
    }

  -- ---- the walk over all the words

  -- the parts say which fault the words have, and which rows they give; where there are none there is a fault
  abbrev pub Agrees : Outcome → (List Part → Outcome) → Option (List Part) → Type 0
  Agrees o F None = Fails o.0
  Agrees o F (Some ps) = (o ≡ F ps) × AllNamed ps

  module _ (w next : Walk) (word : Text) (rest : List Text) (f : Kinds) (turn : Turns s w word f next) where
    turn_on : outcome s w (word ∷ rest) ≡ after f (outcome s next rest)
    unfolding walk_fault
    turn_on =
        same_behind _ _ _ (or_else-assoc (turn_fault s [] w word) _ _)
        ∙ ap (λ (t : Kinds × Walk). after t.0 (outcome s t.1 rest)) turn.is

    fails_there : Fails f → Fails (outcome s w (word ∷ rest)).0
    fails_there h = subst (λ (o : Outcome). Fails o.0) (sym turn_on) (fails_first f _ h)

    fails_later : Fails (outcome s next rest).0 → Fails (outcome s w (word ∷ rest)).0
    fails_later h = subst (λ (o : Outcome). Fails o.0) (sym turn_on) (fails_next f _ h)

    later : (F H : List Part → Outcome) (o : Option (List Part)) → Agrees (outcome s next rest) H o
        → ((ps : List Part) → F ps ≡ after f (H ps)) → Agrees (outcome s w (word ∷ rest)) F o
    later F H None h same = fails_later h
    later F H (Some ps) h same = (turn_on ∙ ap (after f) h.0 ∙ sym (same ps), h.1)

    extend : (F H : List Part → Outcome) (part : Part) (o : Option (List Part)) → IsNamed part
        → Agrees (outcome s next rest) H o → ((ps : List Part) → F (part ∷ ps) ≡ after f (H ps))
        → Agrees (outcome s w (word ∷ rest)) F (with_part part o)
    extend F H part None n h same = fails_later h
    extend F H part (Some ps) n h same = (turn_on ∙ ap (after f) h.0 ∙ sym (same ps), (n, h.1))

  fails_now : (w : Walk) (word : Text) (rest : List Text) → Fails (turn_fault s [] w word)
      → Fails (outcome s w (word ∷ rest)).0
  unfolding walk_fault
  fails_now w word rest h = fails_first _ _ (fails_first _ _ h)

  abbrev pend : Option Use → Option (Text × List Text)
  pend None = None
  pend (Some u) = Some (u.0, u.1 ∷ [])

  abbrev joined : Option Use → List Use → List Use
  joined None us = us
  joined (Some u) us = u ∷ us

  -- from where the walk stands, the words do what their parts say, after the use that is pending
  abbrev pub Walks : Bool → Option Use → List Row → Walk → List Text → Option (List Part) → Type 0
  Walks first p r w words = Agrees (outcome s w words) (λ ps. does s r (joined p (uses_of place first ps)))

  abbrev Sim : Mode → List Text → Type 0
  Sim between words = (first b : Bool) (p : Option Use) (r : List Row)
      → Walks first p r (stand r (pend p) (calm b) (position_of first) false) words (clap_from between words)
  Sim (value name) words = (a : Rule) → is_name name ≡ true → TakesOne s name a → (first : Bool) (r : List Row)
      → Walks first None r (stand r (Some (name, [])) (wants name) (position_of first) false) words
      (clap_from (value name) words)
  Sim ended words = (first : Bool) (waiting : Waiting) (p : Option Use) (r : List Row)
      → Walks first p r (stand r (pend p) waiting (position_of first) true) words (clap_from ended words)

  joined_does : (p : Option Use) (r : List Row) (us : List Use)
      → does s r (joined p us) ≡ after (pending_fault (pend p) r) (does s (settled_rows s.rules (pend p) r) us)
  joined_does None r us = refl
  joined_does (Some u) r us = rw ready.once refl

  one_use : (name : Text) (a : Rule) → TakesOne s name a → (p : Option Use) (r : List Row) (v : Text) (us : List Use)
      → does s r (joined p ((name, v) ∷ us)) ≡ after
      (or_else (pending_fault (pend p) r) (use_fault false a (v ∷ []) (settled_rows s.rules (pend p) r)))
      (does s (used a (v ∷ []) (settled_rows s.rules (pend p) r)) us)
  one_use name a t p r v us = joined_does p r ((name, v) ∷ us)
      ∙ rw t.found (same_behind _ _ _ (sym (or_else-assoc (pending_fault (pend p) r) _ _)))

  -- an option with no value
  starved : (name : Text) (a : Rule) → TakesOne s name a → (r : List Row) → Fails (pending_fault (Some (name, [])) r)
  starved name a t r = rw (t.found, t.least) tt

  starved_ends : (name : Text) (a : Rule) → TakesOne s name a → (first : Bool) (r : List Row) (words : List Text)
      → Fails (outcome s (stand r (Some (name, [])) (wants name) (position_of first) true) words).0
  unfolding walk_fault
  starved_ends name a t first r [] = starved name a t r
  starved_ends name a t first r (word ∷ rest) = fails_there _ _ word rest _
      (turns_positional r (Some (name, [])) (wants name) (position_of first) word first true refl refl) (starved name a t r)

  -- where the walk ends
  at_end : (first : Bool) (waiting : Waiting) (is_trailing : Bool) (p : Option Use) (r : List Row)
      → Walks first p r (stand r (pend p) waiting (position_of first) is_trailing) [] (Some [])
  unfolding walk_fault
  at_end first waiting is_trailing p r = (sym (joined_does p r [] ∙ same_behind _ _ _ (or_else-nil _)), tt)

  -- a positional, also behind `--`
  positional_sim : (word : Text) (rest : List Text) (first is_trailing : Bool) (waiting : Waiting) (p : Option Use)
      (r : List Row) (o : Option (List Part))
      → word_is s (stand r (pend p) waiting (position_of first) is_trailing) word
      ≡ ([], ((stand r (pend p) waiting (position_of first) is_trailing).held, value_step))
      → Walks false (Some (place first, word)) (settled_rows s.rules (pend p) r)
      (stand (settled_rows s.rules (pend p) r) (Some (place first, word ∷ []))
      (calm (is_multiple (ready.places first).rule)) 2 is_trailing) rest o
      → Walks first p r (stand r (pend p) waiting (position_of first) is_trailing) (word ∷ rest)
      (with_part (positional word) o)
  positional_sim word rest first is_trailing waiting p r o is next =
      extend _ _ word rest _ (turns_positional r (pend p) waiting (position_of first) word first is_trailing refl is) _ _
      (positional word) o tt next (λ ps. joined_does p r ((place first, word) ∷ uses_of place false ps))

  -- a word between two parts
  module _ (word : Text) (rest : List Text) (next : (mode : Mode) → Sim mode rest) (first b : Bool) (p : Option Use)
      (r : List Row) where
    abbrev calmly : Walk
    calmly = stand r (pend p) (calm b) (position_of first) false

    plain_sim : NoFlag r (pend p) (calm b) (position_of first) word
        → Walks first p r calmly (word ∷ rest) (with_part (positional word) (clap_from between rest))
    plain_sim is = positional_sim word rest first false (calm b) p r (clap_from between rest)
        (is.met ∙ ap (λ t. ([], t)) (calm_plain s.rules b word calmly.held))
        (next between false (is_multiple (ready.places first).rule) (Some (place first, word)) (settled_rows s.rules (pend p) r))

    long_sim : (name : Text) → LongMet s name → (v : Option Text) → IsLong word name v
        → Walks first p r calmly (word ∷ rest)
        (read_kind word (if is_name name then option_kind name v else misfit) (λ mode. clap_from mode rest))
    long_sim name (no_long n f) v l = rw n (fails_now calmly word rest
        (long_fails r (pend p) (calm b) (position_of first) word name v l (λ is. absurd (both_ways _ n is))))
    long_sim name (takes_long a n e t) None l = rw n (later calmly _ word rest _ (turns_begins _ _ _ _ word name a l e t) _ _
        (clap_from (value name) rest) (next (value name) a n t first (settled_rows s.rules (pend p) r))
        (λ ps. joined_does p r (uses_of place first ps)))
    long_sim name (takes_long a n e t) (Some v) l = rw n (extend calmly _ word rest _
        (turns_whole _ _ _ _ word name v a l e t) _ _ (option name v) (clap_from between rest) n
        (next between first false None (used a (v ∷ []) (settled_rows s.rules (pend p) r)))
        (λ ps. one_use name a t p r v (uses_of place first ps)))

    between_sim : Seen word → Walks first p r calmly (word ∷ rest) (clap_from between (word ∷ rest))
    between_sim (seen_ends e k) = rw k (later calmly _ word rest _ (turns_ends _ _ _ _ word e) _ _ (clap_from ended rest)
        (next ended first (calm b) p r) (λ ps. refl))
    between_sim (seen_long name v l) = rw l.kind (long_sim name (ready.long name) v l)
    between_sim (seen_flags x xs c f has k) = rw k (fails_now calmly word rest
        (flags_fail r (pend p) (calm b) (position_of first) word x xs c f has))
    between_sim (seen_bytes x xs f none k) = rw k (plain_sim (bytes_no_flag _ _ _ _ word x xs f none))
    between_sim (seen_plain f k) = rw k (plain_sim (plain_no_flag _ _ _ _ word f))

  -- the word after the name of an option
  module _ (word : Text) (rest : List Text) (next : (mode : Mode) → Sim mode rest) (name : Text) (a : Rule)
      (n : is_name name ≡ true) (t : TakesOne s name a) (first : Bool) (r : List Row) where
    abbrev starving : Walk
    starving = stand r (Some (name, [])) (wants name) (position_of first) false

    value_word_sim : NoFlag r (Some (name, [])) (wants name) (position_of first) word
        → Walks first None r starving (word ∷ rest) (with_part (option name word) (clap_from between rest))
    value_word_sim is = extend starving _ word rest _ (turns_value _ _ _ _ word name a t refl refl is) _ _
        (option name word) (clap_from between rest) n (next between first false (Some (name, word)) r) (λ ps. refl)

    no_value : (n : Bool) (other : Text) (v : Option Text) (o : Option (List Part))
        → value_kind name word (if n then option_kind other v else misfit) o ≡ None
    no_value true other None o = refl
    no_value true other (Some v) o = refl
    no_value false other v o = refl

    value_sim : Seen word → Walks first None r starving (word ∷ rest) (clap_from (value name) (word ∷ rest))
    value_sim (seen_ends e k) = rw k (fails_later starving _ word rest _ (turns_ends _ _ _ _ word e)
        (starved_ends name a t first r rest))
    value_sim (seen_long other v l) = rw (l.kind, no_value (is_name other) other v (clap_from between rest))
        (fails_now starving word rest
        (long_fails r (Some (name, [])) (wants name) (position_of first) word other v l (λ n. starved name a t r)))
    value_sim (seen_flags x xs c f has k) = rw k (fails_now starving word rest
        (flags_fail r (Some (name, [])) (wants name) (position_of first) word x xs c f has))
    value_sim (seen_bytes x xs f none k) = rw k (value_word_sim (bytes_no_flag _ _ _ _ word x xs f none))
    value_sim (seen_plain f k) = rw k (value_word_sim (plain_no_flag _ _ _ _ word f))

  pub sim : (words : List Text) (mode : Mode) → Sim mode words
  unfolding walk_fault
  sim [] between = λ first b p r. at_end first (calm b) false p r
  sim [] (value name) = λ a n t first r. starved name a t r
  sim [] ended = λ first waiting p r. at_end first waiting true p r
  sim (word ∷ rest) between = λ first b p r. between_sim word rest (sim rest) first b p r (seen word)
  sim (word ∷ rest) (value name) = λ a n t first r. value_sim word rest (sim rest) name a n t first r (seen word)
  sim (word ∷ rest) ended = λ first waiting p r. positional_sim word rest first true waiting p r (clap_from ended rest) refl
      (sim rest ended false (calm (is_multiple (ready.places first).rule)) (Some (place first, word))
      (settled_rows s.rules (pend p) r))
