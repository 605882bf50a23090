-- From reading to what a parse says.
use Rattle.dl_parser.proofs.Common.{◌≡◌, ℕ, zero, suc, ◌+◌, ◌≤◌, ◌<◌, Bool, true, false, cond, ◌&&◌, List, [], ◌∷◌, ◌++◌, length, take, drop, refl, sym, ap, ◌∙◌, subst, ◌⊎◌, inl, inr, arith, append_assoc, length-append, All, append-nil, All-nil, All-cons, and_parts, Kind, Word, Lexeme, IsReal, Spells, end_of, numeral, name, note, limit, layer, reference, side, count, zero_change, freq, claims, premium, common, head, item, next_item, items, list, atom, weighted, mixture, cost, sev, defined, sevdef, cession, next_cession, layers, clause, ratio, exposure, loss, ending, closing, exposed, listed, counted, body, unit, units, book, token_of, token_kind, token_real, State, Outcome, got, stuck, same_kind, among, begins, watched, read, apart, plain, nat_tests, common_steps, cases_lt, Program, Begins, Viable, Stops, continuous, IsContinuous, IsRefused}
use Rattle.dl_lexer.specs.declared.token.Keyword.TheVariants as words
use Rattle.dl_ast.specs.Grammar.{program}
use Rattle.dl_parser.specs.Factored as factored
use Rattle.dl_parser.specs.declared.syntax.ParseFault.TheVariants as faults
use Rattle.dl_parser.proofs.Sets.{same_is, same_self, apart_at, among_contains, contains_among}
use Rattle.dl_parser.proofs.ReadsBack.{whole}
use Rattle.dl_parser.proofs.Took.{pend_settled, took, Took, Alike}
use Rattle.dl_parser.proofs.Stopped.{nothing_on, stopped, Stopped}
use Rattle.dl_parser.proofs.Written.{program_alike}

abbrev at_start : List Lexeme → State
at_start ts = record { end = 0; rest = ts }

-- a program's tokens are read as that program, to their end
reads_all : (p : Program) (ts : List Lexeme) → Spells program p ts
    → read factored.program (at_start ts) ≡ got p (record { end = end_of 0 ts; rest = [] })
reads_all p ts s = ap (λ zs. read factored.program (at_start zs)) (sym (append-nil ts))
    ∙ whole factored.program plain.whole p ts [] 0 (program_alike.from p ts s) (nothing_on factored.program)

front_is : (us rest : List Lexeme) → take (length us) (us ++ rest) ≡ us
front_is [] rest = refl
front_is (u ∷ us) rest = ap (λ zs. u ∷ zs) (front_is us rest)

back_is : (us rest : List Lexeme) → drop (length us) (us ++ rest) ≡ rest
back_is [] rest = refl
back_is (u ∷ us) rest = back_is us rest

-- what begins further
beyond : (us rest : List Lexeme) (j : ℕ) → length us < j → j ≤ length (us ++ rest)
    → (t : Lexeme) × (others : List Lexeme) × (mid : List Lexeme) × (rest ≡ t ∷ others) ×
    (take j (us ++ rest) ≡ us ++ t ∷ mid)
beyond us rest zero h le = absurd (omega arith)
beyond [] [] (suc j) h le = absurd (omega arith)
beyond [] (t ∷ others) (suc j) h le = (t, others, take j others, refl, refl)
beyond (u ∷ us) rest (suc j) h le = grind (arith, nat_tests, common_steps, beyond us rest j (omega arith) (omega arith))

same_head : (ks : List Kind) (rest : List Lexeme) (t : Lexeme) (others z : List Lexeme) → rest ≡ t ∷ others
    → Alike ks rest (t ∷ z)
same_head ks rest t others z e k m = ap (begins (k ∷ [])) e

-- no program goes on behind some tokens as the rest does
abbrev Ends : List Lexeme → List Lexeme → Type 0
Ends us rest = (t : Lexeme) (others mid : List Lexeme) (p : Program) → rest ≡ t ∷ others
    → Spells program p (us ++ t ∷ mid) → ⊥

none_beyond : (us rest : List Lexeme) → Ends us rest → (j : ℕ) → j ≤ length (us ++ rest) → Viable (us ++ rest) j
    → (length us < j) ⊎ (j ≤ length us) → j ≤ length us
none_beyond us rest ends j le b (inr h) = h
none_beyond us rest ends j le b (inl h) =
    let f = beyond us rest j h le in
    absurd (ends f.0 f.1 (f.2 ++ b.rest) b.begun f.3
    (subst (Spells program b.begun) (ap (λ zs. zs ++ b.rest) f.4 ∙ append_assoc us (f.0 ∷ f.2) b.rest) b.spelled))

-- the greatest number
stops_at : (us rest : List Lexeme) → ((p : Program) → Spells program p (us ++ rest) → ⊥) → Begins us → Ends us rest
    → Stops (us ++ rest) (length us)
stops_at us rest none v ends = record {
  unspelled = none;
  within = omega (arith, length-append us rest);
  viable = rw (front_is us rest) v;
  greatest = λ j le b. none_beyond us rest ends j le b (cases_lt (length us) j);
}

differ : (b : Bool) → (c : Bool) → b ≡ c → (b ≡ true → ⊥) → b ≡ false
differ b true e f = absurd (f e)
differ b false e f = e

-- a kind of neither list is like another such kind
unlike : (ks : List Kind) (h k : Kind) → among h ks ≡ false → among k ks ≡ true → same_kind h k ≡ false
unlike ks h k f t = differ (same_kind h k) (same_kind h k) refl
    (λ e. let other : among h ks ≡ true = subst (λ i. among i ks ≡ true) (sym (same_is h k e)) t in cc)

-- no test tells a continuous word from dhistogram
apart_words : apart continuous (watched factored.program) ≡ true
unfolding factored.program numeral name note item next_item items list limit layer atom weighted mixture reference
    cost sev defined sevdef cession side next_cession layers clause count zero_change freq claims premium ratio exposure
    loss ending closing exposed listed counted body unit common head units book
apart_words = refl

not_watched : among (Word words.Dhistogram) (watched factored.program) ≡ false
unfolding factored.program numeral name note item next_item items list limit layer atom weighted mixture reference
    cost sev defined sevdef cession side next_cession layers clause count zero_change freq claims premium ratio exposure
    loss ending closing exposed listed counted body unit common head units book
not_watched = refl

apart_kinds : (js ks : List Kind) (h k : Kind) → apart js ks ≡ true → among h js ≡ true → among k ks ≡ true
    → same_kind h k ≡ false
apart_kinds js ks h k d m n = differ (same_kind h k) (same_kind h k) refl
    (λ e. let here : among k js ≡ true = subst (λ i. among i js ≡ true) (same_is h k e) m in
    let not : among k js ≡ false = apart_at js ks k d n in cc)

-- no test tells the tokens that are left from dhistogram
alike_continuous : (rest more : List Lexeme) (t : Lexeme) → begins continuous rest ≡ true
    → t.kind ≡ Word words.Dhistogram → Alike (watched factored.program) rest (t ∷ more)
alike_continuous [] more t c e k m = absurd cc
alike_continuous (h ∷ rest) more t c e k m =
    rw (
      apart_kinds continuous (watched factored.program) h.kind k apart_words c m,
      unlike
          (watched factored.program) t.kind k (ap (λ i. among i (watched factored.program)) e ∙ not_watched) m,
    ) refl

rest_of : Outcome Program → List Lexeme
rest_of (got p q) = q.rest
rest_of (stuck k q) = q.rest

rest_got : (p : Program) (q : State) → rest_of (got p q) ≡ q.rest
unfolding rest_of
rest_got p q = refl

two_rests : (p x : Program) (q s : State) → got p q ≡ got x s → q.rest ≡ s.rest
two_rests p x q s e = sym (rest_got p q) ∙ ap rest_of e ∙ rest_got x s

-- the word of a continuous severity stands there
continues : (us rest : List Lexeme) → IsContinuous (us ++ rest) (length us) → begins continuous rest ≡ true
continues us rest c =
    ap (begins continuous) (sym (back_is us rest) ∙ c.here) ∙ among_contains continuous c.word.kind c.continues

-- a program goes on with dhistogram
goes_on_with : (us rest : List Lexeme) → (c : IsContinuous (us ++ rest) (length us)) → Begins (us ++ c.discrete ∷ [])
goes_on_with us rest c = subst (λ zs. Begins (zs ++ c.discrete ∷ [])) (front_is us rest) c.viable

-- a program, and then other tokens
trailing : (us rest : List Lexeme) (x : Program) (q : State) → q.rest ≡ rest → 0 < length rest → Spells program x us
    → read factored.program (at_start (us ++ rest)) ≡ got x q
    → ((z : List Lexeme) → Alike (watched factored.program) rest z
    → read factored.program (record { end = 0; rest = us ++ z }) ≡ got x (record { end = q.end; rest = z }))
    → IsRefused (us ++ rest) (faults.Syntax (length us))
trailing us rest x q e some sp r stays =
    let over : (t : Lexeme) (more : List Lexeme) (p : Program) → Alike (watched factored.program) rest (t ∷ more)
    → Spells program p (us ++ t ∷ more) → ⊥ =
    λ t more p h s. let two : t ∷ more ≡ [] =
    two_rests x p _ _ (sym (stays (t ∷ more) h) ∙ reads_all p (us ++ t ∷ more) s) in cc in (
      stops_at us rest
          (λ p s. let two : q.rest ≡ [] = two_rests x p q _ (sym r ∙ reads_all p (us ++ rest) s) in
          omega (arith, ap length (sym e ∙ two)))
          (record { rest = []; real = All-nil IsReal; begun = x; spelled = rw append-nil sp })
          (λ t others mid p h s. over t mid p (same_head (watched factored.program) rest t others mid h) s),
      λ c.
          let b : Begins (us ++ c.discrete ∷ []) = goes_on_with us rest c in
          over c.discrete b.rest b.begun (alike_continuous rest b.rest c.discrete (continues us rest c) c.dhistogram)
          (rw append_assoc at b.spelled),
    )

-- tokens that go on in no program
stuck_not : (us rest : List Lexeme) (k : Kind) (q : State) → read factored.program (at_start (us ++ rest)) ≡ stuck k q
    → (p : Program) → Spells program p (us ++ rest) → ⊥
stuck_not us rest k q r p s = let two : stuck k q ≡ got p _ = sym r ∙ reads_all p (us ++ rest) s in cc

abbrev Goes : List Lexeme → Kind → Type 0
Goes us k = (t : Lexeme) → t.kind ≡ k → (after : List Lexeme) × (x : Program) × Spells program x (us ++ t ∷ after)
    × All IsReal after

abbrev Stays : List Lexeme → List Lexeme → Kind → State → Type 0
Stays us rest k q = (z : List Lexeme) → Alike (watched factored.program) rest z → begins (k ∷ []) z ≡ false
    → read factored.program (record { end = 0; rest = us ++ z }) ≡ stuck k (record { end = q.end; rest = z })

stuck_over : (us rest : List Lexeme) (k : Kind) (q : State) → Stays us rest k q
    → (t : Lexeme) (more : List Lexeme) (p : Program) → Alike (watched factored.program) rest (t ∷ more)
    → begins (k ∷ []) (t ∷ more) ≡ false
    → Spells program p (us ++ t ∷ more) → ⊥
stuck_over us rest k q stays t more p h f s = grind (arith, nat_tests, common_steps, reads_all p (us ++ t ∷ more) s)

-- a real token of the wanted kind goes on
begun_by : (us : List Lexeme) (k : Kind) → Goes us k → Begins (us ++ token_of k ∷ [])
begun_by us k goes =
    let g = goes (token_of k) (token_kind k) in
    record { rest = g.0; real = g.3; begun = g.1; spelled = rw append_assoc g.2 }

stuck_stops : (us rest : List Lexeme) (k : Kind) (q : State) → begins (k ∷ []) rest ≡ false
    → read factored.program (at_start (us ++ rest)) ≡ stuck k q → Goes us k → Stays us rest k q
    → Stops (us ++ rest) (length us)
stuck_stops us rest k q f r goes stays =
    let g = goes (token_of k) (token_kind k) in
    stops_at us rest (stuck_not us rest k q r)
    (record {
      rest = token_of k ∷ g.0;
      real = All-cons IsReal (token_of k) g.0 (token_real k) g.3;
      begun = g.1;
      spelled = g.2;
    })
    (λ t others mid p h s. stuck_over us rest k q stays t mid p
    (same_head (watched factored.program) rest t others mid h) (sym (ap (begins (k ∷ [])) h) ∙ f) s)

-- what stands first, where one of these kinds does
head_of : (ks : List Kind) (rest : List Lexeme) → begins ks rest ≡ true
    → (t : Lexeme) × (others : List Lexeme) × (rest ≡ t ∷ others) × (among t.kind ks ≡ true)
head_of ks [] h = absurd cc
head_of ks (t ∷ others) h = (t, others, refl, h)

stuck_continuous : (us rest : List Lexeme) (k : Kind) → k ≡ Word words.Dhistogram → begins continuous rest ≡ true
    → Goes us k → IsContinuous (us ++ rest) (length us)
stuck_continuous us rest k e c goes =
    let h = head_of continuous rest c in
    record {
      word = h.0;
      others = h.1;
      here = back_is us rest ∙ h.2;
      continues = contains_among continuous h.0.kind h.3;
      discrete = token_of k;
      dhistogram = token_kind k ∙ e;
      real = token_real k;
      viable = subst (λ zs. Begins (zs ++ token_of k ∷ [])) (sym (front_is us rest)) (begun_by us k goes);
    }

and_left : (b c : Bool) → (b && c) ≡ false → c ≡ true → b ≡ false
and_left false c h e = refl
and_left true c h e = cc

not_continuous : (us rest : List Lexeme) (k : Kind) (q : State) → Stays us rest k q
    → (same_kind k (Word words.Dhistogram) && begins continuous rest) ≡ false → IsContinuous (us ++ rest) (length us)
    → ⊥
not_continuous us rest k q stays n c =
    let t : Lexeme = c.discrete in
    let b : Begins (us ++ t ∷ []) = goes_on_with us rest c in
    let here : begins continuous rest ≡ true = continues us rest c in
    let other : same_kind k (Word words.Dhistogram) ≡ false = and_left _ _ n here in
    stuck_over us rest k q stays t b.rest b.begun (alike_continuous rest b.rest t here c.dhistogram)
    (rw (differ (same_kind t.kind k) (same_kind t.kind k) refl
    (λ e. let same : same_kind k (Word words.Dhistogram) ≡ true = same_self k (Word words.Dhistogram)
    (sym (same_is t.kind k e) ∙ c.dhistogram) in cc)) refl)
    (rw append_assoc at b.spelled)

stuck_refused : (us rest : List Lexeme) (k : Kind) (q : State) → begins (k ∷ []) rest ≡ false
    → read factored.program (at_start (us ++ rest)) ≡ stuck k q → Goes us k → Stays us rest k q
    → (b : Bool) → (same_kind k (Word words.Dhistogram) && begins continuous rest) ≡ b
    → IsRefused (us ++ rest) (cond b (faults.Continuous (length us)) (faults.Syntax (length us)))
stuck_refused us rest k q f r goes stays true e =
    grind (arith, stuck_stops us rest k q f r goes stays, stuck_continuous, same_is, and_parts)
stuck_refused us rest k q f r goes stays false e =
    (stuck_stops us rest k q f r goes stays, not_continuous us rest k q stays e)

-- the three ends of a parse

pub read_whole : (ts : List Lexeme) (x : Program) (q : State) → read factored.program (at_start ts) ≡ got x q
    → q.rest ≡ [] → Spells program x ts
read_whole ts x q r e =
    let t : Took factored.program (at_start ts) x q = took factored.program plain.whole (at_start ts) q x r in
    let same : ts ≡ t.0 = t.1 ∙ ap (λ zs. t.0 ++ zs) e ∙ append-nil t.0 in
    subst (Spells program x) (sym same) (program_alike.to x t.0 t.3)

pub read_further : (ts : List Lexeme) (x : Program) (q : State) (n : ℕ) → read factored.program (at_start ts) ≡ got x q
    → 0 < length q.rest → n + length q.rest ≡ length ts → IsRefused ts (faults.Syntax n)
read_further ts x q n r some e =
    let t : Took factored.program (at_start ts) x q = took factored.program plain.whole (at_start ts) q x r in
    let count : n ≡ length t.0 = omega (arith, e, ap length t.1, length-append t.0 q.rest) in
    subst (λ m. IsRefused ts (faults.Syntax m)) (sym count)
    (subst (λ zs. IsRefused zs (faults.Syntax (length t.0))) (sym t.1)
    (trailing t.0 q.rest x q refl some (program_alike.to x t.0 t.3)
    (subst (λ zs. read factored.program (at_start zs) ≡ got x q) t.1 r)
    (λ z h. t.4 z h (pend_settled factored.program q.rest z plain.settled))))

pub read_stuck : (ts : List Lexeme) (k : Kind) (q : State) (n : ℕ) → read factored.program (at_start ts) ≡ stuck k q
    → n + length q.rest ≡ length ts
    → IsRefused ts (cond (same_kind k (Word words.Dhistogram) && begins continuous q.rest) (faults.Continuous n)
    (faults.Syntax n))
read_stuck ts k q n r e =
    let s : Stopped factored.program (at_start ts) k q = stopped factored.program plain.whole (at_start ts) q k r in
    let count : n ≡ length s.0 = omega (arith, e, ap length s.1, length-append s.0 q.rest) in
    let b : Bool = same_kind k (Word words.Dhistogram) && begins continuous q.rest in
    subst (λ m. IsRefused ts (cond b (faults.Continuous m) (faults.Syntax m))) (sym count)
    (subst (λ zs. IsRefused zs (cond b (faults.Continuous (length s.0)) (faults.Syntax (length s.0)))) (sym s.1)
    (stuck_refused s.0 q.rest k q s.2 (subst (λ zs. read factored.program (at_start zs) ≡ stuck k q) s.1 r)
    (λ t g. let m = s.3 t g in (m.0, m.1, program_alike.to m.1 (s.0 ++ t ∷ m.0) m.2, m.3)) s.4 b refl))

-- the same tokens spell no other program
pub one_program : (p q : Program) (ts : List Lexeme) → Spells program p ts → Spells program q ts → p ≡ q
one_program p q ts s t = let two : got p _ ≡ got q _ = sym (reads_all p ts s) ∙ reads_all q ts t in cc

-- what is left is no longer than all
pub left_got : (ts : List Lexeme) (x : Program) (q : State) → read factored.program (at_start ts) ≡ got x q
    → length q.rest ≤ length ts
left_got ts x q r = let t : Took factored.program (at_start ts) x q =
    took factored.program plain.whole (at_start ts) q x r in omega (arith, ap length t.1, length-append t.0 q.rest)

pub left_stuck : (ts : List Lexeme) (k : Kind) (q : State) → read factored.program (at_start ts) ≡ stuck k q
    → length q.rest ≤ length ts
left_stuck ts k q r = let s : Stopped factored.program (at_start ts) k q =
    stopped factored.program plain.whole (at_start ts) q k r in omega (arith, ap length s.1, length-append s.0 q.rest)

-- tokens stop at one place
pub one_stop : (ts : List Lexeme) (j k : ℕ) → Stops ts j → Stops ts k → j ≡ k
one_stop ts j k a b = omega (arith, a.greatest k b.within b.viable, b.greatest j a.within a.viable)
