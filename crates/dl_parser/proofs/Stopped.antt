-- Where reading stops, the tokens so far go on with a token of the wanted kind and with no other.
use Rattle.dl_parser.proofs.Common.{◌≡◌, ℕ, zero, suc, ◌≤◌, ◌<◌, Bool, true, false, cond, ◌||◌, ◌⊎◌, List, [], ◌∷◌, ◌++◌, length, Some, None, refl, sym, ap, ◌∙◌, subst, inl, inr, arith, append_assoc, append-nil, Kind, All, All-nil, Lexeme, IsReal, token_of, token_kind, token_real, Rule, one, ◌▸◌, ◌or◌, maybe, many, unless, made, node, Each, Spells, end_of, span_of, State, Outcome, got, stuck, ◌>>=◌, same_kind, among, begins, start_of, is_empty, first, watched, two_at, enters, is_settled, goes_on, one_at, repeat, read, is_plain, and_parts, or_parts, All-append}
use Rattle.dl_parser.proofs.Sets.{same_is, among_append}
use Rattle.dl_parser.proofs.Starts.{bind_stuck, chosen, no_append}
use Rattle.dl_parser.proofs.ReadsBack.{bind_of, is_no, whole}
use Rattle.dl_parser.proofs.Took.{Pend, pend_behind, pend_settled, alike_two, test_two, two_behind, Alike, Took, alike_left, alike_right, alike_with, fewer, in_parts, one_more, shorter, test_same, by_either, took}

-- where reading stops, the tokens before go on with a token of the wanted kind, and with none that the tests take for
-- another

abbrev pub Stopped : {X : Type 0} → Rule X → State → Kind → State → Type 0
Stopped {X} r p k q = (ts : List Lexeme) × (p.rest ≡ ts ++ q.rest) × (begins (k ∷ []) q.rest ≡ false)
    × ((t : Lexeme) → t.kind ≡ k → (after : List Lexeme) × (x : X) × Spells r x (ts ++ t ∷ after) × All IsReal after)
    × ((z : List Lexeme) → Alike (watched r) q.rest z → begins (k ∷ []) z ≡ false
    → read r (record { end = p.end; rest = ts ++ z }) ≡ stuck k (record { end = q.end; rest = z }))

abbrev StoppedBy : {X : Type 0} → Rule X → State → Outcome X → Type 0
StoppedBy r p (got x q) = Unit {0}
StoppedBy r p (stuck k q) = Stopped r p k q

-- something that the rule spells, by real tokens
sample : {X : Type 0} (r : Rule X) → (x : X) × (ts : List Lexeme) × Spells r x ts × All IsReal ts
sample (one k) = grind (arith, token_of k, token_kind k, token_real k)
sample (a ▸ b) = let s = sample a in let t =
    sample b in ((s.0, t.0), s.1 ++ t.1, (s.1, t.1, refl, s.2, t.2), All-append IsReal s.1 t.1 s.3 t.3)
sample (a or b) = let s = sample a in (s.0, s.1, inl s.2, s.3)
sample (maybe a) = (None, [], refl, All-nil IsReal)
sample (many a) = ([], [], refl, All-nil IsReal)
sample (unless j k a) = (None, [], refl, All-nil IsReal)
sample (made f a) = let s = sample a in (f s.0, s.1, (s.0, refl, s.2), s.3)
sample (node f a) = let s = sample a in (f s.0 (span_of s.1), s.1, (s.0, refl, s.2), s.3)

either_true : (b c : Bool) → (b || c) ≡ true → (b ≡ true) ⊎ (c ≡ true)
either_true true c h = inl refl
either_true false c h = inr h

among_if : (k : Kind) (b : Bool) (ks : List Kind) → among k (cond b ks []) ≡ true → among k ks ≡ true
among_if k true ks h = h
among_if k false ks h = absurd (cc (h))

entered : (b c : Bool) → cond b false c ≡ true → c ≡ true
entered true c h = cc
entered false c h = h

-- nothing goes on where there is nothing
pub nothing_on : {X : Type 0} (r : Rule X) → goes_on r [] ≡ false
nothing_on (one k) = refl
nothing_on (a ▸ b) = grind (arith, nothing_on a, nothing_on b)
nothing_on (a or b) = rw (nothing_on a, nothing_on b) refl
nothing_on (maybe a) = nothing_on a
nothing_on (many a) = nothing_on a
nothing_on (unless j k a) = nothing_on a
nothing_on (made f a) = nothing_on a
nothing_on (node f a) = nothing_on a

empty_sample : {X : Type 0} (r : Rule X) → is_empty r ≡ true → (x : X) × Spells r x []
empty_sample (one k) h = absurd cc
empty_sample (a ▸ b) h = let p = and_parts (is_empty a) (is_empty b) h in let s = empty_sample a p.0 in let t = empty_sample b p.1 in ((s.0, t.0), ([], [], refl, s.1, t.1))
empty_sample (a or b) h = elim (either_true (is_empty a) (is_empty b) h) [ inl g ↦ let s = empty_sample a g in (s.0, inl s.1) | inr g ↦ let s = empty_sample b g in (s.0, inr s.1) ]
empty_sample (maybe a) h = (None, refl)
empty_sample (many a) h = ([], refl)
empty_sample (unless j k a) h = (None, refl)
empty_sample (made f a) h = let s = empty_sample a h in (f s.0, (s.0, refl, s.1))
empty_sample (node f a) h = let s = empty_sample a h in (f s.0 (span_of []), (s.0, refl, s.1))

-- each first kind begins a spelling
abbrev Begun : {X : Type 0} → Rule X → Lexeme → Type 0
Begun {X} r t = (x : X) × (after : List Lexeme) × Spells r x (t ∷ after)

begun_behind : {A B : Type 0} (a : Rule A) (b : Rule B) (t : Lexeme) → Begun b t → (e : Bool) → is_empty a ≡ e → among t.kind (cond e (first b) []) ≡ true → Begun (a ▸ b) t
begun_behind a b t s true e h = let none = empty_sample a e in ((none.0, s.0), s.1, ([], t ∷ s.1, refl, none.1, s.2))
begun_behind a b t s false e h = absurd (cc (h))

begun : {X : Type 0} (r : Rule X) (t : Lexeme) → among t.kind (first r) ≡ true → Begun r t
begun (one k) t h = elim (either_true (same_kind t.kind k) false h) [ inl g ↦ (t, [], (same_is t.kind k g, refl)) | inr g ↦ absurd (cc (g)) ]
begun (a ▸ b) t h = elim (either_true (among t.kind (first a)) (among t.kind (cond (is_empty a) (first b) [])) (sym (among_append t.kind (first a) _) ∙ h)) [
  | inl g ↦ let s = begun a t g in let u = sample b in ((s.0, u.0), s.1 ++ u.1, (t ∷ s.1, u.1, refl, s.2, u.2))
  | inr g ↦ begun_behind a b t (begun b t (among_if t.kind (is_empty a) (first b) g)) (is_empty a) refl g
]
begun (a or b) t h = elim (either_true (among t.kind (first a)) (among t.kind (first b)) (sym (among_append t.kind (first a) (first b)) ∙ h)) [
  | inl g ↦ let s = begun a t g in (s.0, s.1, inl s.2)
  | inr g ↦ let s = begun b t g in (s.0, s.1, inr s.2)
]
begun (maybe a) t h = let s = begun a t h in (Some s.0, s.1, s.2)
begun (many a) t h = let s = begun a t h in (s.0 ∷ [], s.1, (t ∷ s.1, [], sym (append-nil (t ∷ s.1)), s.2, refl))
begun (unless j k a) t h = let s = begun a t h in (Some s.0, s.1, s.2)
begun (made f a) t h = let s = begun a t h in (f s.0, s.1, (s.0, refl, s.2))
begun (node f a) t h = let s = begun a t h in (f s.0 (span_of (t ∷ s.1)), s.1, (s.0, refl, s.2))

no_two : {X : Type 0} (o : Outcome X) (k : Kind) (q : State) (x : X) (s : State) → o ≡ stuck k q → o ≡ got x s → ⊥
no_two (got y r) k q x s e f = cc
no_two (stuck i r) k q x s e f = cc

-- where the next token may begin it, reading doesn't stop there
not_at_once : {X : Type 0} (r : Rule X) → is_plain r ≡ true → (at : ℕ) (k : Kind) (q : State) (rest : List Lexeme) → begins (first r) rest ≡ true → begins (k ∷ []) rest ≡ false
    → ((z : List Lexeme) → Alike (watched r) rest z → begins (k ∷ []) z ≡ false → read r (record { end = at; rest = z }) ≡ stuck k (record { end = q.end; rest = z })) → ⊥
not_at_once r ok at k q [] b f stays = cc
not_at_once {X} r ok at k q (t ∷ rest) b f stays =
    let s = begun r t b in
    let here : read r (record { end = at; rest = t ∷ s.1 }) ≡ got s.0 (record { end = end_of at (t ∷ s.1); rest = [] }) =
    ap (λ zs. read r (record { end = at; rest = zs })) (sym (append-nil (t ∷ s.1))) ∙ whole r ok s.0 (t ∷ s.1) [] at s.2 (nothing_on r) in
    let there : read r (record { end = at; rest = t ∷ s.1 }) ≡ stuck k (record { end = q.end; rest = t ∷ s.1 }) = stays (t ∷ s.1) (λ i m. refl) f in
    no_two (read r (record { end = at; rest = t ∷ s.1 })) k (record { end = q.end; rest = t ∷ s.1 }) s.0 (record { end = end_of at (t ∷ s.1); rest = [] }) there here

stopped_some : {X : Type 0} (r : Rule X) → is_plain r ≡ true → (p q : State) (k : Kind) → begins (first r) p.rest ≡ true → (s : Stopped r p k q) → s.0 ≡ [] → ⊥
stopped_some r ok p q k b s e =
    let same : p.rest ≡ q.rest = s.1 ∙ ap (λ zs. zs ++ q.rest) e in
    not_at_once r ok p.end k q q.rest (sym (ap (begins (first r)) same) ∙ b) s.2
    (λ z h f. ap (λ zs. read r (record { end = p.end; rest = zs ++ z })) (sym e) ∙ s.4 z h f)

pend_started : {X : Type 0} (r : Rule X) (ts us vs : List Lexeme) → (ts ≡ [] → ⊥) → Alike (watched r) us vs → Pend r (ts ++ us) (ts ++ vs)
pend_started r [] us vs h g = absurd (h refl)
pend_started r (t ∷ ts) us vs h g = pend_behind r t ts us vs g

two_started : (j k : Kind) (ts us vs : List Lexeme) → (ts ≡ [] → ⊥) → begins (k ∷ []) us ≡ begins (k ∷ []) vs → two_at j k (ts ++ us) ≡ two_at j k (ts ++ vs)
two_started j k [] us vs h g = absurd (h refl)
two_started j k (t ∷ ts) us vs h g = two_behind j k t ts us vs g

enters_begins : (j k : Kind) (ks : List Kind) (ts : List Lexeme) → enters j k ks ts ≡ true → begins ks ts ≡ true
enters_begins j k ks ts h = entered (two_at j k ts) (begins ks ts) h

one_stays : (k : Kind) (at : ℕ) (z : List Lexeme) → begins (k ∷ []) z ≡ false
    → one_at k at z ≡ stuck k (record { end = at; rest = z })
one_stays k at [] h = refl
one_stays k at (t ∷ z) h = rw (or_parts (same_kind t.kind k) false h).0 refl

stopped_none : (j : Kind) (at : ℕ) (ts : List Lexeme) → begins (j ∷ []) ts ≡ false
    → Stopped (one j) (record { end = at; rest = ts }) j (record { end = at; rest = ts })
stopped_none j at ts h = ([], refl, h, λ t e. ([], t, (e, refl), All-nil IsReal), λ z g i. one_stays j at z i)

stopped_one : (j : Kind) (at : ℕ) (ts : List Lexeme) (k : Kind) (q : State) → one_at j at ts ≡ stuck k q
    → Stopped (one j) (record { end = at; rest = ts }) k q
stopped_one j at [] k q e = subst (StoppedBy (one j) (record { end = at; rest = [] })) e (stopped_none j at [] refl)
stopped_one j at (t ∷ ts) k q e = elim (chosen (same_kind t.kind j) _ _ _ e) [
  | inl c ↦ absurd cc
  | inr c ↦ subst (StoppedBy (one j) (record { end = at; rest = t ∷ ts })) c.1
      (stopped_none j at (t ∷ ts) (rw (c.0) refl))
]

stopped_front : {A B : Type 0} (a : Rule A) (b : Rule B) (p q : State) (k : Kind) → Stopped a p k q
    → Stopped (a ▸ b) p k q
stopped_front a b p q k s =
    let tail = sample b in (
      s.0,
      s.1,
      s.2,
      λ t e. let m = s.3 t e in (
        m.0 ++ tail.1,
        (m.1, tail.0),
        (s.0 ++ t ∷ m.0, tail.1, sym (append_assoc s.0 (t ∷ m.0) tail.1), m.2, tail.2),
        All-append IsReal m.0 tail.1 m.3 tail.3,
      ),
      λ z h i. ap (λ (o : Outcome _). o >>= λ x q. read b q >>= λ y s. got (x, y) s)
          (s.4 z (alike_left (watched a) (watched b) q.rest z h) i),
    )

stopped_behind : {A B : Type 0} (a : Rule A) (b : Rule B) (p s q : State) (x : A) (k : Kind)
    → is_settled a ≡ true → Took a p x s → Stopped b s k q → Stopped (a ▸ b) p k q
stopped_behind a b p s q x k still ta sb = (
  ta.0 ++ sb.0,
  in_parts ta.0 sb.0 s.rest p.rest q.rest ta.1 sb.1,
  sb.2,
  λ t e. let m = sb.3 t e in (m.0, (x, m.1), (ta.0, sb.0 ++ t ∷ m.0, append_assoc ta.0 sb.0 (t ∷ m.0), ta.3, m.2), m.3),
  λ z h i. ap (λ zs. read (a ▸ b) (record { end = p.end; rest = zs })) (append_assoc ta.0 sb.0 z)
      ∙ bind_of _ _ x _ _ (ta.4 (sb.0 ++ z) (alike_with (watched a) sb.0 q.rest z s.rest sb.1
      (alike_left (watched a) (watched b) q.rest z h)) (pend_settled a _ _ still))
      (ap (λ (o : Outcome _). o >>= λ y s. got (x, y) s) (sb.4 z (alike_right (watched a) (watched b) q.rest z h) i)),
)

-- another rule that the same tokens begin
stopped_by : {A B : Type 0} (a : Rule A) (b : Rule B) (p q : State) (k : Kind) (s : Stopped a p k q)
    → ((x : A) (ts : List Lexeme) → Spells a x ts → (y : B) × Spells b y ts)
    → ((z : List Lexeme) → Alike (watched b) q.rest z → begins (k ∷ []) z ≡ false
    → read b (record { end = p.end; rest = s.0 ++ z }) ≡ stuck k (record { end = q.end; rest = z }))
    → Stopped b p k q
stopped_by a b p q k s on same = (
  s.0,
  s.1,
  s.2,
  λ t e. let m = s.3 t e in let n = on m.1 (s.0 ++ t ∷ m.0) m.2 in (m.0, n.0, n.1, m.3),
  same,
)

stopped_left : {A : Type 0} (a b : Rule A) (p q : State) (k : Kind) → begins (first a) p.rest ≡ true → Stopped a p k q
    → Stopped (a or b) p k q
stopped_left a b p q k c s = stopped_by a (a or b) p q k s (λ x ts m. (x, inl m))
    (λ z h i. rw (test_same (first a) p q s.0 z true s.1 (alike_left (first a) (watched a ++ watched b) q.rest z h) c)
    (s.4 z (alike_left (watched a) (watched b) q.rest z
    (alike_right (first a) (watched a ++ watched b) q.rest z h)) i))

stopped_right : {A : Type 0} (a b : Rule A) (p q : State) (k : Kind) → begins (first a) p.rest ≡ false
    → Stopped b p k q → Stopped (a or b) p k q
stopped_right a b p q k c s = stopped_by b (a or b) p q k s (λ x ts m. (x, inr m))
    (λ z h i. rw (test_same (first a) p q s.0 z false s.1 (alike_left (first a) (watched a ++ watched b) q.rest z h) c)
    (s.4 z (alike_right (watched a) (watched b) q.rest z
    (alike_right (first a) (watched a ++ watched b) q.rest z h)) i))

stopped_maybe : {A : Type 0} (a : Rule A) (p q : State) (k : Kind) → begins (first a) p.rest ≡ true → Stopped a p k q
    → Stopped (maybe a) p k q
stopped_maybe a p q k c s = stopped_by a (maybe a) p q k s (λ x ts m. (Some x, m))
    (λ z h i. rw (test_same (first a) p q s.0 z true s.1 (alike_left (first a) (watched a) q.rest z h) c)
    (ap (λ (o : Outcome _). o >>= λ x q. got (Some x) q) (s.4 z (alike_right (first a) (watched a) q.rest z h) i)))

stopped_unless : {A : Type 0} (j i : Kind) (a : Rule A) → is_plain a ≡ true → (p q : State) (k : Kind)
    → enters j i (first a) p.rest ≡ true → Stopped a p k q → Stopped (unless j i a) p k q
stopped_unless j i a ok p q k c s = stopped_by a (unless j i a) p q k s (λ x ts m. (Some x, m))
    (λ z h f.
    let own : Alike (j ∷ i ∷ first a) q.rest z = alike_left (j ∷ i ∷ first a) (watched a) q.rest z h in
    rw (test_two j i (first a) p q s.0 z true s.1 own
    (two_started j i s.0 q.rest z (stopped_some a ok p q k (enters_begins j i (first a) p.rest c) s)
    (alike_two j i (first a) q.rest z own)) c)
    (ap (λ (o : Outcome _). o >>= λ x q. got (Some x) q)
    (s.4 z (alike_right (j ∷ i ∷ first a) (watched a) q.rest z h) f)))

abbrev StoppedEach : {A : Type 0} → Rule A → ℕ → State → Kind → State → Type 0
StoppedEach {A} a n p k q = (ts : List Lexeme) × (p.rest ≡ ts ++ q.rest) × (begins (k ∷ []) q.rest ≡ false)
    × ((t : Lexeme) → t.kind ≡ k → (after : List Lexeme) × (xs : List A) × Each (Spells a) xs (ts ++ t ∷ after)
    × All IsReal after)
    × ((z : List Lexeme) (m : ℕ) → length (ts ++ z) ≤ m → Alike (first a ++ watched a) q.rest z
    → begins (k ∷ []) z ≡ false → repeat (first a) (read a) m (record { end = p.end; rest = ts ++ z }) ≡ stuck k
    (record { end = q.end; rest = z }))
    × (ts ≡ [] → ⊥)

some_left : (ks : List Kind) (ts : List Lexeme) (m : ℕ) → begins ks ts ≡ true → length ts ≤ m → (n : ℕ) × (m ≡ suc n)
some_left ks [] m h le = absurd cc
some_left ks (t ∷ ts) zero h le = absurd (omega arith)
some_left ks (t ∷ ts) (suc n) h le = (n, refl)

-- at the first of them
stopped_first : {A : Type 0} (a : Rule A) → is_plain a ≡ true → (n : ℕ) (p q : State) (k : Kind) → begins (first a) p.rest ≡ true
    → Stopped a p k q → StoppedEach a n p k q
stopped_first a ok n p q k c s = (
  s.0,
  s.1,
  s.2,
  λ t e. let m = s.3 t e in (m.0, m.1 ∷ [], (s.0 ++ t ∷ m.0, [], sym (append-nil (s.0 ++ t ∷ m.0)), m.2, refl), m.3),
  λ z m le h i.
      let go : begins (first a) (s.0 ++ z) ≡ true =
      test_same (first a) p q s.0 z true s.1 (alike_left (first a) (watched a) q.rest z h) c in
      let some = some_left (first a) (s.0 ++ z) m go le in
      rw (some.1) (rw go (ap (λ (o : Outcome _). o >>= λ x q. repeat (first a) (read a) some.0 q >>= λ xs s. got
      (x ∷ xs) s) (s.4 z (alike_right (first a) (watched a) q.rest z h) i))),
  stopped_some a ok p q k c s,
)

stopped_later : {A : Type 0} (a : Rule A) → is_empty a ≡ false → (n : ℕ) (p s q : State) (x : A) (k : Kind)
    → begins (first a) p.rest ≡ true → Took a p x s → StoppedEach a n s k q → StoppedEach a (suc n) p k q
stopped_later a full n p s q x k c ta sb = (
  ta.0 ++ sb.0,
  in_parts ta.0 sb.0 s.rest p.rest q.rest ta.1 sb.1,
  sb.2,
  λ t e. let m = sb.3 t e in (m.0, x ∷ m.1, (ta.0, sb.0 ++ t ∷ m.0, append_assoc ta.0 sb.0 (t ∷ m.0), ta.3, m.2), m.3),
  λ z m le h i. one_more a full p s q x (stuck k (record { end = q.end; rest = z })) ta sb.0 z m c sb.1 le h
      (subst (λ zs. Pend a zs (sb.0 ++ z)) (sym sb.1)
      (pend_started a sb.0 q.rest z sb.5 (alike_right (first a) (watched a) q.rest z h)))
      (λ j lj. sb.4 z j lj h i),
  λ e. sb.5 (no_append ta.0 sb.0 (sym e)).1,
)

stopped_each : {A : Type 0} (a : Rule A) → is_plain a ≡ true → is_empty a ≡ false
    → ((p q : State) (x : A) → read a p ≡ got x q → Took a p x q)
    → ((p q : State) (k : Kind) → read a p ≡ stuck k q → Stopped a p k q)
    → (n : ℕ) (p q : State) (k : Kind) → length p.rest ≤ n → repeat (first a) (read a) n p ≡ stuck k q
    → StoppedEach a n p k q
stopped_each a ok full ta sa zero p q k le e = absurd cc
stopped_each a ok full ta sa (suc n) p q k le e = elim (chosen (begins (first a) p.rest) _ _ _ e) [
  | inr c ↦ absurd (cc (c.1))
  | inl c ↦ elim (bind_stuck (read a p) _ k q c.1) [
    | inl s ↦ stopped_first a ok (suc n) p q k c.0 (sa p q k s)
    | inr o ↦ elim (bind_stuck (repeat (first a) (read a) n o.1) _ k q o.3) [
      | inl s ↦ let t : Took a p o.0 o.1 = ta p o.1 o.0 o.2 in
          stopped_later a full n p o.1 q o.0 k c.0 t
          (stopped_each a ok full ta sa n o.1 q k (shorter a full t.0 p.rest o.1.rest o.0 n t.3 t.1 le) s)
      | inr s ↦ absurd (cc (s.3))
    ]
  ]
]

pub stopped : {X : Type 0} (r : Rule X) → is_plain r ≡ true → (p q : State) (k : Kind) → read r p ≡ stuck k q
    → Stopped r p k q
stopped (one j) ok p q k e = stopped_one j p.end p.rest k q e
stopped (a ▸ b) ok p q k e =
    let i = and_parts _ _ ok in
    let j = and_parts _ _ i.1 in
    elim (bind_stuck (read a p) _ k q e) [
      | inl s ↦ stopped_front a b p q k (stopped a i.0 p q k s)
      | inr o ↦ elim (bind_stuck (read b o.1) _ k q o.3) [
        | inl s ↦ stopped_behind a b p o.1 q o.0 k (and_parts _ _ j.1).1 (took a i.0 p o.1 o.0 o.2) (stopped b j.0 o.1 q k s)
        | inr s ↦ absurd (cc (s.3))
      ]
    ]
stopped (a or b) ok p q k e = elim (by_either a b ok p (stuck k q) e) [
  | inl c ↦ stopped_left a b p q k c.0 (stopped a c.1 p q k c.2)
  | inr c ↦ stopped_right a b p q k c.0 (stopped b c.1 p q k c.2)
]
stopped (maybe a) ok p q k e = let i = and_parts _ _ ok in elim (chosen (begins (first a) p.rest) _ _ _ e) [
  | inl c ↦ elim (bind_stuck (read a p) _ k q c.1) [
    | inl s ↦ stopped_maybe a p q k c.0 (stopped a i.0 p q k s)
    | inr o ↦ absurd (cc (o.3))
  ]
  | inr c ↦ absurd (cc (c.1))
]
stopped (unless j l a) ok p q k e = let i = and_parts _ _ ok in elim (chosen (enters j l (first a) p.rest) _ _ _ e) [
  | inl c ↦ elim (bind_stuck (read a p) _ k q c.1) [
    | inl s ↦ stopped_unless j l a i.0 p q k c.0 (stopped a i.0 p q k s)
    | inr o ↦ absurd (cc (o.3))
  ]
  | inr c ↦ absurd (cc (c.1))
]
stopped (many a) ok p q k e =
    let i = and_parts _ _ ok in
    let j = and_parts _ _ i.1 in
    let s : StoppedEach a (length p.rest) p k q =
    stopped_each a i.0 (is_no _ j.0) (took a i.0) (stopped a i.0) (length p.rest) p q k (omega arith) e in
    (s.0, s.1, s.2, s.3, λ z h g. s.4 z (length (s.0 ++ z)) (omega arith) h g)
stopped (made f a) ok p q k e = elim (bind_stuck (read a p) _ k q e) [
  | inl h ↦ let s : Stopped a p k q = stopped a ok p q k h in
      stopped_by a (made f a) p q k s (λ x ts m. (f x, (x, refl, m)))
      (λ z g i. ap (λ (o : Outcome _). o >>= λ x q. got (f x) q) (s.4 z g i))
  | inr o ↦ absurd (cc (o.3))
]
stopped (node f a) ok p q k e = let i = and_parts _ _ ok in elim (bind_stuck (read a p) _ k q e) [
  | inl h ↦ let s : Stopped a p k q = stopped a i.0 p q k h in
      stopped_by a (node f a) p q k s (λ x ts m. (f x (span_of ts), (x, refl, m)))
      (λ z g j. ap (λ (o : Outcome _). o >>= λ x q. got
      (f x (record { start = start_of p.end (s.0 ++ z); end = q.end })) q) (s.4 z g j))
  | inr o ↦ absurd (cc (o.3))
]

-- reading takes tokens
pub less : {A : Type 0} (a : Rule A) → is_plain a ≡ true → is_empty a ≡ false → (p q : State) (x : A)
    → read a p ≡ got x q → length q.rest < length p.rest
less a ok full p q x e = let t : Took a p x q = took a ok p q x e in fewer a full t.0 p.rest q.rest x t.3 t.1
