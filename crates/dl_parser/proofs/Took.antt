-- What was read is spelled, and is read in the same way where what is left begins alike.
use Rattle.dl_parser.proofs.Common.{◌≡◌, ℕ, zero, suc, ◌≤◌, ◌<◌, Bool, true, false, cond, ◌&&◌, ◌||◌, ◌⊎◌, List, [], ◌∷◌, ◌++◌, length, Some, None, refl, sym, ap, ◌∙◌, subst, inl, inr, arith, append_assoc, length-append, Kind, Lexeme, Rule, one, ◌▸◌, ◌or◌, maybe, many, unless, made, node, Each, Spells, end_of, span_of, State, Outcome, got, stuck, ◌>>=◌, same_kind, among, begins, start_of, is_empty, first, watched, two_at, enters, is_settled, one_at, repeat, read, is_plain, and_parts, settles}
use Rattle.dl_parser.proofs.Sets.{same_is, same_self}
use Rattle.dl_parser.proofs.Starts.{true_right, among_left, among_right, bind_got, chosen, end_append, spelled_empty}
use Rattle.dl_parser.proofs.ReadsBack.{bind_of, is_no, not_both, span_same, whole_none}

-- what was read is spelled, and reading goes on in the same way where what is left begins alike

abbrev pub Alike : List Kind → List Lexeme → List Lexeme → Type 0
Alike ks us vs = (k : Kind) → among k ks ≡ true → begins (k ∷ []) us ≡ begins (k ∷ []) vs

pub alike_left : (js ks : List Kind) (us vs : List Lexeme) → Alike (js ++ ks) us vs → Alike js us vs
alike_left js ks us vs h k m = h k (among_left k js ks m)

pub alike_right : (js ks : List Kind) (us vs : List Lexeme) → Alike (js ++ ks) us vs → Alike ks us vs
alike_right js ks us vs h k m = h k (among_right k js ks m)

or_none : (b c : Bool) → (b || c) ≡ ((b || false) || c)
or_none true c = refl
or_none false c = refl

begins_cons : (k : Kind) (ks : List Kind) (us : List Lexeme) → begins (k ∷ ks) us ≡ (begins (k ∷ []) us || begins ks us)
begins_cons k ks [] = refl
begins_cons k ks (u ∷ us) = or_none (same_kind u.kind k) (among u.kind ks)

alike_begins : (ks : List Kind) (us vs : List Lexeme) → Alike ks us vs → begins ks us ≡ begins ks vs
alike_begins [] [] [] h = refl
alike_begins [] [] (v ∷ vs) h = refl
alike_begins [] (u ∷ us) [] h = refl
alike_begins [] (u ∷ us) (v ∷ vs) h = refl
alike_begins (k ∷ ks) us vs h =
    let head : begins (k ∷ []) us ≡ begins (k ∷ []) vs = h k (rw (same_self k k refl) refl) in
    let rest : begins ks us ≡ begins ks vs = alike_begins ks us vs (alike_right (k ∷ []) ks us vs h) in
    begins_cons k ks us ∙ ap (λ b. b || begins ks us) head ∙ ap (λ b. begins (k ∷ []) vs || b) rest
    ∙ sym (begins_cons k ks vs)

-- behind some tokens
alike_behind : (ks : List Kind) (ts us vs : List Lexeme) → Alike ks us vs → Alike ks (ts ++ us) (ts ++ vs)
alike_behind ks [] us vs h k m = h k m
alike_behind ks (t ∷ ts) us vs h k m = refl

pub alike_with : (ks : List Kind) (ts us vs ws : List Lexeme) → ws ≡ ts ++ us → Alike ks us vs → Alike ks ws (ts ++ vs)
alike_with ks ts us vs ws e h = subst (λ zs. Alike ks zs (ts ++ vs)) (sym e) (alike_behind ks ts us vs h)

-- where a look at two tokens comes last, it comes out the same
abbrev pub Pend : {X : Type 0} → Rule X → List Lexeme → List Lexeme → Type 0
Pend (one k) us vs = Unit {0}
Pend (a ▸ b) us vs = Pend b us vs
Pend (a or b) us vs = Pend a us vs × Pend b us vs
Pend (maybe a) us vs = Pend a us vs
Pend (many a) us vs = Unit {0}
Pend (unless j k a) us vs = (two_at j k us ≡ two_at j k vs) × Pend a us vs
Pend (made f a) us vs = Pend a us vs
Pend (node f a) us vs = Pend a us vs

pub pend_settled : {X : Type 0} (r : Rule X) (us vs : List Lexeme) → is_settled r ≡ true → Pend r us vs
pend_settled (one k) us vs h = tt
pend_settled (a ▸ b) us vs h = pend_settled b us vs h
pend_settled (a or b) us vs h = let p = and_parts (is_settled a) (is_settled b) h in (pend_settled a us vs p.0, pend_settled b us vs p.1)
pend_settled (maybe a) us vs h = pend_settled a us vs h
pend_settled (many a) us vs h = tt
pend_settled (unless j k a) us vs h = absurd cc
pend_settled (made f a) us vs h = pend_settled a us vs h
pend_settled (node f a) us vs h = pend_settled a us vs h

two_none_at : (j k : Kind) (ks : List Kind) (u : Lexeme) (us : List Lexeme) → among j ks ≡ true → among u.kind ks ≡ false → (c : Bool) → same_kind u.kind j ≡ c → two_at j k (u ∷ us) ≡ false
two_none_at j k ks u us h b true e = absurd (not_both _ h (subst (λ i. among i ks ≡ false) (same_is u.kind j e) b))
two_none_at j k ks u us h b false e = rw e refl

two_none : (j k : Kind) (ks : List Kind) (us : List Lexeme) → among j ks ≡ true → begins ks us ≡ false → two_at j k us ≡ false
two_none j k ks [] h b = refl
two_none j k ks (u ∷ us) h b = two_none_at j k ks u us h b (same_kind u.kind j) refl

-- where the next token is none that could begin the two
pend_ended : {X : Type 0} (ks : List Kind) (r : Rule X) (us vs : List Lexeme) → settles ks r ≡ true → begins ks us ≡ false → begins ks vs ≡ false → Pend r us vs
pend_ended ks (one k) us vs h b c = tt
pend_ended ks (a ▸ d) us vs h b c = pend_ended ks d us vs h b c
pend_ended ks (a or d) us vs h b c = let p = and_parts (settles ks a) (settles ks d) h in (pend_ended ks a us vs p.0 b c, pend_ended ks d us vs p.1 b c)
pend_ended ks (maybe a) us vs h b c = pend_ended ks a us vs h b c
pend_ended ks (many a) us vs h b c = tt
pend_ended ks (unless j k a) us vs h b c = let p = and_parts (among j ks) (settles ks a) h in (two_none j k ks us p.0 b ∙ sym (two_none j k ks vs p.0 c), pend_ended ks a us vs p.1 b c)
pend_ended ks (made f a) us vs h b c = pend_ended ks a us vs h b c
pend_ended ks (node f a) us vs h b c = pend_ended ks a us vs h b c

pub two_behind : (j k : Kind) (t : Lexeme) (ts us vs : List Lexeme) → begins (k ∷ []) us ≡ begins (k ∷ []) vs → two_at j k ((t ∷ ts) ++ us) ≡ two_at j k ((t ∷ ts) ++ vs)
two_behind j k t [] us vs h = ap (λ b. same_kind t.kind j && b) h
two_behind j k t (u ∷ ts) us vs h = refl

pub pend_behind : {X : Type 0} (r : Rule X) (t : Lexeme) (ts us vs : List Lexeme) → Alike (watched r) us vs → Pend r ((t ∷ ts) ++ us) ((t ∷ ts) ++ vs)
pend_behind (one k) t ts us vs h = tt
pend_behind (a ▸ b) t ts us vs h = pend_behind b t ts us vs (alike_right (watched a) (watched b) us vs h)
pend_behind (a or b) t ts us vs h = let g = alike_right (first a) (watched a ++ watched b) us vs h in
    (pend_behind a t ts us vs (alike_left (watched a) (watched b) us vs g), pend_behind b t ts us vs (alike_right (watched a) (watched b) us vs g))
pend_behind (maybe a) t ts us vs h = pend_behind a t ts us vs (alike_right (first a) (watched a) us vs h)
pend_behind (many a) t ts us vs h = tt
pend_behind (unless j k a) t ts us vs h = (
  two_behind j k t ts us vs (h k (rw (same_self k k refl) (true_right (same_kind k j) true refl))),
  pend_behind a t ts us vs (alike_right (j ∷ k ∷ first a) (watched a) us vs h),
)
pend_behind (made f a) t ts us vs h = pend_behind a t ts us vs h
pend_behind (node f a) t ts us vs h = pend_behind a t ts us vs h

pend_mid : {X : Type 0} (r : Rule X) (ts us vs : List Lexeme) → settles (first r) r ≡ true → begins (first r) us ≡ false → begins (first r) vs ≡ false → Alike (watched r) us vs → Pend r (ts ++ us) (ts ++ vs)
pend_mid r [] us vs h b c g = pend_ended (first r) r us vs h b c
pend_mid r (t ∷ ts) us vs h b c g = pend_behind r t ts us vs g

-- tokens in two parts
pub in_parts : (ts us vs ws zs : List Lexeme) → ws ≡ ts ++ vs → vs ≡ us ++ zs → ws ≡ (ts ++ us) ++ zs
in_parts ts us vs ws zs e f = e ∙ ap (λ ys. ts ++ ys) f ∙ sym (append_assoc ts us zs)

abbrev pub Took : {X : Type 0} → Rule X → State → X → State → Type 0
Took r p x q = (ts : List Lexeme) × (p.rest ≡ ts ++ q.rest) × (q.end ≡ end_of p.end ts) × Spells r x ts
    × ((z : List Lexeme) → Alike (watched r) q.rest z → Pend r q.rest z
    → read r (record { end = p.end; rest = ts ++ z }) ≡ got x (record { end = q.end; rest = z }))

abbrev TookBy : {X : Type 0} → Rule X → State → Outcome X → Type 0
TookBy r p (got x q) = Took r p x q
TookBy r p (stuck k q) = Unit {0}

took_as : {X : Type 0} (r : Rule X) (p : State) (x y : X) (q s : State) → got x q ≡ got y s → Took r p x q
    → Took r p y s
took_as r p x y q s e t = subst (TookBy r p) e t

took_one : (k : Kind) (at : ℕ) (ts : List Lexeme) (x : Lexeme) (q : State) → one_at k at ts ≡ got x q
    → Took (one k) (record { end = at; rest = ts }) x q
took_one k at [] x q e = absurd cc
took_one k at (t ∷ ts) x q e = elim (chosen (same_kind t.kind k) _ _ _ e) [
  | inl c ↦ took_as (one k) (record { end = at; rest = t ∷ ts }) t x (record { end = t.span.end; rest = ts }) q c.1
      (t ∷ [], refl, refl, (same_is t.kind k c.0, refl), λ z h g. rw (c.0) refl)
  | inr c ↦ absurd cc
]

took_seq : {A B : Type 0} (a : Rule A) (b : Rule B) (p s q : State) (x : A) (y : B) → is_settled a ≡ true
    → Took a p x s → Took b s y q
    → Took (a ▸ b) p (x, y) q
took_seq a b p s q x y still ta tb = (
  ta.0 ++ tb.0,
  in_parts ta.0 tb.0 s.rest p.rest q.rest ta.1 tb.1,
  tb.2 ∙ ap (λ n. end_of n tb.0) ta.2 ∙ sym (end_append p.end ta.0 tb.0),
  (ta.0, tb.0, refl, ta.3, tb.3),
  λ z h g. ap (λ zs. read (a ▸ b) (record { end = p.end; rest = zs })) (append_assoc ta.0 tb.0 z)
      ∙ bind_of _ _ x _ _ (ta.4 (tb.0 ++ z) (alike_with (watched a) tb.0 q.rest z s.rest tb.1
      (alike_left (watched a) (watched b) q.rest z h)) (pend_settled a _ _ still))
      (bind_of _ _ y _ _ (tb.4 z (alike_right (watched a) (watched b) q.rest z h) g) refl),
)

-- the test of the next token comes out the same
pub test_same : (ks : List Kind) (p q : State) (ts z : List Lexeme) (b : Bool) → p.rest ≡ ts ++ q.rest
    → Alike ks q.rest z → begins ks p.rest ≡ b → begins ks (ts ++ z) ≡ b
test_same ks p q ts z b e h t =
    sym (alike_begins ks (ts ++ q.rest) (ts ++ z) (alike_behind ks ts q.rest z h)) ∙ ap (begins ks) (sym e) ∙ t

abbrev TookEach : {A : Type 0} → Rule A → ℕ → State → List A → State → Type 0
TookEach a n p xs q = (ts : List Lexeme) × (p.rest ≡ ts ++ q.rest) × (q.end ≡ end_of p.end ts) × Each (Spells a) xs ts
    × ((z : List Lexeme) (m : ℕ) → length (ts ++ z) ≤ m → Alike (first a ++ watched a) q.rest z
    → repeat (first a) (read a) m (record { end = p.end; rest = ts ++ z }) ≡ got xs
    (record { end = q.end; rest = z }))
    × (begins (first a) q.rest ≡ false)

abbrev TookEachBy : {A : Type 0} → Rule A → ℕ → State → Outcome (List A) → Type 0
TookEachBy a n p (got xs q) = TookEach a n p xs q
TookEachBy a n p (stuck k q) = Unit {0}

took_none : {A : Type 0} (a : Rule A) (n : ℕ) (p : State) → begins (first a) p.rest ≡ false → TookEach a n p [] p
took_none a n p h =
    let same : (z : List Lexeme) → Alike (first a ++ watched a) p.rest z → begins (first a) z ≡ false =
    λ z g. sym (alike_begins (first a) p.rest z (alike_left (first a) (watched a) p.rest z g)) ∙ h in
    ([], refl, refl, refl, λ z m le g. whole_none a z p.end m (same z g), h)

-- one of them, and the others behind it: what is made of them is what the others give, with the one in front
goes_through : {A : Type 0} (a : Rule A) → is_empty a ≡ false
    → (p s : State) (x : A) (o : Outcome (List A)) (us vs : List Lexeme) (m : ℕ) → Spells a x us
    → begins (first a) (us ++ vs) ≡ true
    → read a (record { end = p.end; rest = us ++ vs }) ≡ got x (record { end = s.end; rest = vs })
    → ((j : ℕ) → length vs ≤ j → repeat (first a) (read a) j (record { end = s.end; rest = vs }) ≡ o)
    → length (us ++ vs) ≤ m → repeat (first a) (read a) m (record { end = p.end; rest = us ++ vs })
    ≡ (o >>= λ xs r. got (x ∷ xs) r)
goes_through a full p s x o [] vs m sp t ra rest le = absurd (not_both _ (spelled_empty a x [] refl sp) full)
goes_through a full p s x o (u ∷ us) vs zero sp t ra rest le = absurd (omega arith)
goes_through a full p s x o (u ∷ us) vs (suc m) sp t ra rest le =
    rw (t, ra, rest m (omega (arith, length-append us vs))) refl

pub one_more : {A : Type 0} (a : Rule A) → is_empty a ≡ false
    → (p s q : State) (x : A) (o : Outcome (List A)) (t : Took a p x s) (ts z : List Lexeme) (m : ℕ)
    → begins (first a) p.rest ≡ true → s.rest ≡ ts ++ q.rest → length ((t.0 ++ ts) ++ z) ≤ m
    → Alike (first a ++ watched a) q.rest z → Pend a s.rest (ts ++ z)
    → ((j : ℕ) → length (ts ++ z) ≤ j → repeat (first a) (read a) j (record { end = s.end; rest = ts ++ z }) ≡ o)
    → repeat (first a) (read a) m (record { end = p.end; rest = (t.0 ++ ts) ++ z }) ≡ (o >>= λ xs r. got (x ∷ xs) r)
one_more a full p s q x o t ts z m c e le h pend rest =
    let same : (t.0 ++ ts) ++ z ≡ t.0 ++ (ts ++ z) = append_assoc t.0 ts z in
    ap (λ zs. repeat (first a) (read a) m (record { end = p.end; rest = zs })) same
    ∙ goes_through a full p s x o t.0 (ts ++ z) m t.3
    (ap (begins (first a)) (sym same) ∙ test_same (first a) p q (t.0 ++ ts) z true
    (in_parts t.0 ts s.rest p.rest q.rest t.1 e) (alike_left (first a) (watched a) q.rest z h) c)
    (t.4 (ts ++ z) (alike_with (watched a) ts q.rest z s.rest e (alike_right (first a) (watched a) q.rest z h)) pend)
    rest (subst (λ zs. length zs ≤ m) same le)

took_some : {A : Type 0} (a : Rule A) → is_empty a ≡ false → settles (first a) a ≡ true → (n : ℕ) (p s q : State) (x : A) (xs : List A)
    → begins (first a) p.rest ≡ true → Took a p x s → TookEach a n s xs q → TookEach a (suc n) p (x ∷ xs) q
took_some a full still n p s q x xs c ta tb = (
  ta.0 ++ tb.0,
  in_parts ta.0 tb.0 s.rest p.rest q.rest ta.1 tb.1,
  tb.2 ∙ ap (λ e. end_of e tb.0) ta.2 ∙ sym (end_append p.end ta.0 tb.0),
  (ta.0, tb.0, refl, ta.3, tb.3),
  λ z m le h. one_more a full p s q x (got xs (record { end = q.end; rest = z })) ta tb.0 z m c tb.1 le h
      (subst (λ zs. Pend a zs (tb.0 ++ z)) (sym tb.1) (pend_mid a tb.0 q.rest z still tb.5
      (sym (alike_begins (first a) q.rest z (alike_left (first a) (watched a) q.rest z h)) ∙ tb.5)
      (alike_right (first a) (watched a) q.rest z h)))
      (λ j lj. tb.4 z j lj h),
  tb.5,
)

pub none_left : (ks : List Kind) (ts : List Lexeme) → length ts ≤ 0 → begins ks ts ≡ false
none_left ks [] h = refl
none_left ks (t ∷ ts) h = absurd (omega arith)

pub shorter : {A : Type 0} (a : Rule A) → is_empty a ≡ false → (ts us vs : List Lexeme) (x : A) (n : ℕ) → Spells a x ts
    → us ≡ ts ++ vs → length us ≤ suc n → length vs ≤ n
shorter a full [] us vs x n s e le = absurd (not_both _ (spelled_empty a x [] refl s) full)
shorter a full (t ∷ ts) us vs x n s e le = omega (arith, ap length e, length-append ts vs)

pub fewer : {A : Type 0} (a : Rule A) → is_empty a ≡ false → (ts us vs : List Lexeme) (x : A) → Spells a x ts
    → us ≡ ts ++ vs → length vs < length us
fewer a full [] us vs x s e = absurd (not_both _ (spelled_empty a x [] refl s) full)
fewer a full (t ∷ ts) us vs x s e = omega (arith, ap length e, length-append ts vs)

took_each : {A : Type 0} (a : Rule A) → is_empty a ≡ false → settles (first a) a ≡ true
    → ((p q : State) (x : A) → read a p ≡ got x q → Took a p x q) → (n : ℕ) (p q : State) (xs : List A)
    → length p.rest ≤ n
    → repeat (first a) (read a) n p ≡ got xs q → TookEach a n p xs q
took_each a full still ta zero p q xs le e =
    subst (TookEachBy a zero p) e (took_none a zero p (none_left (first a) p.rest le))
took_each a full still ta (suc n) p q xs le e = elim (chosen (begins (first a) p.rest) _ _ _ e) [
  | inl c ↦
      let one = bind_got (read a p) _ xs q c.1 in
      let others = bind_got (repeat (first a) (read a) n one.1) _ xs q one.3 in
      let t : Took a p one.0 one.1 = ta p one.1 one.0 one.2 in
      let ts : TookEach a n one.1 others.0 others.1 =
      took_each a full still ta n one.1 others.1 others.0
      (shorter a full t.0 p.rest one.1.rest one.0 n t.3 t.1 le) others.2 in
      subst (TookEachBy a (suc n) p) others.3 (took_some a full still n p one.1 others.1 one.0 others.0 c.0 t ts)
  | inr c ↦ subst (TookEachBy a (suc n) p) c.1 (took_none a (suc n) p c.0)
]

-- another rule that the same tokens spell
took_by : {A B : Type 0} (a : Rule A) (b : Rule B) (p q : State) (x : A) (y : B) (t : Took a p x q) → Spells b y t.0
    → ((z : List Lexeme) → Alike (watched b) q.rest z → Pend b q.rest z
    → read b (record { end = p.end; rest = t.0 ++ z }) ≡ got y (record { end = q.end; rest = z }))
    → Took b p y q
took_by a b p q x y t spelled same = (t.0, t.1, t.2, spelled, same)

took_left : {A : Type 0} (a b : Rule A) (p q : State) (x : A) → begins (first a) p.rest ≡ true → Took a p x q
    → Took (a or b) p x q
took_left a b p q x c t = took_by a (a or b) p q x x t (inl t.3)
    (λ z h g. rw (test_same (first a) p q t.0 z true t.1 (alike_left (first a) (watched a ++ watched b) q.rest z h) c)
    (t.4 z (alike_left (watched a) (watched b) q.rest z
    (alike_right (first a) (watched a ++ watched b) q.rest z h)) g.0))

took_right : {A : Type 0} (a b : Rule A) (p q : State) (x : A) → begins (first a) p.rest ≡ false → Took b p x q
    → Took (a or b) p x q
took_right a b p q x c t = took_by b (a or b) p q x x t (inr t.3)
    (λ z h g. rw (test_same (first a) p q t.0 z false t.1 (alike_left (first a) (watched a ++ watched b) q.rest z h) c)
    (t.4 z (alike_right (watched a) (watched b) q.rest z
    (alike_right (first a) (watched a ++ watched b) q.rest z h)) g.1))

took_some_of : {A : Type 0} (a : Rule A) (p q : State) (x : A) → begins (first a) p.rest ≡ true → Took a p x q
    → Took (maybe a) p (Some x) q
took_some_of a p q x c t = took_by a (maybe a) p q x (Some x) t t.3
    (λ z h g. rw (test_same (first a) p q t.0 z true t.1 (alike_left (first a) (watched a) q.rest z h) c)
    (bind_of _ _ x _ _ (t.4 z (alike_right (first a) (watched a) q.rest z h) g) refl))

took_none_of : {A : Type 0} (a : Rule A) (p : State) → begins (first a) p.rest ≡ false → Took (maybe a) p None p
took_none_of a p c = (
  [],
  refl,
  refl,
  refl,
  λ z h g. rw
      (test_same (first a) p p [] z false refl (alike_left (first a) (watched a) p.rest z h) c) refl,
)

enters_same : (j k : Kind) (ks : List Kind) (us vs : List Lexeme) (b : Bool) → two_at j k us ≡ two_at j k vs → begins ks us ≡ begins ks vs → enters j k ks us ≡ b → enters j k ks vs ≡ b
enters_same j k ks us vs b h g e = ap (λ c. cond c false (begins ks vs)) (sym h) ∙ ap (λ c. cond (two_at j k us) false c) (sym g) ∙ e

two_on : (j k : Kind) (ts us vs : List Lexeme) → two_at j k us ≡ two_at j k vs → begins (k ∷ []) us ≡ begins (k ∷ []) vs → two_at j k (ts ++ us) ≡ two_at j k (ts ++ vs)
two_on j k [] us vs h g = h
two_on j k (t ∷ ts) us vs h g = two_behind j k t ts us vs g

-- a look at two tokens comes out the same
pub test_two : (j k : Kind) (ks : List Kind) (p q : State) (ts z : List Lexeme) (b : Bool) → p.rest ≡ ts ++ q.rest → Alike (j ∷ k ∷ ks) q.rest z → two_at j k (ts ++ q.rest) ≡ two_at j k (ts ++ z) → enters j k ks p.rest ≡ b → enters j k ks (ts ++ z) ≡ b
test_two j k ks p q ts z b e h g t = enters_same j k ks (ts ++ q.rest) (ts ++ z) b g (alike_begins ks (ts ++ q.rest) (ts ++ z) (alike_behind ks ts q.rest z (alike_right (j ∷ k ∷ []) ks q.rest z h))) (ap (enters j k ks) (sym e) ∙ t)

pub alike_two : (j k : Kind) (ks : List Kind) (us vs : List Lexeme) → Alike (j ∷ k ∷ ks) us vs → begins (k ∷ []) us ≡ begins (k ∷ []) vs
alike_two j k ks us vs h = h k (rw (same_self k k refl) (true_right (same_kind k j) true refl))

took_unless_some : {A : Type 0} (j k : Kind) (a : Rule A) (p q : State) (x : A) → enters j k (first a) p.rest ≡ true → Took a p x q → Took (unless j k a) p (Some x) q
took_unless_some j k a p q x c t = (
  t.0,
  t.1,
  t.2,
  t.3,
  λ z h g.
      let own : Alike (j ∷ k ∷ first a) q.rest z = alike_left (j ∷ k ∷ first a) (watched a) q.rest z h in
      rw (test_two j k (first a) p q t.0 z true t.1 own (two_on j k t.0 q.rest z g.0 (alike_two j k (first a) q.rest z own)) c)
      (bind_of _ _ x _ _ (t.4 z (alike_right (j ∷ k ∷ first a) (watched a) q.rest z h) g.1) refl),
)

took_unless_none : {A : Type 0} (j k : Kind) (a : Rule A) (p : State) → enters j k (first a) p.rest ≡ false → Took (unless j k a) p None p
took_unless_none j k a p c = (
  [],
  refl,
  refl,
  refl,
  λ z h g.
      rw (test_two j k (first a) p p [] z false refl (alike_left (j ∷ k ∷ first a) (watched a) p.rest z h) g.0 c) refl,
)

-- what one of two rules reads, the one reads that begins with the next token
pub by_either : {A : Type 0} (a b : Rule A) → is_plain (a or b) ≡ true → (p : State) (o : Outcome A)
    → read (a or b) p ≡ o → ((begins (first a) p.rest ≡ true) × (is_plain a ≡ true) × (read a p ≡ o))
    ⊎ ((begins (first a) p.rest ≡ false) × (is_plain b ≡ true) × (read b p ≡ o))
by_either a b ok p o e =
    let k = and_parts _ _ ok in
    elim (chosen (begins (first a) p.rest) _ _ _ e) [
      | inl c ↦ inl (c.0, k.0, c.1)
      | inr c ↦ inr (c.0, (and_parts _ _ k.1).0, c.1)
    ]

pub took : {X : Type 0} (r : Rule X) → is_plain r ≡ true → (p q : State) (x : X) → read r p ≡ got x q → Took r p x q
took (one k) ok p q x e = took_one k p.end p.rest x q e
took (a ▸ b) ok p q v e =
    let k = and_parts _ _ ok in
    let l = and_parts _ _ k.1 in
    let one = bind_got (read a p) _ v q e in
    let two = bind_got (read b one.1) _ v q one.3 in
    took_as (a ▸ b) p (one.0, two.0) v two.1 q two.3
    (took_seq a b p one.1 two.1 one.0 two.0 (and_parts _ _ l.1).1 (took a k.0 p one.1 one.0 one.2) (took b l.0 one.1 two.1 two.0 two.2))
took (a or b) ok p q x e = elim (by_either a b ok p (got x q) e) [
  | inl c ↦ took_left a b p q x c.0 (took a c.1 p q x c.2)
  | inr c ↦ took_right a b p q x c.0 (took b c.1 p q x c.2)
]
took (maybe a) ok p q v e = let k = and_parts _ _ ok in elim (chosen (begins (first a) p.rest) _ _ _ e) [
  | inl c ↦ let one = bind_got (read a p) _ v q c.1 in
      took_as (maybe a) p (Some one.0) v one.1 q one.3
      (took_some_of a p one.1 one.0 c.0 (took a k.0 p one.1 one.0 one.2))
  | inr c ↦ took_as (maybe a) p None v p q c.1 (took_none_of a p c.0)
]
took (unless j k a) ok p q v e = let i = and_parts _ _ ok in elim (chosen (enters j k (first a) p.rest) _ _ _ e) [
  | inl c ↦ let one = bind_got (read a p) _ v q c.1 in
      took_as (unless j k a) p (Some one.0) v one.1 q one.3 (took_unless_some j k a p one.1 one.0 c.0 (took a i.0 p one.1 one.0 one.2))
  | inr c ↦ took_as (unless j k a) p None v p q c.1 (took_unless_none j k a p c.0)
]
took (many a) ok p q xs e =
    let k = and_parts _ _ ok in
    let l = and_parts _ _ k.1 in
    let t : TookEach a (length p.rest) p xs q =
    took_each a (is_no _ l.0) (and_parts _ _ l.1).1 (took a k.0) (length p.rest) p q xs (omega arith) e in
    (t.0, t.1, t.2, t.3, λ z h g. t.4 z (length (t.0 ++ z)) (omega arith) h)
took (made f a) ok p q v e =
    let one = bind_got (read a p) _ v q e in
    let t : Took a p one.0 one.1 = took a ok p one.1 one.0 one.2 in
    took_as (made f a) p (f one.0) v one.1 q one.3
    (t.0, t.1, t.2, (one.0, refl, t.3), λ z h g. bind_of _ _ one.0 _ _ (t.4 z h g) refl)
took (node f a) ok p q v e =
    let k = and_parts _ _ ok in
    let one = bind_got (read a p) _ v q e in
    let t : Took a p one.0 one.1 = took a k.0 p one.1 one.0 one.2 in
    let some : t.0 ≡ [] → ⊥ = λ h. not_both _ (spelled_empty a one.0 t.0 h t.3) (is_no _ k.1) in
    let span : (z : List Lexeme) → record { start = start_of p.end (t.0 ++ z); end = one.1.end } ≡ span_of t.0 =
    λ z. ap (λ n. record { start = start_of p.end (t.0 ++ z); end = n }) t.2 ∙ span_same p.end t.0 z some in
    let here : record { start = start_of p.end p.rest; end = one.1.end } ≡ span_of t.0 =
    ap (λ zs. record { start = start_of p.end zs; end = one.1.end }) t.1 ∙ span one.1.rest in
    let made_of = f one.0 (record { start = start_of p.end p.rest; end = one.1.end }) in
    took_as (node f a) p made_of v one.1 q one.3
    (took_by a (node f a) p one.1 one.0 made_of t (one.0, ap (f one.0) here, t.3)
    (λ z h g. bind_of _ _ one.0 _ _ (t.4 z h g)
    (ap (λ w. got (f one.0 w) (record { end = one.1.end; rest = z })) (span z ∙ sym here))))
