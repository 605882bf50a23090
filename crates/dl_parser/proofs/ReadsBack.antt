-- A spelling is read as what it spells.
use Rattle.dl_parser.proofs.Common.{◌≡◌, ℕ, zero, suc, ◌≤◌, Bool, true, false, cond, ◌&&◌, ◌||◌, List, [], ◌∷◌, ◌++◌, length, Some, None, refl, sym, ap, ◌∙◌, subst, inl, inr, arith, append_assoc, length-append, Kind, Lexeme, Rule, one, ◌▸◌, ◌or◌, maybe, many, unless, made, node, Each, Spells, end_of, span_of, State, Outcome, got, ◌>>=◌, among, begins, start_of, is_empty, first, goes_on, repeat, read, apart, is_plain, and_parts, or_parts}
use Rattle.dl_parser.specs.Reading.{same_kind, two_at, enters, alone, seconds, others, all_are, no as not, clears}
use Rattle.dl_parser.proofs.Sets.{same_is, same_self, apart_at}
use Rattle.dl_parser.proofs.Starts.{alone_is, end_append, first_is, second_is, spelled_empty}

-- a spelling is read as what it spells, where what follows doesn't go on with it

pub bind_of : {A B : Type 0} (o : Outcome A) (f : A → State → Outcome B) (x : A) (s : State) (z : Outcome B)
    → o ≡ got x s → f x s ≡ z → (o >>= f) ≡ z
bind_of o f x s z h e = ap (λ u. u >>= f) h ∙ e

abbrev Whole : {X : Type 0} → Rule X → X → Type 0
Whole r x = (ts rest : List Lexeme) (at : ℕ) → Spells r x ts → goes_on r rest ≡ false
    → read r (record { end = at; rest = ts ++ rest }) ≡ got x (record { end = end_of at ts; rest = rest })

pub not_both : (b : Bool) → b ≡ true → b ≡ false → ⊥
not_both b h g = let e : true ≡ false = sym h ∙ g in cc

pub is_no : (b : Bool) → cond b false true ≡ true → b ≡ false
is_no true h = cc
is_no false h = refl

are_no : (b c : Bool) → cond b false (cond c false true) ≡ true → (b ≡ false) × (c ≡ false)
are_no true c h = absurd cc
are_no false c h = (refl, is_no c h)

seam : (ks : List Kind) (vs rest : List Lexeme)
    → ((v : Lexeme) (more : List Lexeme) → vs ≡ v ∷ more → among v.kind ks ≡ false)
    → (vs ≡ [] → begins ks rest ≡ false) → begins ks (vs ++ rest) ≡ false
seam ks [] rest f g = g refl
seam ks (v ∷ vs) rest f g = f v vs refl

starts : {X : Type 0} (r : Rule X) (x : X) (ts rest : List Lexeme) → is_empty r ≡ false → Spells r x ts
    → begins (first r) (ts ++ rest) ≡ true
starts r x [] rest full s = let yes : is_empty r ≡ true = spelled_empty r x [] refl s in absurd cc
starts r x (t ∷ ts) rest full s = first_is r x (t ∷ ts) t ts refl s

others_step : (j k i : Kind) (is : List Kind) → same_kind k j ≡ false → (among k is ≡ true → among k (others j is) ≡ true) → (b : Bool) → same_kind k i ≡ b → (c : Bool) → same_kind i j ≡ c → (b || among k is) ≡ true
    → among k (cond c (others j is) (i ∷ others j is)) ≡ true
others_step j k i is h rest true e true g m = let same : same_kind k j ≡ true = rw (same_is k i e) g in cc
others_step j k i is h rest false e true g m = rest m
others_step j k i is h rest true e false g m = rw e refl
others_step j k i is h rest false e false g m = rw e (rest m)

among_others : (j k : Kind) (ks : List Kind) → same_kind k j ≡ false → among k ks ≡ true → among k (others j ks) ≡ true
among_others j k [] h m = m
among_others j k (i ∷ is) h m = others_step j k i is h (among_others j k is h) (same_kind k i) refl (same_kind i j) refl m

all_step : (k i g : Kind) (gs : List Kind) → same_kind g k ≡ true → (among i gs ≡ true → same_kind i k ≡ true) → (b : Bool) → same_kind i g ≡ b → (b || among i gs) ≡ true → same_kind i k ≡ true
all_step k i g gs h rest true e m = rw (same_is i g e) h
all_step k i g gs h rest false e m = rest m

all_at : (k i : Kind) (is : List Kind) → all_are k is ≡ true → among i is ≡ true → same_kind i k ≡ true
all_at k i [] h m = absurd (cc (m))
all_at k i (g ∷ gs) h m = all_step k i g gs (and_parts _ _ h).0 (λ n. all_at k i gs (and_parts (same_kind g k) (all_are k gs) h).1 n) (same_kind i g) refl m

-- what begins with the first kind alone of the two goes on with the second
led : {B : Type 0} (j k : Kind) (ks : List Kind) (b : Rule B) (y : B) (v : Lexeme) (tail rest : List Lexeme) → apart ks (others j (first b)) ≡ true → alone j b ≡ false → all_are k (seconds j b) ≡ true
    → Spells b y (v ∷ tail) → (c : Bool) → same_kind v.kind j ≡ c → enters j k ks (v ∷ (tail ++ rest)) ≡ false
led j k ks b y v tail rest d a l s false e =
    let none : among v.kind ks ≡ false = apart_at ks (others j (first b)) v.kind d (among_others j v.kind (first b) e (first_is b y (v ∷ tail) v tail refl s)) in
    rw (e, none) refl
led j k ks b y v [] rest d a l s true e = absurd (not_both _ (alone_is j b y (v ∷ []) v refl (same_is v.kind j e) s) a)
led j k ks b y v (u ∷ tail) rest d a l s true e =
    grind (arith, all_at k u.kind (seconds j b) l (second_is j b y (v ∷ u ∷ tail) v u tail refl (same_is v.kind j e) s))

clear_seq : (e g c : Bool) → cond e c true ≡ true → (c ≡ true → g ≡ false) → (e && g) ≡ false
clear_seq true g c h f = f h
clear_seq false g c h f = refl

clear_of : {A B : Type 0} (a : Rule A) (b : Rule B) (y : B) (v : Lexeme) (tail rest : List Lexeme) → clears a b ≡ true
    → Spells b y (v ∷ tail) → goes_on a (v ∷ (tail ++ rest)) ≡ false
clear_of (one k) b y v tail rest c s = refl
clear_of (a ▸ d) b y v tail rest c s =
    let p = and_parts (clears d b) _ c in
    rw (clear_of d b y v tail rest p.0 s) (clear_seq (is_empty d) (goes_on a (v ∷ (tail ++ rest))) (clears a b) p.1
    (λ h. clear_of a b y v tail rest h s))
clear_of (a or d) b y v tail rest c s = let p = and_parts (clears a b) (clears d b) c in
    rw (clear_of a b y v tail rest p.0 s, clear_of d b y v tail rest p.1 s) refl
clear_of (maybe a) b y v tail rest c s = let p = and_parts (apart (first a) (first b)) (clears a b) c in
    rw (
      apart_at (first a) (first b) v.kind p.0 (first_is b y (v ∷ tail) v tail refl s),
      clear_of a b y v tail rest p.1 s,
    ) refl
clear_of (many a) b y v tail rest c s = let p = and_parts (apart (first a) (first b)) (clears a b) c in
    rw (
      apart_at (first a) (first b) v.kind p.0 (first_is b y (v ∷ tail) v tail refl s),
      clear_of a b y v tail rest p.1 s,
    ) refl
clear_of (unless j k a) b y v tail rest c s =
    let p = and_parts (apart (first a) (others j (first b)) && (not (alone j b) && all_are k (seconds j b))) (clears a b) c in
    let q = and_parts (apart (first a) (others j (first b))) (not (alone j b) && all_are k (seconds j b)) p.0 in
    let r = and_parts (not (alone j b)) (all_are k (seconds j b)) q.1 in
    rw (led j k (first a) b y v tail rest q.0 (is_no (alone j b) r.0) r.1 s (same_kind v.kind j) refl, clear_of a b y v tail rest p.1 s) refl
clear_of (made f a) b y v tail rest c s = clear_of a b y v tail rest c s
clear_of (node f a) b y v tail rest c s = clear_of a b y v tail rest c s

-- between two parts
between : {A B : Type 0} (a : Rule A) (b : Rule B) (y : B) (vs rest : List Lexeme) → clears a b ≡ true → Spells b y vs
    → goes_on (a ▸ b) rest ≡ false → goes_on a (vs ++ rest) ≡ false
between a b y [] rest c s m = grind (arith, spelled_empty b y, or_parts)
between a b y (v ∷ tail) rest c s m = clear_of a b y v tail rest c s

between_some : {A : Type 0} (a : Rule A) → is_empty a ≡ false → clears a a ≡ true
    → (x : A) (us ws vs rest : List Lexeme) → vs ≡ us ++ ws → Spells a x us → goes_on a (vs ++ rest) ≡ false
between_some a full c x [] ws vs rest e s = absurd (not_both _ (spelled_empty a x [] refl s) full)
between_some a full c x (u ∷ us) ws vs rest e s =
    grind (arith, append_assoc us ws rest, clear_of a a x u us (ws ++ rest) c s)

-- between two of many
between_each : {A : Type 0} (a : Rule A) → is_empty a ≡ false → clears a a ≡ true
    → (xs : List A) (vs rest : List Lexeme) → Each (Spells a) xs vs → goes_on a rest ≡ false
    → goes_on a (vs ++ rest) ≡ false
between_each a full c [] vs rest s m = rw s m
between_each a full c (x ∷ xs) vs rest s m = between_some a full c x s.0 s.1 vs rest s.2 s.3

whole_seq : {A B : Type 0} (a : Rule A) (b : Rule B) → clears a b ≡ true → (x : A) (y : B) → Whole a x → Whole b y
    → Whole (a ▸ b) (x, y)
whole_seq a b d x y wa wb ts rest at s m = grind (arith, append_assoc, bind_of, between, or_parts, end_append)

whole_left : {A : Type 0} (a b : Rule A) (x : A) → is_empty a ≡ false → Whole a x → (ts rest : List Lexeme) (at : ℕ)
    → Spells a x ts → (goes_on a rest || goes_on b rest) ≡ false
    → read (a or b) (record { end = at; rest = ts ++ rest }) ≡ got x (record { end = end_of at ts; rest = rest })
whole_left a b x full wa ts rest at s m =
    rw (starts a x ts rest full s) (wa ts rest at s (or_parts (goes_on a rest) (goes_on b rest) m).0)

whole_right : {A : Type 0} (a b : Rule A) (x : A) → is_empty b ≡ false → apart (first a) (first b) ≡ true → Whole b x
    → (ts rest : List Lexeme) (at : ℕ) → Spells b x ts → (goes_on a rest || goes_on b rest) ≡ false
    → read (a or b) (record { end = at; rest = ts ++ rest }) ≡ got x (record { end = end_of at ts; rest = rest })
whole_right a b x full d wb ts rest at s m =
    let other : begins (first a) (ts ++ rest) ≡ false = seam (first a) ts rest
    (λ v tail e. apart_at (first a) (first b) v.kind d (first_is b x ts v tail e s))
    (λ e. let yes : is_empty b ≡ true = spelled_empty b x ts e s in absurd cc) in
    rw other (wb ts rest at s (or_parts (goes_on a rest) (goes_on b rest) m).1)

abbrev WholeEach : {A : Type 0} → Rule A → List A → Type 0
WholeEach a xs = (ts rest : List Lexeme) (at n : ℕ) → Each (Spells a) xs ts
    → (begins (first a) rest || goes_on a rest) ≡ false → length (ts ++ rest) ≤ n
    → repeat (first a) (read a) n (record { end = at; rest = ts ++ rest }) ≡ got xs
    (record { end = end_of at ts; rest = rest })

pub whole_none : {A : Type 0} (a : Rule A) (rest : List Lexeme) (at n : ℕ) → begins (first a) rest ≡ false
    → repeat (first a) (read a) n (record { end = at; rest = rest }) ≡ got [] (record { end = at; rest = rest })
whole_none a rest at zero m = refl
whole_none a rest at (suc n) m = rw m refl

whole_some : {A : Type 0} (a : Rule A) → is_empty a ≡ false → clears a a ≡ true → (x : A) (xs : List A) → Whole a x
    → WholeEach a xs
    → (us vs rest : List Lexeme) (at n : ℕ) → Spells a x us → Each (Spells a) xs vs
    → (begins (first a) rest || goes_on a rest) ≡ false → length (us ++ (vs ++ rest)) ≤ n
    → repeat (first a) (read a) n (record { end = at; rest = us ++ (vs ++ rest) }) ≡ got (x ∷ xs)
    (record { end = end_of (end_of at us) vs; rest = rest })
whole_some a full d x xs wa wes [] vs rest at n s ss m le = grind (arith, spelled_empty a x)
whole_some a full d x xs wa wes (u ∷ us) vs rest at zero s ss m le = absurd (omega arith)
whole_some a full d x xs wa wes (u ∷ us) vs rest at (suc n) s ss m le =
    rw (first_is a x (u ∷ us) u us refl s)
    (bind_of _ _ x _ _ (wa (u ∷ us) (vs ++ rest) at s
    (between_each a full d xs vs rest ss (or_parts (begins (first a) rest) (goes_on a rest) m).1))
    (bind_of _ _ xs _ _ (wes vs rest (end_of at (u ∷ us)) n ss m (omega (arith, length-append us (vs ++ rest)))) refl))

whole_each : {A : Type 0} (a : Rule A) → is_empty a ≡ false → clears a a ≡ true → ((x : A) → Whole a x) → (xs : List A)
    → WholeEach a xs
whole_each a full d wa [] ts rest at n s m le =
    rw s (whole_none a rest at n (or_parts (begins (first a) rest) (goes_on a rest) m).0)
whole_each a full d wa (x ∷ xs) ts rest at n s m le =
    let same : ts ++ rest ≡ s.0 ++ (s.1 ++ rest) = ap (λ zs. zs ++ rest) s.2 ∙ append_assoc s.0 s.1 rest in
    ap (λ zs. repeat (first a) (read a) n (record { end = at; rest = zs })) same
    ∙ whole_some a full d x xs (wa x) (whole_each a full d wa xs) s.0 s.1 rest at n s.3 s.4 m
    (subst (λ zs. length zs ≤ n) same le)
    ∙ ap (λ e. got (x ∷ xs) (record { end = e; rest = rest })) (sym (ap (end_of at) s.2 ∙ end_append at s.0 s.1))

pub span_same : (at : ℕ) (ts rest : List Lexeme) → (ts ≡ [] → ⊥)
    → record { start = start_of at (ts ++ rest); end = end_of at ts } ≡ span_of ts
span_same at [] rest some = absurd (some refl)
span_same at (t ∷ ts) rest some = refl

-- its own spelling is never taken for the two kinds
enters_second : {A : Type 0} (j k : Kind) (a : Rule A) (u : Lexeme) (ts : List Lexeme) → among u.kind (seconds j a) ≡ true → among k (seconds j a) ≡ false → (c : Bool) → same_kind u.kind k ≡ c → (same_kind u.kind k || false) ≡ false
enters_second j k a u ts h g true e = absurd (not_both _ (subst (λ i. among i (seconds j a) ≡ true) (same_is u.kind k e) h) g)
enters_second j k a u ts h g false e = rw e refl

enters_step : {A : Type 0} (j k : Kind) (a : Rule A) (x : A) (t : Lexeme) (ts rest : List Lexeme) → alone j a ≡ false → among k (seconds j a) ≡ false → Spells a x (t ∷ ts) → (c : Bool) → same_kind t.kind j ≡ c
    → two_at j k (t ∷ (ts ++ rest)) ≡ false
enters_step j k a x t ts rest f g s false e = rw e refl
enters_step j k a x t [] rest f g s true e = absurd (not_both _ (alone_is j a x (t ∷ []) t refl (same_is t.kind j e) s) f)
enters_step j k a x t (u ∷ ts) rest f g s true e = rw e (enters_second j k a u ts (second_is j a x (t ∷ u ∷ ts) t u ts refl (same_is t.kind j e) s) g (same_kind u.kind k) refl)

enters_own : {A : Type 0} (j k : Kind) (a : Rule A) (x : A) (ts rest : List Lexeme) → is_empty a ≡ false → alone j a ≡ false → among k (seconds j a) ≡ false → Spells a x ts → enters j k (first a) (ts ++ rest) ≡ true
enters_own j k a x [] rest full f g s = absurd (not_both _ (spelled_empty a x [] refl s) full)
enters_own j k a x (t ∷ ts) rest full f g s = rw (enters_step j k a x t ts rest f g s (same_kind t.kind j) refl, first_is a x (t ∷ ts) t ts refl s) refl

pub whole : {X : Type 0} (r : Rule X) → is_plain r ≡ true → (x : X) → Whole r x
whole (one k) ok x ts rest at s m = rw (s.1, same_self x.kind k s.0) refl
whole (a ▸ b) ok x ts rest at s m = let p = and_parts _ _ ok in let q = and_parts _ _ p.1 in
    whole_seq a b (and_parts _ _ q.1).0 x.0 x.1 (whole a p.0 x.0) (whole b q.0 x.1) ts rest at s m
whole (a or b) ok x ts rest at (inl s) m = let p = and_parts _ _ ok in let q = and_parts _ _ p.1 in let t =
    and_parts _ _ q.1 in whole_left a b x (are_no _ _ t.1).0 (whole a p.0 x) ts rest at s m
whole (a or b) ok x ts rest at (inr s) m = let p = and_parts _ _ ok in let q = and_parts _ _ p.1 in let t =
    and_parts _ _ q.1 in whole_right a b x (are_no _ _ t.1).1 t.0 (whole b q.0 x) ts rest at s m
whole (maybe a) ok None ts rest at s m = rw (s, (or_parts (begins (first a) rest) (goes_on a rest) m).0) refl
whole (maybe a) ok (Some x) ts rest at s m = let p = and_parts _ _ ok in
    rw (starts a x ts rest (is_no _ p.1) s)
    (bind_of _ _ x _ _ (whole a p.0 x ts rest at s (or_parts (begins (first a) rest) (goes_on a rest) m).1) refl)
whole (unless j k a) ok None ts rest at s m = rw (s, (or_parts (enters j k (first a) rest) (goes_on a rest) m).0) refl
whole (unless j k a) ok (Some x) ts rest at s m =
    let p = and_parts _ _ ok in
    let q = and_parts _ _ p.1 in
    let r = or_parts (alone j a) (among k (seconds j a)) (is_no (alone j a || among k (seconds j a)) q.1) in
    rw (enters_own j k a x ts rest (is_no _ q.0) r.0 r.1 s) (bind_of _ _ x _ _ (whole a p.0 x ts rest at s (or_parts (enters j k (first a) rest) (goes_on a rest) m).1) refl)
whole (many a) ok xs ts rest at s m = let p = and_parts _ _ ok in let q = and_parts _ _ p.1 in
    whole_each a (is_no _ q.0) (and_parts _ _ q.1).0 (whole a p.0) xs ts rest at (length (ts ++ rest)) s m (omega arith)
whole (made f a) ok y ts rest at s m = grind (arith, whole a ok s.0 ts rest, bind_of)
whole (node f a) ok y ts rest at s m =
    let p = and_parts _ _ ok in
    let some : ts ≡ [] → ⊥ = λ e. not_both _ (spelled_empty a s.0 ts e s.2) (is_no _ p.1) in
    bind_of _ _ s.0 _ _ (whole a p.0 s.0 ts rest at s.2 m)
    (ap (λ w. got (f s.0 w) (record { end = end_of at ts; rest = rest })) (span_same at ts rest some)
    ∙ ap (λ v. got v (record { end = end_of at ts; rest = rest })) (sym s.1))
