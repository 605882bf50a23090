-- What the tokens of a spelling begin with, and what stands second.
use Rattle.dl_parser.proofs.Common.{◌≡◌, ℕ, Bool, true, false, cond, ◌&&◌, ◌||◌, List, [], ◌∷◌, ◌++◌, Some, None, refl, sym, ap, ◌∙◌, ◌⊎◌, inl, inr, Kind, Lexeme, Rule, one, ◌▸◌, ◌or◌, maybe, many, unless, made, node, Each, Spells, end_of, State, Outcome, got, stuck, ◌>>=◌, among, is_empty, first, alone, seconds}
use Rattle.dl_parser.proofs.Sets.{same_self, among_append}

-- the outcome of a chain, by its first part

pub bind_got : {A B : Type 0} (o : Outcome A) (f : A → State → Outcome B) (y : B) (q : State) → (o >>= f) ≡ got y q
    → (x : A) × (s : State) × (o ≡ got x s) × (f x s ≡ got y q)
bind_got (got x s) f y q e = (x, s, refl, e)
bind_got (stuck k s) f y q e = absurd cc

pub bind_stuck : {A B : Type 0} (o : Outcome A) (f : A → State → Outcome B) (k : Kind) (q : State)
    → (o >>= f) ≡ stuck k q
    → (o ≡ stuck k q) ⊎ ((x : A) × (s : State) × (o ≡ got x s) × (f x s ≡ stuck k q))
bind_stuck (got x s) f k q e = inr (x, s, refl, e)
bind_stuck (stuck j s) f k q e = inl cc

pub chosen : {A : Type 0} (b : Bool) (x y z : A) → cond b x y ≡ z → ((b ≡ true) × (x ≡ z)) ⊎ ((b ≡ false) × (y ≡ z))
chosen true x y z e = inl (refl, e)
chosen false x y z e = inr (refl, e)

-- lists

pub end_append : (at : ℕ) (us vs : List Lexeme) → end_of at (us ++ vs) ≡ end_of (end_of at us) vs
end_append at [] vs = refl
end_append at (u ∷ us) vs = end_append u.span.end us vs

pub no_append : (us vs : List Lexeme) → [] ≡ us ++ vs → (us ≡ []) × (vs ≡ [])
no_append [] vs e = (refl, sym e)
no_append (u ∷ us) vs e = absurd cc

-- what spells something by no tokens, and by what token a spelling begins

pub spelled_empty : {X : Type 0} (r : Rule X) (x : X) (ts : List Lexeme) → ts ≡ [] → Spells r x ts → is_empty r ≡ true
spelled_empty (one k) x ts e s = absurd (cc (s.1))
spelled_empty (a ▸ b) x ts e s = let parts = no_append s.0 s.1 (sym e ∙ s.2) in
    rw (spelled_empty a x.0 s.0 parts.0 s.3, spelled_empty b x.1 s.1 parts.1 s.4) refl
spelled_empty (a or b) x ts e (inl s) = rw (spelled_empty a x ts e s) refl
spelled_empty (a or b) x ts e (inr s) =
    rw (spelled_empty b x ts e s) (elim (is_empty a) as (λ c. (c || true) ≡ true) [ true ↦ refl | false ↦ refl ])
spelled_empty (maybe a) x ts e s = refl
spelled_empty (many a) x ts e s = refl
spelled_empty (unless j k a) x ts e s = refl
spelled_empty (made f a) x ts e s = spelled_empty a s.0 ts e s.2
spelled_empty (node f a) x ts e s = spelled_empty a s.0 ts e s.2

abbrev FirstIs : {X : Type 0} → Rule X → X → Type 0
FirstIs r x = (us : List Lexeme) (t : Lexeme) (ts : List Lexeme) → us ≡ t ∷ ts → Spells r x us
    → among t.kind (first r) ≡ true

pub among_left : (k : Kind) (js ks : List Kind) → among k js ≡ true → among k (js ++ ks) ≡ true
among_left k js ks h = rw (among_append k js ks, h) refl

pub among_right : (k : Kind) (js ks : List Kind) → among k ks ≡ true → among k (js ++ ks) ≡ true
among_right k js ks h =
    rw (among_append k js ks, h) (elim (among k js) as (λ b. (b || true) ≡ true) [ true ↦ refl | false ↦ refl ])

first_seq : {A B : Type 0} (a : Rule A) (b : Rule B) (x : A) (y : B) → FirstIs a x → FirstIs b y
    → (us vs : List Lexeme) (t : Lexeme) (ts : List Lexeme)
    → us ++ vs ≡ t ∷ ts → Spells a x us → Spells b y vs → among t.kind (first (a ▸ b)) ≡ true
first_seq a b x y fa fb [] vs t ts e sa sb =
    rw (spelled_empty a x [] refl sa) (among_right t.kind (first a) (first b) (fb vs t ts e sb))
first_seq a b x y fa fb (u ∷ us) vs t ts e sa sb =
    let same : u ≡ t = cc in among_left t.kind (first a) _ (fa (u ∷ us) t us (ap (λ v. v ∷ us) same) sa)

first_some : {A : Type 0} (a : Rule A) → ((x : A) → FirstIs a x)
    → (x : A) (xs : List A) (us vs : List Lexeme) (t : Lexeme) (ts : List Lexeme) → us ++ vs ≡ t ∷ ts → Spells a x us
    → (vs ≡ t ∷ ts → among t.kind (first a) ≡ true) → among t.kind (first a) ≡ true
first_some a fa x xs [] vs t ts e s next = next e
first_some a fa x xs (u ∷ us) vs t ts e s next = let same : u ≡ t = cc in fa x (u ∷ us) t us (ap (λ v. v ∷ us) same) s

first_each : {A : Type 0} (a : Rule A) → ((x : A) → FirstIs a x)
    → (xs : List A) (us : List Lexeme) (t : Lexeme) (ts : List Lexeme) → us ≡ t ∷ ts → Each (Spells a) xs us
    → among t.kind (first a) ≡ true
first_each a fa [] us t ts e s = absurd (cc (s))
first_each a fa (x ∷ xs) us t ts e s =
    first_some a fa x xs s.0 s.1 t ts (sym s.2 ∙ e) s.3 (λ h. first_each a fa xs s.1 t ts h s.4)

pub first_is : {X : Type 0} (r : Rule X) (x : X) → FirstIs r x
first_is (one k) x us t ts e s =
    let same : x ≡ t = cc (s.1) in
    rw (same_self t.kind k (ap (λ y. y.kind) (sym same) ∙ s.0)) refl
first_is (a ▸ b) x us t ts e s =
    first_seq a b x.0 x.1 (first_is a x.0) (first_is b x.1) s.0 s.1 t ts (sym s.2 ∙ e) s.3 s.4
first_is (a or b) x us t ts e (inl s) = among_left t.kind (first a) (first b) (first_is a x us t ts e s)
first_is (a or b) x us t ts e (inr s) = among_right t.kind (first a) (first b) (first_is b x us t ts e s)
first_is (maybe a) None us t ts e s = absurd (cc (s))
first_is (maybe a) (Some x) us t ts e s = first_is a x us t ts e s
first_is (unless j k a) None us t ts e s = absurd (cc (s))
first_is (unless j k a) (Some x) us t ts e s = first_is a x us t ts e s
first_is (many a) xs us t ts e s = first_each a (first_is a) xs us t ts e s
first_is (made f a) x us t ts e s = first_is a s.0 us t ts e s.2
first_is (node f a) x us t ts e s = first_is a s.0 us t ts e s.2

-- what stands alone, and what stands second

true_left : (b c : Bool) → b ≡ true → (b || c) ≡ true
true_left b c h = rw h refl

pub true_right : (b c : Bool) → c ≡ true → (b || c) ≡ true
true_right true c h = refl
true_right false c h = h

abbrev AloneIs : {X : Type 0} → Kind → Rule X → X → Type 0
AloneIs j r x = (us : List Lexeme) (t : Lexeme) → us ≡ t ∷ [] → t.kind ≡ j → Spells r x us → alone j r ≡ true

alone_seq : {A B : Type 0} (j : Kind) (a : Rule A) (b : Rule B) (x : A) (y : B) → AloneIs j a x → AloneIs j b y → (us vs : List Lexeme) (t : Lexeme) → us ++ vs ≡ t ∷ [] → t.kind ≡ j → Spells a x us → Spells b y vs
    → alone j (a ▸ b) ≡ true
alone_seq j a b x y fa fb [] vs t e h sa sb = rw (spelled_empty a x [] refl sa, fb vs t e h sb) (true_right (alone j a && is_empty b) true refl)
alone_seq j a b x y fa fb (u ∷ us) vs t e h sa sb =
    let same : u ≡ t = cc in
    let tail : [] ≡ us ++ vs = cc in
    let ends = no_append us vs tail in
    rw (fa (u ∷ us) t (ap (λ v. v ∷ us) same ∙ ap (λ zs. t ∷ zs) ends.0) h sa, spelled_empty b y vs ends.1 sb) refl

alone_some : {A : Type 0} (j : Kind) (a : Rule A) → ((x : A) → AloneIs j a x) → (x : A) (us vs : List Lexeme) (t : Lexeme) → us ++ vs ≡ t ∷ [] → t.kind ≡ j → Spells a x us → (vs ≡ t ∷ [] → alone j a ≡ true) → alone j a ≡ true
alone_some j a fa x [] vs t e h s next = next e
alone_some j a fa x (u ∷ us) vs t e h s next =
    let same : u ≡ t = cc in
    let tail : [] ≡ us ++ vs = cc in
    fa x (u ∷ us) t (ap (λ v. v ∷ us) same ∙ ap (λ zs. t ∷ zs) (no_append us vs tail).0) h s

alone_each : {A : Type 0} (j : Kind) (a : Rule A) → ((x : A) → AloneIs j a x) → (xs : List A) (us : List Lexeme) (t : Lexeme) → us ≡ t ∷ [] → t.kind ≡ j → Each (Spells a) xs us → alone j a ≡ true
alone_each j a fa [] us t e h s = absurd (cc (s))
alone_each j a fa (x ∷ xs) us t e h s = alone_some j a fa x s.0 s.1 t (sym s.2 ∙ e) h s.3 (λ g. alone_each j a fa xs s.1 t g h s.4)

pub alone_is : {X : Type 0} (j : Kind) (r : Rule X) (x : X) → AloneIs j r x
alone_is j (one k) x us t e h s = let same : x ≡ t = cc (s.1) in same_self k j (sym s.0 ∙ ap (λ y. y.kind) same ∙ h)
alone_is j (a ▸ b) x us t e h s = alone_seq j a b x.0 x.1 (alone_is j a x.0) (alone_is j b x.1) s.0 s.1 t (sym s.2 ∙ e) h s.3 s.4
alone_is j (a or b) x us t e h (inl s) = true_left (alone j a) (alone j b) (alone_is j a x us t e h s)
alone_is j (a or b) x us t e h (inr s) = true_right (alone j a) (alone j b) (alone_is j b x us t e h s)
alone_is j (maybe a) None us t e h s = absurd (cc (s))
alone_is j (maybe a) (Some x) us t e h s = alone_is j a x us t e h s
alone_is j (unless i k a) None us t e h s = absurd (cc (s))
alone_is j (unless i k a) (Some x) us t e h s = alone_is j a x us t e h s
alone_is j (many a) xs us t e h s = alone_each j a (alone_is j a) xs us t e h s
alone_is j (made f a) x us t e h s = alone_is j a s.0 us t e h s.2
alone_is j (node f a) x us t e h s = alone_is j a s.0 us t e h s.2

abbrev SecondIs : {X : Type 0} → Kind → Rule X → X → Type 0
SecondIs j r x = (us : List Lexeme) (t u : Lexeme) (ts : List Lexeme) → us ≡ t ∷ u ∷ ts → t.kind ≡ j → Spells r x us → among u.kind (seconds j r) ≡ true

second_seq : {A B : Type 0} (j : Kind) (a : Rule A) (b : Rule B) (x : A) (y : B) → SecondIs j a x → SecondIs j b y → (us vs : List Lexeme) (t u : Lexeme) (ts : List Lexeme) → us ++ vs ≡ t ∷ u ∷ ts → t.kind ≡ j
    → Spells a x us → Spells b y vs → among u.kind (seconds j (a ▸ b)) ≡ true
second_seq j a b x y fa fb [] vs t u ts e h sa sb =
    rw (spelled_empty a x [] refl sa) (among_right u.kind (seconds j a) _ (among_right u.kind (cond (alone j a) (first b) []) (seconds j b) (fb vs t u ts e h sb)))
second_seq j a b x y fa fb (w ∷ []) vs t u ts e h sa sb =
    let same : w ≡ t = cc in
    let tail : vs ≡ u ∷ ts = cc in
    rw (alone_is j a x (w ∷ []) t (ap (λ v. v ∷ []) same) h sa)
    (among_right u.kind (seconds j a) _ (among_left u.kind (first b) _ (first_is b y vs u ts tail sb)))
second_seq j a b x y fa fb (w ∷ (v ∷ us)) vs t u ts e h sa sb =
    let same : w ≡ t = cc in
    let next : v ≡ u = cc in
    among_left u.kind (seconds j a) _ (fa (w ∷ (v ∷ us)) t u us (ap (λ z. z ∷ (v ∷ us)) same ∙ ap (λ z. t ∷ z ∷ us) next) h sa)

second_some : {A : Type 0} (j : Kind) (a : Rule A) → ((x : A) → SecondIs j a x) → (x : A) (xs : List A) (us vs : List Lexeme) (t u : Lexeme) (ts : List Lexeme) → us ++ vs ≡ t ∷ u ∷ ts → t.kind ≡ j
    → Spells a x us → Each (Spells a) xs vs → (vs ≡ t ∷ u ∷ ts → among u.kind (seconds j (many a)) ≡ true) → among u.kind (seconds j (many a)) ≡ true
second_some j a fa x xs [] vs t u ts e h s ss next = next e
second_some j a fa x xs (w ∷ []) vs t u ts e h s ss next =
    let same : w ≡ t = cc in
    let tail : vs ≡ u ∷ ts = cc in
    rw (alone_is j a x (w ∷ []) t (ap (λ v. v ∷ []) same) h s)
    (among_right u.kind (seconds j a) (first a) (first_each a (first_is a) xs vs u ts tail ss))
second_some j a fa x xs (w ∷ (v ∷ us)) vs t u ts e h s ss next =
    let same : w ≡ t = cc in
    let after : v ≡ u = cc in
    among_left u.kind (seconds j a) _ (fa x (w ∷ (v ∷ us)) t u us (ap (λ z. z ∷ (v ∷ us)) same ∙ ap (λ z. t ∷ z ∷ us) after) h s)

second_each : {A : Type 0} (j : Kind) (a : Rule A) → ((x : A) → SecondIs j a x) → (xs : List A) (us : List Lexeme) (t u : Lexeme) (ts : List Lexeme) → us ≡ t ∷ u ∷ ts → t.kind ≡ j → Each (Spells a) xs us
    → among u.kind (seconds j (many a)) ≡ true
second_each j a fa [] us t u ts e h s = absurd (cc (s))
second_each j a fa (x ∷ xs) us t u ts e h s = second_some j a fa x xs s.0 s.1 t u ts (sym s.2 ∙ e) h s.3 s.4 (λ g. second_each j a fa xs s.1 t u ts g h s.4)

pub second_is : {X : Type 0} (j : Kind) (r : Rule X) (x : X) → SecondIs j r x
second_is j (one k) x us t u ts e h s = absurd (cc (s.1))
second_is j (a ▸ b) x us t u ts e h s = second_seq j a b x.0 x.1 (second_is j a x.0) (second_is j b x.1) s.0 s.1 t u ts (sym s.2 ∙ e) h s.3 s.4
second_is j (a or b) x us t u ts e h (inl s) = among_left u.kind (seconds j a) (seconds j b) (second_is j a x us t u ts e h s)
second_is j (a or b) x us t u ts e h (inr s) = among_right u.kind (seconds j a) (seconds j b) (second_is j b x us t u ts e h s)
second_is j (maybe a) None us t u ts e h s = absurd (cc (s))
second_is j (maybe a) (Some x) us t u ts e h s = second_is j a x us t u ts e h s
second_is j (unless i k a) None us t u ts e h s = absurd (cc (s))
second_is j (unless i k a) (Some x) us t u ts e h s = second_is j a x us t u ts e h s
second_is j (many a) xs us t u ts e h s = second_each j a (second_is j a) xs us t u ts e h s
second_is j (made f a) x us t u ts e h s = second_is j a s.0 us t u ts e h s.2
second_is j (node f a) x us t u ts e h s = second_is j a s.0 us t u ts e h s.2
