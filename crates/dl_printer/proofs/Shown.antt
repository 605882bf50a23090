-- Tokens that are these pieces, wherever they stand, spell something by a rule: what it is apart from spans is known.
use Rattle.dl_printer.proofs.Common.{◌≡◌, ◌∙◌, ℕ, List, [], ◌∷◌, ◌++◌, map, Option, Some, None, refl, ap, subst, flat_map, IsSpelled, Lexeme, Piece, piece, optional, inl, inr, All, IfSome, option_map, All-head, All-tail, All-nil, All-cons, All-append, Kind, Span, Rule, one, ◌▸◌, maybe, many, Spells, ◌or◌, made, node, span_of, ◌≫◌, ◌≪◌, ◌means◌, some_of, spanned}

-- a token without its place
abbrev pub piece_of : Lexeme → Piece
piece_of t = record { kind = t.kind; text = t.text }

abbrev pub pieces_of : List Lexeme → List Piece
pieces_of ts = map piece_of ts

-- spelled as its kind says
abbrev pub IsPiece : Piece → Type 0
IsPiece p = IsSpelled p.kind p.text

-- what some tokens spell by a rule, as f sees it
pub record SpellsAs {X S : Type 0} (r : Rule X) (f : X → S) (s : S) (ts : List Lexeme) : Type 0 where
  pub value : X
  pub same : f value ≡ s
  pub spelled : Spells r value ts

-- these pieces are tokens, and wherever they stand they spell this
pub record Shows {X S : Type 0} (r : Rule X) (f : X → S) (s : S) (ps : List Piece) : Type 0 where
  pub real : All IsPiece ps
  pub shows : (ts : List Lexeme) → pieces_of ts ≡ ps → SpellsAs r f s ts

-- tokens that show two lists of pieces are two lists of tokens
record Split (us vs : List Piece) (ts : List Lexeme) : Type 0 where
  pub front : List Lexeme
  pub back : List Lexeme
  pub whole : ts ≡ front ++ back
  pub first : pieces_of front ≡ us
  pub second : pieces_of back ≡ vs

split : (us vs : List Piece) (ts : List Lexeme) → pieces_of ts ≡ us ++ vs → Split us vs ts
split [] vs ts e = record { front = []; back = ts; whole = refl; first = refl; second = e }
split (u ∷ us) vs [] e = absurd cc
split (u ∷ us) vs (t ∷ ts) e =
    let head : piece_of t ≡ u = cc in
    let tail : pieces_of ts ≡ us ++ vs = cc in
    let rest = split us vs ts tail in
    record {
      front = t ∷ rest.front;
      back = rest.back;
      whole = ap (λ xs. t ∷ xs) rest.whole;
      first = ap (λ p. p ∷ pieces_of rest.front) head ∙ ap (λ ps. u ∷ ps) rest.first;
      second = rest.second;
    }

-- one token

one_shown : (p : Piece) (ts : List Lexeme) → pieces_of ts ≡ p ∷ [] → SpellsAs (one p.kind) piece_of p ts
one_shown p [] e = absurd cc
one_shown p (t ∷ []) e =
    let head : piece_of t ≡ p = cc in record { value = t; same = head; spelled = (ap (λ q. q.kind) head, refl) }
one_shown p (t ∷ u ∷ ts) e = absurd cc

pub shows_one : (k : Kind) (text : List ℕ) → IsSpelled k text
    → Shows (one k) piece_of (record { kind = k; text = text }) (piece k text)
unfolding piece
shows_one k text h = record {
  real = All-cons IsPiece (record { kind = k; text = text }) [] h
      (All-nil IsPiece);
  shows = one_shown (record { kind = k; text = text });
}

-- the ways to make a rule

-- where tokens that spell by the one rule spell by the other
shows_by : {A B S T : Type 0} {a : Rule A} {b : Rule B} {f : A → S} {g : B → T} {s : S} {t : T} {us : List Piece}
    → Shows a f s us
    → ((ts : List Lexeme) → SpellsAs a f s ts → SpellsAs b g t ts) → Shows b g t us
shows_by x on = record { real = x.real; shows = λ ts e. on ts (x.shows ts e) }

pub shows_seq : {A B S T : Type 0} {a : Rule A} {b : Rule B} {f : A → S} {g : B → T} {s : S} {t : T}
    {us vs : List Piece} → Shows a f s us
    → Shows b g t vs
    → Shows {X = A × B} {S = S × T} (a ▸ b) (λ p. (f p.0, g p.1)) (s, t) (us ++ vs)
shows_seq {A} {B} {S} {T} {a} {b} {f} {g} {s} {t} {us} {vs} x y = record {
  real = All-append IsPiece us vs x.real y.real;
  shows = λ ts e. let parts = split us vs ts e in
      let left = x.shows parts.front parts.first in
      let right = y.shows parts.back parts.second in
      record {
        value = (left.value, right.value);
        same = ap (λ v. (v, g right.value)) left.same
            ∙ ap (λ w. (s, w)) right.same;
        spelled = (parts.front, parts.back, parts.whole, left.spelled, right.spelled);
      };
}

pub shows_left : {A S : Type 0} {a b : Rule A} {f : A → S} {s : S} {us : List Piece} → Shows a f s us
    → Shows (a or b) f s us
shows_left x = shows_by x (λ ts left. record { value = left.value; same = left.same; spelled = inl left.spelled })

pub shows_right : {A S : Type 0} {a b : Rule A} {f : A → S} {s : S} {us : List Piece} → Shows b f s us
    → Shows (a or b) f s us
shows_right x = shows_by x (λ ts right. record { value = right.value; same = right.same; spelled = inr right.spelled })

-- what no tokens spell
shows_nothing : {A S : Type 0} {a : Rule A} {f : A → S} (x : A) → ((ts : List Lexeme) → ts ≡ [] → Spells a x ts)
    → Shows a f (f x) []
shows_nothing x spelled = record {
  real = All-nil IsPiece;
  shows = λ ts e. record { value = x; same = refl; spelled = spelled ts (no_tokens ts e) };
}
  where
    no_tokens : (ts : List Lexeme) → pieces_of ts ≡ [] → ts ≡ []
    no_tokens [] e = refl
    no_tokens (t ∷ ts) e = absurd cc

pub shows_none : {A S : Type 0} {a : Rule A} {f : A → S} → Shows (maybe a) (option_map f) None []
shows_none = shows_nothing None (λ ts e. e)

pub shows_some : {A S : Type 0} {a : Rule A} {f : A → S} {s : S} {us : List Piece} → Shows a f s us
    → Shows (maybe a) (option_map f) (Some s) us
shows_some x = shows_by x (λ ts some. record {
  value = Some some.value;
  same = ap Some some.same;
  spelled = some.spelled;
})

pub shows_maybe : {A S : Type 0} {a : Rule A} {f : A → S} {pieces : A → List Piece} {P : A → Type 0}
    → ((x : A) → P x → Shows a f (f x) (pieces x))
    → (o : Option A) → IfSome o P → Shows (maybe a) (option_map f) (option_map f o) (optional pieces o)
unfolding optional
shows_maybe {A} {S} {a} {f} {pieces} {P} each None h = shows_none
shows_maybe {A} {S} {a} {f} {pieces} {P} each (Some x) h = shows_some (each x h)

many_shown : {A S : Type 0} (a : Rule A) (f : A → S) (s : S) (ss : List S) (us vs : List Piece) → Shows a f s us
    → Shows (many a) (map f) ss vs → Shows (many a) (map f) (s ∷ ss) (us ++ vs)
many_shown a f s ss us vs x y = shows_by (shows_seq x y) (λ ts all. record {
  value = all.value.0 ∷ all.value.1;
  same = ap (λ p. p.0 ∷ p.1) all.same;
  spelled = all.spelled;
})

pub shows_many : {A S : Type 0} {a : Rule A} {f : A → S} {pieces : A → List Piece} {P : A → Type 0}
    → ((x : A) → P x → Shows a f (f x) (pieces x))
    → (xs : List A) → All P xs → Shows (many a) (map f) (map f xs) (flat_map pieces xs)
shows_many {A} {S} {a} {f} {pieces} {P} each [] h = shows_nothing [] (λ ts e. e)
shows_many {A} {S} {a} {f} {pieces} {P} each (x ∷ xs) h = many_shown a f (f x) (map f xs) (pieces x)
    (flat_map pieces xs) (each x (All-head P x xs h)) (shows_many each xs (All-tail P x xs h))

pub shows_made : {A B S T : Type 0} {h : A → B} {a : Rule A} {f : A → S} {g : B → T} {s : S} {t : T} {us : List Piece}
    → Shows a f s us
    → ((y : A) → f y ≡ s → g (h y) ≡ t)
    → Shows (made h a) g t us
shows_made {A} {B} {S} {T} {h} x same = shows_by x (λ ts inner. record {
  value = h inner.value;
  same = same inner.value inner.same;
  spelled = (inner.value, refl, inner.spelled);
})

pub shows_node : {A B S T : Type 0} {h : A → Span → B} {a : Rule A} {f : A → S} {g : B → T} {s : S} {t : T}
    {us : List Piece}
    → Shows a f s us
    → ((y : A) (span : Span) → f y ≡ s → g (h y span) ≡ t) → Shows (node h a) g t us
shows_node {A} {B} {S} {T} {h} x same = shows_by x (λ ts inner. record {
  value = h inner.value (span_of ts);
  same = same inner.value (span_of ts) inner.same;
  spelled = (inner.value, refl, inner.spelled);
})

-- an alternative that needs the span of the whole
pub shows_spanned : {A S : Type 0} {r : Rule (Span → A)} {g : A → S} {t : S} {us : List Piece}
    → Shows {S = Span → S} r (λ make at. g (make at)) (λ _. t) us → Shows (spanned r) g t us
shows_spanned {A} {S} {r} {g} {t} {us} x = shows_node {f = λ make at. g (make at)} {s = λ _. t} x
    (λ make at e. ap (λ m. m at) e)

-- the same, seen in another way
pub shows_seen : {A S T : Type 0} {a : Rule A} {f : A → S} {g : A → T} {s : S} {t : T} {us : List Piece}
    → Shows a f s us
    → ((y : A) → f y ≡ s → g y ≡ t) → Shows a g t us
shows_seen x same =
    shows_by x (λ ts inner. record { value = inner.value; same = same inner.value inner.same; spelled = inner.spelled })

-- a token before or behind

pub shows_behind : {A S : Type 0} (k : Kind) (text : List ℕ) {a : Rule A} {f : A → S} {s : S} {us : List Piece}
    → IsSpelled k text
    → Shows a f s us → Shows (k ≫ a) f s (piece k text ++ us)
shows_behind {A} {S} k text {a} {f} {s} {us} h x = shows_made (shows_seq (shows_one k text h) x)
    (λ p e. ap (λ q. q.1) e)

pub shows_before : {A S : Type 0} (k : Kind) (text : List ℕ) {a : Rule A} {f : A → S} {s : S} {us : List Piece}
    → IsSpelled k text
    → Shows a f s us → Shows (a ≪ k) f s (us ++ piece k text)
shows_before {A} {S} k text {a} {f} {s} {us} h x = shows_made (shows_seq x (shows_one k text h))
    (λ p e. ap (λ q. q.0) e)

pub shows_means : {A S : Type 0} (k : Kind) (text : List ℕ) {x : A} {f : A → S} → IsSpelled k text
    → Shows (k means x) f (f x) (piece k text)
shows_means {A} {S} k text {x} {f} h = shows_made (shows_one k text h) (λ y e. refl)

-- the first, and then any number of others
pub shows_some_of : {A S : Type 0} {a b : Rule A} {f : A → S} {first others : A → List Piece} {P : A → Type 0}
    → ((x : A) → P x → Shows a f (f x) (first x)) → ((x : A) → P x → Shows b f (f x) (others x))
    → (x : A) (xs : List A) → P x → All P xs
    → Shows (some_of a b) (map f) (map f (x ∷ xs)) (first x ++ flat_map others xs)
shows_some_of {A} {S} {a} {b} {f} {first} {others} {P} m n x xs h hs = shows_made
    (shows_seq (m x h) (shows_many n xs hs)) (λ p e. ap (λ q. q.0 ∷ q.1) e)

-- the same pieces in other brackets
pub shows_as : {A S : Type 0} {a : Rule A} {f : A → S} {s : S} {us vs : List Piece} → Shows a f s us → us ≡ vs
    → Shows a f s vs
shows_as {A} {S} {a} {f} {s} {us} {vs} x e = subst (λ ps. Shows a f s ps) e x
