-- A program that is spelled by real tokens is well formed.
use Rattle.std.proofs.Common.{◌≡◌, ◌∙◌, ap, codes, drop, length-append, ℕ, ◌<◌, ◌≤◌, List, [], ◌∷◌, ◌++◌, length, Option, Some, None, refl, sym, subst, inl, inr, arith}
use Rattle.std.specs.Prelude.{All, IfSome, IsSome, IsNone, ◌^◌}
use Rattle.std.proofs.lemmas.List.Elements.{All-nil, All-cons, All-head, All-tail}
use Rattle.dl_lexer.specs.declared.token.Keyword.TheVariants as words
use Rattle.dl_lexer.specs.declared.token.Sign.TheVariants as signs
use Rattle.dl_lexer.specs.declared.token.Kind.{Kind}
use Rattle.dl_lexer.specs.declared.token.Kind.TheVariants as kinds
use Rattle.dl_lexer.specs.declared.token.Kind.TheVariants.{Word, Sign}
use Rattle.dl_lexer.specs.declared.token.Span.{Span}
use Rattle.dl_lexer.specs.Tokens.{IsSpelled, ref}
use Rattle.dl_ast.specs.declared.ast.UnitAst.{UnitAst}
use Rattle.dl_ast.specs.declared.ast.SevDef.{SevDef}
use Rattle.dl_ast.specs.declared.ast.ZeroAst.{ZeroAst}
use Rattle.dl_ast.specs.declared.ast.PortHead.{PortHead}
use Rattle.dl_ast.specs.declared.ast.Program.{Program}
use Rattle.dl_ast.specs.Lexemes.{Lexeme, IsReal}
use Rattle.dl_ast.specs.Rules.{Rule, one, ◌▸◌, ◌or◌, maybe, many, made, node, Each, Spells, span_of}
use Rattle.dl_ast.specs.Grammar.{◌≫◌, ◌≪◌, ◌means◌, spanned, some_of, numeral, name, note, item, next_item, list, limit, layer, atom, mixture, reference, cost, sev, cession, next_cession, clause, occ, agr, count, zero_change, plain_or, freq, exposure, listed, exposed_unit, listed_unit, unit, common, head, book, sevdef, program}
use Rattle.dl_ast.specs.WellFormed.{IsFormedName, IsFormedNumeral, IsFormedNote, IsFormedItem, IsFormedList, IsFormedLimit, IsFormedLayer, IsFormedAtom, IsFormedMixture, IsFormedReference, IsFormedBody, IsFormedSeverity, IsFormedDefinition, IsFormedCeded, IsFormedCession, IsFormedFrequency, IsFormedZero, IsFormedExposure, IsFormedCount, IsFormedUnit, IsFormedHead, IsWellFormed}

-- what a rule spells by real tokens has this property
record Gives {X : Type 0} (r : Rule X) (P : X → Type 0) : Type 0 where
  gives : (x : X) (ts : List Lexeme) → All IsReal ts → Spells r x ts → P x

-- a list that is real is so in its parts

all_front : (us vs : List Lexeme) → All IsReal (us ++ vs) → All IsReal us
all_front [] vs h = All-nil IsReal
all_front (u ∷ us) vs h = All-cons IsReal u us (All-head IsReal u (us ++ vs) h)
    (all_front us vs (All-tail IsReal u (us ++ vs) h))

all_back : (us vs : List Lexeme) → All IsReal (us ++ vs) → All IsReal vs
all_back [] vs h = h
all_back (u ∷ us) vs h = all_back us vs (All-tail IsReal u (us ++ vs) h)

front_real : (ts us vs : List Lexeme) → ts ≡ us ++ vs → All IsReal ts → All IsReal us
front_real ts us vs e h = all_front us vs (subst (All IsReal) e h)

back_real : (ts us vs : List Lexeme) → ts ≡ us ++ vs → All IsReal ts → All IsReal vs
back_real ts us vs e h = all_back us vs (subst (All IsReal) e h)

-- one law for each way to make a rule

gives_one : (k : Kind) → Gives (one k) (λ t. (t.kind ≡ k) × IsReal t)
gives_one k = record { gives = λ x ts h (e, s). (e, All-head IsReal x [] (subst (All IsReal) s h)) }

gives_seq : {A B : Type 0} {a : Rule A} {b : Rule B} {P : A → Type 0} {Q : B → Type 0} → Gives a P → Gives b Q
    → Gives (a ▸ b) (λ p. P p.0 × Q p.1)
gives_seq {A} {B} {a} {b} {P} {Q} f g = record {
  gives = λ x ts h (us, vs, e, s, t). (
    f.gives x.0 us (front_real ts us vs e h) s,
    g.gives x.1 vs
        (back_real ts us vs e h) t,
  );
}

either : {A : Type 0} (a b : Rule A) (P : A → Type 0) → Gives a P → Gives b P → (x : A) (ts : List Lexeme)
    → All IsReal ts → Spells (a or b) x ts → P x
either a b P f g x ts h (inl s) = f.gives x ts h s
either a b P f g x ts h (inr s) = g.gives x ts h s

gives_or : {A : Type 0} {a b : Rule A} {P : A → Type 0} → Gives a P → Gives b P → Gives (a or b) P
gives_or {A} {a} {b} {P} f g = record { gives = either a b P f g }

optional : {A : Type 0} (a : Rule A) (P : A → Type 0) → Gives a P → (o : Option A) (ts : List Lexeme) → All IsReal ts
    → Spells (maybe a) o ts → IfSome o P
optional a P f None ts h s = tt
optional a P f (Some x) ts h s = f.gives x ts h s

gives_maybe : {A : Type 0} {a : Rule A} {P : A → Type 0} → Gives a P → Gives (maybe a) (λ o. IfSome o P)
gives_maybe {A} {a} {P} f = record { gives = optional a P f }

each : {A : Type 0} (a : Rule A) (P : A → Type 0) → Gives a P → (xs : List A) (ts : List Lexeme) → All IsReal ts
    → Each (Spells a) xs ts → All P xs
each a P f [] ts h s = All-nil P
each a P f (x ∷ xs) ts h (us, vs, e, s, t) = All-cons P x xs (f.gives x us (front_real ts us vs e h) s)
    (each a P f xs vs (back_real ts us vs e h) t)

gives_many : {A : Type 0} {a : Rule A} {P : A → Type 0} → Gives a P → Gives (many a) (All P)
gives_many {A} {a} {P} f = record { gives = each a P f }

gives_made : {A B : Type 0} {f : A → B} {a : Rule A} {P : A → Type 0} {Q : B → Type 0} → Gives a P
    → ((x : A) → P x → Q (f x)) → Gives (made f a) Q
gives_made {A} {B} {f} {a} {P} {Q} g make = record {
  gives = λ y ts h (x, e, s). subst Q (sym e)
      (make x (g.gives x ts h s));
}

gives_node : {A B : Type 0} {f : A → Span → B} {a : Rule A} {P : A → Type 0} {Q : B → Type 0} → Gives a P
    → ((x : A) (span : Span) → P x → Q (f x span)) → Gives (node f a) Q
gives_node {A} {B} {f} {a} {P} {Q} g make = record {
  gives = λ y ts h (x, e, s). subst Q (sym e)
      (make x (span_of ts) (g.gives x ts h s));
}

gives_spanned : {A : Type 0} {r : Rule (Span → A)} {P : A → Type 0} → Gives r (λ make. (span : Span) → P (make span))
    → Gives (spanned r) P
gives_spanned {A} {r} {P} f = gives_node {P = λ make. (span : Span) → P (make span)} f (λ make span h. h span)

gives_behind : {A : Type 0} (k : Kind) {a : Rule A} {P : A → Type 0} → Gives a P → Gives (k ≫ a) P
gives_behind {A} k {a} {P} f = record {
  gives = λ x ts h (p, e, (us, vs, g, s, t)). subst P (sym e)
      (f.gives p.1 vs (back_real ts us vs g h) t);
}

gives_before : {A : Type 0} (k : Kind) {a : Rule A} {P : A → Type 0} → Gives a P → Gives (a ≪ k) P
gives_before {A} k {a} {P} f = record {
  gives = λ x ts h (p, e, (us, vs, g, s, t)). subst P (sym e)
      (f.gives p.0 us (front_real ts us vs g h) s);
}

gives_means : {A : Type 0} (k : Kind) {y : A} {P : A → Type 0} → P y → Gives (k means y) P
gives_means {A} k {y} {P} h = record { gives = λ x ts g (t, e, s). subst P (sym e) h }

gives_some_of : {A : Type 0} {a b : Rule A} {P : A → Type 0} → Gives a P → Gives b P
    → Gives (some_of a b) (λ xs. (0 < length xs) × All P xs)
gives_some_of {A} {a} {b} {P} f g = gives_made (gives_seq f (gives_many g))
    (λ p h. (omega arith, All-cons P p.0 p.1 h.0 h.1))

-- the lines of the grammar

of_kind : (k : Kind) (P : Kind → List ℕ → Type 0) (t : Lexeme) → t.kind ≡ k → P t.kind t.text → P k t.text
of_kind k P t e h = subst (λ j. P j t.text) e h

numeral_given : Gives numeral IsFormedNumeral
unfolding numeral
numeral_given = gives_made (gives_one kinds.Numeral) (λ t h. of_kind kinds.Numeral IsSpelled t h.0 h.1)

name_given : Gives name IsFormedName
unfolding name
name_given = gives_made (gives_one kinds.Name) (λ t h. of_kind kinds.Name IsSpelled t h.0 h.1)

note_given : Gives note IsFormedNote
unfolding note
note_given = gives_made (gives_one kinds.Note) (λ t h. of_kind kinds.Note IsSpelled t h.0 h.1)

item_given : Gives item IsFormedItem
unfolding item
item_given = gives_spanned
    (gives_or (gives_made numeral_given (λ a h span. record { from = h; to = tt; step = tt; beside = λ e. absurd cc }))
    (gives_or (gives_made (gives_seq numeral_given (gives_behind (Sign signs.Colon) numeral_given))
    (λ p h span. record { from = h.0; to = h.1; step = tt; beside = λ e. refl }))
    (gives_made (gives_seq numeral_given (gives_behind (Sign signs.Colon)
    (gives_seq numeral_given (gives_behind (Sign signs.Colon) numeral_given))))
    (λ p h span. record { from = h.0; to = h.1.0; step = h.1.1; beside = λ e. refl }))))

next_item_given : Gives next_item IsFormedItem
unfolding next_item
next_item_given = gives_made (record {
  gives = λ x ts h (us, vs, e, s, t). item_given.gives x.1 vs
      (back_real ts us vs e h) t;
}) (λ p h. h)

items_given : Gives (some_of item next_item) (λ xs. (0 < length xs) × All IsFormedItem xs)
items_given = gives_some_of item_given next_item_given

list_given : Gives list IsFormedList
unfolding list
list_given = gives_node (gives_behind (Sign signs.Open) (gives_before (Sign signs.Close) items_given))
    (λ xs span h. record { some = h.0; items = h.1 })

limit_given : Gives limit IsFormedLimit
unfolding limit
limit_given = gives_or (gives_made numeral_given (λ n h. h)) (gives_means (Word words.Inf) tt)

layer_given : Gives layer IsFormedLayer
unfolding layer
layer_given = gives_node (gives_seq (gives_before (Word words.Xs) limit_given) numeral_given)
    (λ p span h. record { limit = h.0; attach = h.1 })

lists_given : Gives (list ▸ maybe list) (λ p. IsFormedList p.0 × IfSome p.1 IsFormedList)
lists_given = gives_seq list_given (gives_maybe list_given)

atom_given : Gives atom IsFormedAtom
unfolding atom
atom_given = gives_made (gives_or (gives_behind (Word words.Dsev) lists_given) (gives_behind (Word words.Sev)
    (gives_behind (Word words.Dhistogram) (gives_behind (Word words.Xps) lists_given))))
    (λ p h. record { values = h.0; probs = h.1 })

mixture_given : Gives mixture IsFormedMixture
unfolding mixture
mixture_given = gives_spanned (gives_or (gives_made atom_given (λ a h span. record {
  some = omega arith;
  atoms = All-cons IsFormedAtom a [] h (All-nil IsFormedAtom);
  weights = tt;
  several = λ lt. absurd (omega arith);
}))
    (gives_made (gives_seq atom_given (gives_seq (gives_many atom_given) (gives_behind (Word words.Wts) list_given)))
    (λ p h span. record {
      some = omega arith;
      atoms = All-cons IsFormedAtom p.0 p.1.0 h.0 h.1.0;
      weights = h.1.1;
      several = λ lt. refl;
    })))

-- the text of a reference is `sev.` and a name
name_behind : (text : List ℕ) → IsSpelled kinds.Ref text → codes "sev." ++ drop 4 text ≡ text
name_behind text (ref name e word) = ap (λ ys. codes "sev." ++ drop 4 ys) e ∙ sym e

reference_given : Gives reference IsFormedReference
unfolding reference
reference_given = gives_made (gives_one kinds.Ref) (λ t h.
    let spelled : IsSpelled kinds.Ref t.text = of_kind kinds.Ref IsSpelled t h.0 h.1 in
    subst (IsSpelled kinds.Ref) (sym (name_behind t.text spelled)) spelled)

cost_given : Gives cost IsFormedBody
unfolding cost
cost_given = gives_or (gives_made mixture_given (λ m h. h)) (gives_made reference_given (λ n h. h))

sev_given : Gives sev IsFormedSeverity
unfolding sev
sev_given = gives_node (record {
  gives = λ x ts h (us, vs, e, s, t). cost_given.gives x.0 us
      (front_real ts us vs e h) s;
}) (λ p span h. h)

part_given : (k : Kind) → Gives (numeral ▸ k ≫ layer) (λ p. IsFormedNumeral p.0 × IsFormedLayer p.1)
part_given k = gives_seq numeral_given (gives_behind k layer_given)

cession_given : Gives cession IsFormedCeded
unfolding cession
cession_given = gives_spanned (gives_or (gives_made layer_given (λ l h span. record { share = tt; layer = h }))
    (gives_or (gives_made (part_given (Word words.So)) (λ p h span. record { share = h.0; layer = h.1 }))
    (gives_made (part_given (Word words.Po)) (λ p h span. record { share = h.0; layer = h.1 }))))

next_cession_given : Gives next_cession IsFormedCeded
unfolding next_cession
next_cession_given = gives_behind (Word words.And) cession_given

layers_given : Gives (some_of cession next_cession) (λ xs. (0 < length xs) × All IsFormedCeded xs)
layers_given = gives_some_of cession_given next_cession_given

clause_given : (kind : Kind) → Gives (clause kind) IsFormedCession
unfolding clause
clause_given kind = gives_node
    (gives_behind kind (record {
      gives = λ x ts h (us, vs, e, s, t). layers_given.gives x.1 vs
          (back_real ts us vs e h) t;
    })) (λ p span h. record { some = h.0; layers = h.1 })

count_given : Gives count IsFormedFrequency
unfolding count
count_given = gives_spanned (gives_or (gives_means (Word words.Fixed) (λ span. tt))
    (gives_or (gives_means (Word words.Poisson) (λ span. tt))
    (gives_or (gives_means (Word words.Geometric) (λ span. tt))
    (gives_or (gives_means (Word words.Bernoulli) (λ span. tt))
    (gives_or (gives_made (gives_behind (Word words.Binomial) numeral_given) (λ n h span. h))
    (gives_made (gives_behind (Word words.Mixed) (gives_behind (Word words.Gamma) numeral_given)) (λ n h span. h)))))))

zero_given : Gives zero_change IsFormedZero
unfolding zero_change
zero_given = gives_spanned (gives_or (gives_means (Word words.Zt) (λ span. tt))
    (gives_made (gives_behind (Word words.Zm) numeral_given) (λ n h span. h)))

zero_or_plain : (o : Option ZeroAst) → IfSome o IsFormedZero → IsFormedZero (plain_or o)
zero_or_plain None h = tt
zero_or_plain (Some z) h = h

freq_given : Gives freq (λ p. IsFormedFrequency p.0 × IsFormedZero p.1)
unfolding freq
freq_given = gives_made (gives_seq count_given (gives_maybe zero_given)) (λ p h. (h.0, zero_or_plain p.1 h.1))

exposure_given : Gives exposure IsFormedExposure
unfolding exposure
exposure_given = gives_spanned
    (gives_or (gives_made (record {
      gives = λ x ts h (us, vs, e, s, t). numeral_given.gives x.0 us
          (front_real ts us vs e h) s;
    }) (λ p h span. h))
    (gives_or (gives_made (gives_before (Word words.Loss) numeral_given) (λ n h span. h))
    (gives_made (gives_seq numeral_given (record {
      gives = λ x ts h (us, vs, e, s, t).
          (gives_behind (Word words.At) (gives_before (Word words.Lr) numeral_given)).gives x.1 vs
          (back_real ts us vs e h) t;
    })) (λ p h span. h))))

listed_given : Gives listed IsFormedCount
unfolding listed
listed_given = gives_node (gives_behind (Word words.Dfreq) lists_given) (λ p span h. h)

exposed_given : Gives (name ▸ exposure ▸ maybe layer ▸ sev ▸ maybe occ ▸ freq ▸ maybe agr ▸ maybe note)
    (λ (n, (e, (l, (s, (o, (f, (a, t))))))). IsFormedName n ×
    (IsFormedExposure e × (IfSome l IsFormedLayer × (IsFormedSeverity s ×
    (IfSome o IsFormedCession × ((IsFormedFrequency f.0 × IsFormedZero f.1) × (IfSome a IsFormedCession × IfSome t IsFormedNote)))))))
exposed_given = gives_seq name_given (gives_seq exposure_given (gives_seq (gives_maybe layer_given)
    (gives_seq sev_given (gives_seq (gives_maybe (clause_given (Word words.Occurrence)))
    (gives_seq freq_given (gives_seq (gives_maybe (clause_given (Word words.Aggregate))) (gives_maybe note_given)))))))

counted_given : Gives (name ▸ listed ▸ maybe layer ▸ sev ▸ maybe occ ▸ maybe agr ▸ maybe note)
    (λ (n, (c, (l, (s, (o, (a, t)))))). IsFormedName n ×
    (IsFormedCount c × (IfSome l IsFormedLayer
    × (IsFormedSeverity s × (IfSome o IsFormedCession × (IfSome a IsFormedCession × IfSome t IsFormedNote))))))
counted_given = gives_seq name_given (gives_seq listed_given (gives_seq (gives_maybe layer_given)
    (gives_seq sev_given (gives_seq (gives_maybe (clause_given (Word words.Occurrence)))
    (gives_seq (gives_maybe (clause_given (Word words.Aggregate))) (gives_maybe note_given))))))

formed : (u : UnitAst) → IsFormedName u.name → IsFormedCount u.count → IfSome u.layer IsFormedLayer
    → IsFormedSeverity u.sev → IfSome u.occ IsFormedCession → IfSome u.agr IsFormedCession → IfSome u.note IsFormedNote
    → IsFormedUnit u
formed u n c l s o a t = record { name = n; count = c; layer = l; sev = s; occ = o; agr = a; note = t }

unit_given : Gives unit IsFormedUnit
unfolding unit
unit_given = gives_or (gives_made (gives_behind (Word words.Agg) exposed_given)
    (λ p (n, (e, (l, (s, (o, (f, (a, t))))))). formed (exposed_unit p) n (e, f) l s o a t))
    (gives_made (gives_behind (Word words.Agg) counted_given)
    (λ p (n, (c, (l, (s, (o, (a, t)))))). formed (listed_unit p) n c l s o a t))

common_given : Gives common IsFormedNumeral
unfolding common
common_given = gives_behind (Word words.Common) numeral_given

head_given : Gives head IsFormedHead
unfolding head
head_given = gives_made (gives_behind (Word words.Port)
    (gives_seq name_given (gives_seq (gives_maybe common_given) (gives_maybe note_given))))
    (λ p h. record { name = h.0; common = h.1.0; note = h.1.1 })

units_given : Gives (some_of unit unit) (λ xs. (0 < length xs) × All IsFormedUnit xs)
units_given = gives_some_of unit_given unit_given

-- a program of one unit, or of a port line and its units
record IsFormedBook (b : Option PortHead × List UnitAst) : Type 0 where
  pub head : IfSome b.0 IsFormedHead
  pub some : 0 < length b.1
  pub units : All IsFormedUnit b.1
  pub one : IsNone b.0 → length b.1 ≡ 1

book_given : Gives book IsFormedBook
unfolding book
book_given = gives_or
    (gives_made unit_given (λ u h. record {
      head = tt;
      some = omega arith;
      units = All-cons IsFormedUnit u [] h
          (All-nil IsFormedUnit);
      one = λ e. refl;
    }))
    (gives_made (gives_seq head_given units_given)
    (λ p h. record { head = h.0; some = h.1.0; units = h.1.1; one = λ e. absurd cc }))

definition_given : Gives sevdef IsFormedDefinition
unfolding sevdef
definition_given = gives_node (gives_behind (Word words.Sev) (gives_seq name_given mixture_given))
    (λ p span h. record { name = h.0; mix = h.1 })

program_given : Gives program (λ p. length p.sevs < 2 ^ 32 → IsWellFormed p)
unfolding program
program_given = gives_made (gives_seq (gives_many definition_given) book_given) (λ p h few. record {
  few = few;
  sevs = h.0;
  head = h.1.head;
  some = h.1.some;
  units = h.1.units;
  one = h.1.one;
})

-- each definition takes a token

takes_one : (d : SevDef) (ts : List Lexeme) → Spells sevdef d ts → 0 < length ts
unfolding sevdef
takes_one d ts (p, e, (q, f, (us, vs, g, (k, s), t))) = omega (arith, ap length g, length-append us vs, ap length s)

take_each : (ds : List SevDef) (ts : List Lexeme) → Each (Spells sevdef) ds ts → length ds ≤ length ts
take_each [] ts s = omega arith
take_each (d ∷ ds) ts (us, vs, e, s, t) =
    omega (arith, ap length e, length-append us vs, takes_one d us s, take_each ds vs t)

few_definitions : (p : Program) (ts : List Lexeme) → Spells program p ts → length p.sevs ≤ length ts
unfolding program
few_definitions p ts (q, e, (us, vs, f, s, t)) =
    omega (arith, ap (λ (r : Program). length r.sevs) e, ap length f, length-append us vs, take_each q.0 us s)

pub program_formed : (p : Program) (ts : List Lexeme) → All IsReal ts → length ts < 2 ^ 32 → Spells program p ts
    → IsWellFormed p
program_formed p ts h few s = program_given.gives p ts h s (omega (arith, few_definitions p ts s))
