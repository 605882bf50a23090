-- Kinds, and lists of them.
use Rattle.dl_parser.proofs.Common.{◌≡◌, ◌∙◌, Bool, true, false, cond, ◌||◌, List, [], ◌∷◌, ◌++◌, refl, sym, ap, subst, rules, Kind, Word, Sign, same_kind, among, apart, get_or, list_any_at, list_any-append, Contains, Contains-from_any}
use denote.Enum.Bare.{same_true, true_same}
use Rattle.dl_lexer.specs.contracts.token.Keyword.{the_type as keywords}
use Rattle.dl_lexer.specs.contracts.token.Sign.{the_type as signs}
use Rattle.dl_lexer.specs.declared.token.Kind.TheVariants.{Name, Ref, Numeral, Note}

false_not_true : false ≡ true → ⊥
false_not_true h = cc

pub same_is : (a b : Kind) → same_kind a b ≡ true → a ≡ b
same_is (Word a) (Word b) h = ap Word (same_true keywords (search rules) a b h)
same_is (Sign a) (Sign b) h = ap Sign (same_true signs (search rules) a b h)
same_is Name Name h = refl
same_is Ref Ref h = refl
same_is Numeral Numeral h = refl
same_is Note Note h = refl
same_is _ _ h = absurd (false_not_true h)

self : (a : Kind) → same_kind a a ≡ true
self (Word a) = true_same keywords a a refl
self (Sign a) = true_same signs a a refl
self Name = refl
self Ref = refl
self Numeral = refl
self Note = refl

pub same_self : (a b : Kind) → a ≡ b → same_kind a b ≡ true
same_self a b e = subst (λ k. same_kind a k ≡ true) e (self a)

pub among_append : (k : Kind) (js ks : List Kind) → among k (js ++ ks) ≡ (among k js || among k ks)
among_append k js ks = list_any-append (same_kind k) js ks

-- a kind of one list is not in the other
abbrev ApartAt : List Kind → List Kind → Kind → Type 0
ApartAt js ks k = apart js ks ≡ true → among k ks ≡ true → among k js ≡ false

apart_step : (j : Kind) (js ks : List Kind) (k : Kind) → ApartAt js ks k → (b : Bool) → among j ks ≡ b → (s : Bool)
    → same_kind k j ≡ s
    → cond b false (apart js ks) ≡ true → among k ks ≡ true → (s || among k js) ≡ false
apart_step j js ks k rest true e s d g m = absurd (false_not_true g)
apart_step j js ks k rest false e true d g m =
    absurd (false_not_true (sym e ∙ ap (λ i. among i ks) (sym (same_is k j d)) ∙ m))
apart_step j js ks k rest false e false d g m = rest g m

pub apart_at : (js ks : List Kind) (k : Kind) → ApartAt js ks k
apart_at [] ks k h m = refl
apart_at (j ∷ js) ks k h m = apart_step j js ks k (apart_at js ks k) (among j ks) refl (same_kind k j) refl h m

-- the test of a kind tells that it is in the list

pub among_contains : (ks : List Kind) (k : Kind) → Contains ks k → among k ks ≡ true
among_contains ks k (i, inside, e) = list_any_at (same_kind k) ks i k inside (same_self k (get_or ks i k) (sym e))

pub contains_among : (ks : List Kind) (k : Kind) → among k ks ≡ true → Contains ks k
contains_among ks k h = Contains-from_any {eq = same_kind} same_is k ks h
