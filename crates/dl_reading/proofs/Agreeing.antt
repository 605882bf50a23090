-- Flaws that agree up to the first rule that is broken, and what is read of parts.
use Rattle.dl_reading.proofs.Common.{ℕ, ◌+◌, ◌<◌, ◌≤◌, zero, suc, get_or, take_all, take_more, ◌≡◌, ◌∙◌, List, [], ◌∷◌, ◌++◌, map, take, Option, Bool, true, false, refl, sym, ap, ap₂, subst, arith, length, map-append, Span, ◌else◌, else_first, else_second, earlier_flaws, flaws_else, AgreeToFirst, AreNone, IsReadTo, spans, no_flaws, flaws_in, Flaws, Gridded}
use Rattle.dl_reading.proofs.Firsts.{else_assoc, else_none}

-- ---- places

abbrev pub zip_else : List (Option Span) → List (Option Span) → List (Option Span)
zip_else [] ys = []
zip_else (x ∷ xs) [] = []
zip_else (x ∷ xs) (y ∷ ys) = (x else y) ∷ zip_else xs ys

pub agree_same : (xs : List (Option Span)) → AgreeToFirst xs xs
agree_same [] = tt
agree_same (x ∷ xs) = (refl, λ none. agree_same xs)

pub agree_take : (k : ℕ) (xs ys : List (Option Span)) → AgreeToFirst xs ys → AgreeToFirst (take k xs) (take k ys)
agree_take (suc k) (x ∷ xs) (y ∷ ys) h = (h.0, λ none. agree_take k xs ys (h.1 none))
agree_take k xs ys h = tt

-- those of a second part are right only if the first part keeps the first k rules, of which those
-- of the second part are right in any case
agree_after : (k : ℕ) (xs ys us vs : List (Option Span)) → AgreeToFirst xs ys
    → AgreeToFirst (take k us) (take k vs) → (AreNone (take k ys) → AgreeToFirst us vs)
    → AgreeToFirst (zip_else xs us) (zip_else ys vs)
agree_after zero (x ∷ xs) (y ∷ ys) (u ∷ us) (v ∷ vs) h early late =
    let second = late tt in (
      ap₂ (λ a b. a else b) h.0 second.0,
      λ none. agree_after zero xs ys us vs (h.1 (else_first y v none)) tt (λ clean. second.1 (else_second y v none)),
    )
agree_after (suc k) (x ∷ xs) (y ∷ ys) (u ∷ us) (v ∷ vs) h early late = (
  ap₂ (λ a b. a else b) h.0 early.0,
  λ none. agree_after k xs ys us vs (h.1 (else_first y v none)) (early.1 (else_second y v none))
      (λ clean. (late (else_first y v none, clean)).1 (else_second y v none)),
)
agree_after k (x ∷ xs) [] [] vs h early late = tt
agree_after k xs ys us vs h early late = tt

pub agree_else : (xs ys us vs : List (Option Span)) → AgreeToFirst xs ys → AgreeToFirst us vs
    → AgreeToFirst (zip_else xs us) (zip_else ys vs)
agree_else xs ys us vs h second = agree_after 0 xs ys us vs h tt (λ none. second)

-- both parts keep the first k rules where both together do
none_both : (k : ℕ) (xs ys : List (Option Span)) → length xs ≡ length ys → AreNone (take k (zip_else xs ys))
    → AreNone (take k xs) × AreNone (take k ys)
none_both (suc k) (x ∷ xs) (y ∷ ys) e h =
    let rest = none_both k xs ys (omega (arith, e)) h.1 in
    ((else_first x y h.0, rest.0), (else_second x y h.0, rest.1))
none_both (suc k) [] (y ∷ ys) e h = absurd (cc)
none_both (suc k) (x ∷ xs) [] e h = absurd (cc)
none_both k xs ys e h = (tt, tt)

pub keeps_first : (k : ℕ) (f g : Flaws) → AreNone (take k (spans (flaws_else f g))) → AreNone (take k (spans f))
keeps_first k f g h = (none_both k (spans f) (spans g) refl h).0

pub keeps_second : (k : ℕ) (f g : Flaws) → AreNone (take k (spans (flaws_else f g))) → AreNone (take k (spans g))
keeps_second k f g h = (none_both k (spans f) (spans g) refl h).1

-- ---- flaws

pub flaws_assoc : (f g h : Flaws) → flaws_else (flaws_else f g) h ≡ flaws_else f (flaws_else g h)
flaws_assoc f g h = simp else_assoc

pub flaws_none : (f : Flaws) → flaws_else f no_flaws ≡ f
flaws_none f = simp else_none

-- one part more
pub flaws_more : {A : Type 0} (f : A → Flaws) (xs : List A) (x : A)
    → flaws_in f (xs ++ x ∷ []) ≡ flaws_else (flaws_in f xs) (f x)
unfolding flaws_in
flaws_more f [] x = flaws_none (f x)
flaws_more f (y ∷ ys) x = rw (flaws_more f ys x) (sym (flaws_assoc (f y) (flaws_in f ys) (f x)))

-- the flaws of parts that a loop reads in turn
module _ {A : Type 0} (f : A → Flaws) where
  pub told_no_part : {flaws : Flaws} → flaws ≡ no_flaws → AgreeToFirst (spans flaws) (spans (flaws_in f []))
  unfolding flaws_in
  told_no_part e = rw e (agree_same (spans no_flaws))

  pub told_next : (xs : List A) (i : ℕ) {x : A} {flaws one all : Flaws} → i < length xs → x ≡ get_or xs i x
      → AgreeToFirst (spans flaws) (spans (flaws_in f (take i xs))) → AgreeToFirst (spans one) (spans (f x))
      → all ≡ flaws_else flaws one → AgreeToFirst (spans all) (spans (flaws_in f (take (i + 1) xs)))
  told_next xs i {x = x} {flaws = flaws} {one = one} lt at before here is =
      let more : take (i + 1) xs ≡ take i xs ++ x ∷ [] =
      take_more xs i x lt ∙ ap (λ y. take i xs ++ y ∷ []) (sym at) in
      rw (more, flaws_more f (take i xs) x, is)
      (agree_else (spans flaws) (spans (flaws_in f (take i xs))) (spans one) (spans (f x)) before here)

  pub told_end : (xs : List A) (i : ℕ) {flaws : Flaws} → length xs ≤ i
      → AgreeToFirst (spans flaws) (spans (flaws_in f (take i xs)))
      → AgreeToFirst (spans flaws) (spans (flaws_in f xs))
  told_end xs i le h = rw (take_all i xs le) at h

-- ---- parts that are read

-- what is made of a part
pub read_made : {A B : Type 0} {k : ℕ} (make : A → B) {f : Flaws} {x : A} {a : Gridded A} → IsReadTo k f x a
    → IsReadTo k f (make x) (record { part = make a.part; flaws = a.flaws })
read_made make h = record { first = h.first; right = λ clean. ap make (h.right clean) }

-- two parts
pub read_both : {A B C : Type 0} {k : ℕ} (make : A → B → C) {f g : Flaws} {x : A} {y : B} {a : Gridded A} {b : Gridded B}
    {all : Flaws} → IsReadTo k f x a → IsReadTo k g y b → all ≡ flaws_else a.flaws b.flaws
    → IsReadTo k (flaws_else f g) (make x y) (record { part = make a.part b.part; flaws = all })
read_both {k = k} make {f = f} {g = g} {a = a} {b = b} first second is = record {
  first = rw is (agree_else (spans a.flaws) (spans f) (spans b.flaws) (spans g) first.first second.first);
  right = λ clean. ap₂ make (first.right (keeps_first k f g clean)) (second.right (keeps_second k f g clean));
}

abbrev pub pair : {A B : Type 0} → A → B → A × B
pair x y = (x, y)

-- a unit's own part and its severity
pub read_earlier : {A B : Type 0} {k : ℕ} (named : Bool) {f g : Flaws} {x : A} {y : B} {a : Gridded A} {b : Gridded B}
    {all : Flaws} → IsReadTo k f x a → IsReadTo k g y b → all ≡ earlier_flaws named a.flaws b.flaws
    → IsReadTo k (earlier_flaws named f g) (pair x y) (record { part = pair a.part b.part; flaws = all })
read_earlier true own severity is = read_both (λ y x. pair x y) severity own is
read_earlier false own severity is = read_both pair own severity is

-- what is read is right the sooner, the more rules are kept
none_shorter : (k m : ℕ) (xs : List (Option Span)) → k ≤ m → AreNone (take m xs) → AreNone (take k xs)
none_shorter (suc k) (suc m) (x ∷ xs) le h = (h.0, none_shorter k m xs (omega arith) h.1)
none_shorter (suc k) zero xs le h = absurd (omega arith)
none_shorter k m xs le h = tt

pub read_longer : {A : Type 0} (k m : ℕ) {f : Flaws} {x : A} {a : Gridded A} → k ≤ m → IsReadTo k f x a
    → IsReadTo m f x a
read_longer k m {f = f} le h = record {
  first = h.first;
  right = λ clean. h.right (none_shorter k m (spans f) le clean);
}

-- a part y that is made of a first part, with the flaws g, and right where that is; the first rules do
-- not ask which it is
pub read_after : {A B C : Type 0} (k m : ℕ) (g : A → Flaws) (y : A → B) (make : A → B → C) {f : Flaws} {x : A}
    {a : Gridded A} {b : Gridded B} {all : Flaws} → k ≤ m → IsReadTo k f x a
    → take k (spans (g a.part)) ≡ take k (spans (g x)) → IsReadTo m (g a.part) (y a.part) b
    → all ≡ flaws_else a.flaws b.flaws
    → IsReadTo m (flaws_else f (g x)) (make x (y x)) (record { part = make a.part b.part; flaws = all })
read_after k m g y make {f = f} {x = x} {a = a} {b = b} le first early second is =
    let late : a.part ≡ x → IsReadTo m (g x) (y x) b = λ same. subst (λ z. IsReadTo m (g z) (y z) b) same second in
    record {
      first = rw is (agree_after k (spans a.flaws) (spans f) (spans b.flaws) (spans (g x)) first.first
          (subst (AgreeToFirst (take k (spans b.flaws))) early
          (agree_take k (spans b.flaws) (spans (g a.part)) second.first))
          (λ clean. (late (first.right clean)).first));
      right = λ clean.
          let same = first.right (none_shorter k m (spans f) le (keeps_first m f (g x) clean)) in
          ap₂ make same ((late same).right (keeps_second m f (g x) clean));
    }

-- flaws that are told of a part, of later rules alone
pub read_also : {A : Type 0} (k : ℕ) (g : A → Flaws) {f : Flaws} {x : A} {a : Gridded A} {all : Flaws} → IsReadTo k f x a
    → take k (spans (g a.part)) ≡ take k (spans (g x)) → all ≡ flaws_else a.flaws (g a.part)
    → IsReadTo k (flaws_else f (g x)) x (record { part = a.part; flaws = all })
read_also k g {a = a} first early is =
    read_after k k g (λ x. x) (λ x y. y) {b = record { part = a.part; flaws = g a.part }} (omega arith) first early
    (record { first = agree_same (spans (g a.part)); right = λ clean. refl }) is

-- ---- parts that are read in turn

module _ {X A : Type 0} (k : ℕ) (f : X → Flaws) (g : X → A) where
  pub read_no_part : {made : List A} {flaws : Flaws} → made ≡ [] → flaws ≡ no_flaws
      → IsReadTo k (flaws_in f []) (map g []) (record { part = made; flaws = flaws })
  read_no_part e p = record { first = told_no_part f p; right = λ clean. e }

  pub read_next : (zs : List X) (i : ℕ) {x : X} {made new : List A} {one : Gridded A} {flaws all : Flaws} → i < length zs
      → x ≡ get_or zs i x
      → IsReadTo k (flaws_in f (take i zs)) (map g (take i zs)) (record { part = made; flaws = flaws })
      → IsReadTo k (f x) (g x) one → new ≡ made ++ one.part ∷ [] → all ≡ flaws_else flaws one.flaws
      → IsReadTo k (flaws_in f (take (i + 1) zs)) (map g (take (i + 1) zs)) (record { part = new; flaws = all })
  read_next zs i {x = x} {made = made} {new = new} {one = one} {all = all} lt at before here pushed is =
      let both = read_both (λ zs y. zs ++ y ∷ []) before here is in
      let more : take (i + 1) zs ≡ take i zs ++ x ∷ [] =
      take_more zs i x lt ∙ ap (λ y. take i zs ++ y ∷ []) (sym at) in
      rw (more, flaws_more f (take i zs) x, map-append g (take i zs) (x ∷ []), pushed) both

  -- all parts
  pub read_end : (zs : List X) (i : ℕ) {made list : List A} {flaws : Flaws} → length zs ≤ i → list ≡ made
      → IsReadTo k (flaws_in f (take i zs)) (map g (take i zs)) (record { part = made; flaws = flaws })
      → IsReadTo k (flaws_in f zs) (map g zs) (record { part = list; flaws = flaws })
  read_end zs i le is h = rw is (rw (take_all i zs le) at h)
