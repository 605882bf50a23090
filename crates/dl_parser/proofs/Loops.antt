-- A loop that reads any number of things.
use Rattle.dl_parser.proofs.Common.{◌≡◌, ℕ, zero, suc, ◌≤◌, ◌<◌, Bool, true, false, List, [], ◌∷◌, ◌++◌, length, refl, sym, ap, ◌∙◌, arith, append_assoc, append-nil, Lexeme, Rule, many, State, Outcome, got, stuck, ◌>>=◌, begins, first, repeat, read, is_plain, some_of, and_parts, front}
use Rattle.dl_parser.proofs.ReadsBack.{bind_of, is_no, whole_none}
use Rattle.dl_parser.proofs.Took.{none_left}
use Rattle.dl_parser.proofs.Stopped.{less}

-- the count that bounds the loop doesn't matter

abbrev SameAt : {A : Type 0} → Rule A → ℕ → Type 0
SameAt a n = (m : ℕ) (p : State) → length p.rest ≤ n → length p.rest ≤ m
    → repeat (first a) (read a) n p ≡ repeat (first a) (read a) m p

same_step : {A : Type 0} (a : Rule A) (n m : ℕ) (p : State) → SameAt a n
    → ((x : A) (q : State) → read a p ≡ got x q → length q.rest < length p.rest) → length p.rest ≤ suc n
    → length p.rest ≤ suc m
    → (b : Bool) → begins (first a) p.rest ≡ b → (o : Outcome A) → read a p ≡ o
    → repeat (first a) (read a) (suc n) p ≡ repeat (first a) (read a) (suc m) p
same_step a n m p rest lt ln lm false t o e = rw t refl
same_step a n m p rest lt ln lm true t (stuck k q) e = rw (t, e) refl
same_step a n m p rest lt ln lm true t (got x q) e =
    let h : length q.rest < length p.rest = lt x q e in
    rw (t, e) (ap (λ (o : Outcome _). o >>= λ xs s. got (x ∷ xs) s) (rest m q (omega arith) (omega arith)))

same_count : {A : Type 0} (a : Rule A) → ((p q : State) (x : A) → read a p ≡ got x q → length q.rest < length p.rest)
    → (n : ℕ) → SameAt a n
same_count a lt zero m p ln lm = sym (whole_none a p.rest p.end m (none_left (first a) p.rest ln))
same_count a lt (suc n) zero p ln lm = whole_none a p.rest p.end (suc n) (none_left (first a) p.rest lm)
same_count a lt (suc n) (suc m) p ln lm =
    same_step a n m p (same_count a lt n) (λ x q e. lt p q x e) ln lm (begins (first a) p.rest) refl (read a p) refl

-- what is read, as far as a loop has come
abbrev pub Loops : {A : Type 0} → Rule A → Outcome (List A) → State → List A → Type 0
Loops a o p xs = o ≡ (read (many a) p >>= front xs)

bind_assoc : {A B C : Type 0} (o : Outcome A) (f : A → State → Outcome B) (g : B → State → Outcome C)
    → ((o >>= f) >>= g) ≡ (o >>= λ x q. f x q >>= g)
bind_assoc (got x q) f g = refl
bind_assoc (stuck k q) f g = refl

pub loop_starts : {A : Type 0} (a b : Rule A) (p q : State) (x : A) → read a p ≡ got x q
    → Loops b (read (some_of a b) p) q (x ∷ [])
loop_starts a b p q x e = rw e (bind_assoc (read (many b) q) (λ y s. got (x, y) s) (λ y s. got (y.0 ∷ y.1) s))

pub loop_ends : {A : Type 0} (a : Rule A) (o : Outcome (List A)) (p : State) (xs : List A) → Loops a o p xs
    → begins (first a) p.rest ≡ false → o ≡ got xs p
loop_ends a o p xs l t = grind (arith, whole_none a p.rest p.end (length p.rest) t, append-nil xs, bind_of)

some_length : (ts : List Lexeme) (n : ℕ) → n < length ts → (m : ℕ) × (length ts ≡ suc m)
some_length [] n h = absurd (omega arith)
some_length (t ∷ ts) n h = (length ts, refl)

joined : {A : Type 0} (o : Outcome (List A)) (x : A) (xs : List A)
    → (o >>= λ ys s. got (xs ++ x ∷ ys) s) ≡ (o >>= front (xs ++ x ∷ []))
joined (got ys q) x xs = ap (λ zs. got zs q) (sym (append_assoc xs (x ∷ []) ys))
joined (stuck k q) x xs = refl

pub loop_goes_on : {A : Type 0} (a : Rule A) → is_plain (many a) ≡ true
    → (o : Outcome (List A)) (p q : State) (x : A) (xs : List A) → Loops a o p xs → begins (first a) p.rest ≡ true
    → read a p ≡ got x q
    → Loops a o q (xs ++ x ∷ [])
loop_goes_on {A} a ok o p q x xs l t e =
    let i = and_parts _ _ ok in
    let j = and_parts _ _ i.1 in
    let lt : (p q : State) (x : A) → read a p ≡ got x q → length q.rest < length p.rest = less a i.0 (is_no _ j.0) in
    let some = some_length p.rest (length q.rest) (lt p q x e) in
    let step : read (many a) p ≡ (read (many a) q >>= λ ys s. got (x ∷ ys) s) =
    ap (λ n. repeat (first a) (read a) n p) some.1
    ∙ rw (t, e) (ap (λ (u : Outcome (List A)). u >>= λ ys s. got (x ∷ ys) s)
    (same_count a lt some.0 (length q.rest) q (omega (arith, lt p q x e, some.1)) (omega arith))) in
    l ∙ ap (λ (u : Outcome (List A)). u >>= front xs) step
    ∙ bind_assoc (read (many a) q) (λ ys s. got (x ∷ ys) s) (front xs) ∙ joined (read (many a) q) x xs

pub loop_at_start : {A : Type 0} (o : Outcome (List A)) → o ≡ (o >>= front [])
loop_at_start (got ys q) = refl
loop_at_start (stuck k q) = refl
