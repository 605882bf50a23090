-- How many elements a list begins with that pass a test.
use Rattle.dl_lexer.proofs.Common.{ℕ, suc, ◌≡◌, ◌∙◌, ◌+◌, ◌<◌, ◌≤◌, List, [], ◌∷◌, ◌++◌, length, get_or, take, drop, Bool, true, false, cond, refl, sym, ap, arith, add-one, drop-cons, Some, slice_get, list_all, prefix_len, take-append-add, take-append-drop, length-take-le, slice_get_within, get_or_from_slice_get, and_parts, drop-append-add}

-- elements that pass, at the front, are counted
pub passes_prefix : (p : ℕ → Bool) (b rest : List ℕ) → list_all p b ≡ true → length b ≤ prefix_len p (b ++ rest)
passes_prefix p [] rest h = omega arith
passes_prefix p (x ∷ b) rest h =
    let parts : (p x ≡ true) × (list_all p b ≡ true) = and_parts (p x) (list_all p b) h in
    let more : length b ≤ prefix_len p (b ++ rest) = passes_prefix p b rest parts.1 in
    rw parts.0 (omega arith)

-- what is counted passes
pub prefix_passes : (p : ℕ → Bool) (xs : List ℕ) → list_all p (take (prefix_len p xs) xs) ≡ true
prefix_passes p [] = refl
prefix_passes p (x ∷ xs) = here (p x) refl (prefix_passes p xs)
  where
    here : (t : Bool) → p x ≡ t → list_all p (take (prefix_len p xs) xs) ≡ true
        → list_all p (take (cond (p x) (1 + prefix_len p xs) 0) (x ∷ xs)) ≡ true
    here true e h =
        let count : cond (p x) (1 + prefix_len p xs) 0 ≡ suc (prefix_len p xs) = rw e (omega arith) in
        rw count (rw e h)
    here false e h = rw e refl

-- no longer start of the list passes
pub prefix_most : (p : ℕ → Bool) (xs : List ℕ) (m : ℕ) → m ≤ length xs → list_all p (take m xs) ≡ true
    → m ≤ prefix_len p xs
prefix_most p xs m h all =
    grind (arith, passes_prefix p (take m xs) (drop m xs) all, length-take-le m xs h, take-append-drop m xs)

-- the count ends at the first element that fails
pub prefix_ends : (p : ℕ → Bool) (c : ℕ) (a b : List ℕ) → p c ≡ false → list_all p a ≡ true
    → prefix_len p (a ++ c ∷ b) ≡ length a
prefix_ends p c [] b fails h = rw fails refl
prefix_ends p c (x ∷ a) b fails h =
    let parts : (p x ≡ true) × (list_all p a ≡ true) = and_parts (p x) (list_all p a) h in
    let more : prefix_len p (a ++ c ∷ b) ≡ length a = prefix_ends p c a b fails parts.1 in
    rw parts.0 (omega arith)

-- a list round one of its elements
pub around : (xs : List ℕ) (n c : ℕ) → slice_get xs n ≡ Some c → xs ≡ take n xs ++ c ∷ drop (n + 1) xs
around xs n c h =
    let lt : n < length xs = slice_get_within xs n c h in
    let here : get_or xs n 0 ≡ c = get_or_from_slice_get xs n c 0 h in
    let cut : drop n xs ≡ c ∷ drop (n + 1) xs = rw add-one (drop-cons xs n 0 lt ∙ ap (λ y. y ∷ drop (suc n) xs) here) in
    sym (take-append-drop n xs) ∙ ap (λ ys. take n xs ++ ys) cut

pub take_around : (xs : List ℕ) (n c k : ℕ) → slice_get xs n ≡ Some c
    → take (n + 1 + k) xs ≡ take n xs ++ c ∷ take k (drop (n + 1) xs)
take_around xs n c k h =
    let lt : n < length xs = slice_get_within xs n c h in
    let size : length (take n xs) ≡ n = length-take-le n xs (omega arith) in
    let more : take (length (take n xs) + (suc k)) (take n xs ++ c ∷ drop (n + 1) xs) ≡ take n xs ++ c ∷ take k
    (drop (n + 1) xs) = take-append-add (take n xs) (c ∷ drop (n + 1) xs) (suc k) in
    let count : n + 1 + k ≡ length (take n xs) + (suc k) = omega arith in
    ap (λ m. take m xs) count ∙ ap (λ ys. take (length (take n xs) + (suc k)) ys) (around xs n c h) ∙ more

-- an element behind a list of a known length
pub get_behind : (a b : List ℕ) (c : ℕ) → slice_get (a ++ c ∷ b) (length a) ≡ Some c
get_behind [] b c = refl
get_behind (x ∷ a) b c = get_behind a b c

pub drop_behind : (a b : List ℕ) (c : ℕ) → drop (length a + 1) (a ++ c ∷ b) ≡ b
drop_behind a b c = drop-append-add a (c ∷ b) 1
