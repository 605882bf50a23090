-- A name among those before it, and the first parts of a list.
use Rattle.dl_rules.proofs.Common.{◌≡◌, ◌∙◌, ℕ, ◌+◌, ◌<◌, List, [], ◌∷◌, ◌++◌, length, take, get_or, if◌then◌else◌, map, Bool, true, false, not, refl, sym, ap, Span, at_if, list_any, bytes_eq, breaks, CheckFault, Ok, Err, ◌||◌, Bor, drop, map-append, map_more, take_more, take-append-drop, Result, OnOk, HasFault, Rule}

-- a test of what is made of some parts is one of the parts
pub any_of : {A B : Type 0} (p : B → Bool) (f : A → B) (xs : List A) → list_any p (map f xs) ≡ list_any (λ x. p (f x)) xs
any_of p f [] = refl
any_of p f (x ∷ xs) = ap (λ b. p (f x) || b) (any_of p f xs)

abbrev pub texts : List (Bor (List ℕ)) → List (List ℕ)
texts keys = map (λ (key : Bor (List ℕ)). key.now) keys

pub is_old : (text : List ℕ) (keys : List (Bor (List ℕ))) (is_new : Bool)
    → is_new ≡ not (list_any (λ key. bytes_eq text key.now) keys) → not is_new ≡ list_any (bytes_eq text) (texts keys)
is_old text keys is_new e = ap not e ∙ twice _ ∙ sym (any_of (bytes_eq text) (λ (key : Bor (List ℕ)). key.now) keys)
  where
    twice : (b : Bool) → not (not b) ≡ b
    twice true = refl
    twice false = refl

-- a name that is new stands behind those before it
pub name_taken : (unit : ℕ) (rule : Rule) (span : Span) (keys new : List (Bor (List ℕ))) (key : Bor (List ℕ))
    (is_new old : Bool) (r : Result Unit CheckFault) → is_new ≡ not old → new ≡ (if old then keys else keys ++ key ∷ [])
    → HasFault (breaks unit rule (at_if (not is_new) span)) r → OnOk r (texts new ≡ texts keys ++ key.now ∷ [])
name_taken unit rule span keys new key true true (Ok x) added e told = absurd cc
name_taken unit rule span keys new key false true (Ok x) added e told = absurd cc
name_taken unit rule span keys new key is_new false (Ok x) added e told =
    ap texts e ∙ map-append (λ (k : Bor (List ℕ)). k.now) keys (key ∷ [])
name_taken unit rule span keys new key is_new old (Err stop) added e told = tt

-- ---- the first i parts, one more, and the others

module _ {A : Type 0} (xs : List A) (i : ℕ) (x : A) (lt : i < length xs) (is : x ≡ get_or xs i x) where
  pub one_more : take (i + 1) xs ≡ take i xs ++ x ∷ []
  one_more = take_more xs i x lt ∙ ap (λ y. take i xs ++ y ∷ []) (sym is)

  pub maps_more : {B : Type 0} (f : A → B) → map f (take i xs) ++ f x ∷ [] ≡ map f (take (i + 1) xs)
  maps_more f = sym (map_more f xs i x lt ∙ ap (λ y. map f (take i xs) ++ f y ∷ []) (sym is))

pub maps_split : {A B : Type 0} (f : A → B) (xs : List A) (k : ℕ) → map f xs ≡ map f (take k xs) ++ map f (drop k xs)
maps_split f xs k = ap (map f) (sym (take-append-drop k xs)) ∙ map-append f (take k xs) (drop k xs)
