-- A text that grows by some tokens and then by others.
use Rattle.dl_printer.proofs.Common.{ℕ, ◌≡◌, ◌∙◌, ◌+◌, ◌<◌, List, [], ◌∷◌, ◌++◌, length, take, refl, sym, ap, append_assoc, Some, flat_map, Piece, gap, spaced, get_or, add-one, append-nil, with_pieces, SoFar, take-suc, flat_map-append}

pub with_append : (t : SoFar) (us vs : List Piece) → with_pieces t (us ++ vs) ≡ with_pieces (with_pieces t us) vs
unfolding with_pieces
with_append t [] vs = refl
with_append t (u ∷ us) vs =
    with_append (record { text = t.text ++ gap t.last u.kind ++ u.text; last = Some u.kind }) us vs

-- a token that is put behind the text in two parts, where nothing or something stands before it
pub in_two_parts : (text gap front back : List ℕ) → ((text ++ gap) ++ front) ++ back ≡ text ++ gap ++ (front ++ back)
in_two_parts text gap front back = simp append_assoc

-- what the tokens add
pub with_text : (t : SoFar) (us : List Piece) → (with_pieces t us).text ≡ t.text ++ spaced t.last us
unfolding with_pieces spaced
with_text t [] = sym (append-nil t.text)
with_text t (u ∷ us) =
    with_text (record { text = t.text ++ gap t.last u.kind ++ u.text; last = Some u.kind }) us ∙ simp append_assoc

-- by one more of several things
pub with_each : {A : Type 0} (f : A → List Piece) (t : SoFar) (xs : List A) (i : ℕ) (d : A) → i < length xs
    → with_pieces t (flat_map f (take (i + 1) xs)) ≡ with_pieces (with_pieces t (flat_map f (take i xs)))
    (f (get_or xs i d))
with_each f t xs i d h = ap (λ ys. with_pieces t (flat_map f ys)) (ap (λ k. take k xs) (add-one i) ∙ take-suc xs i d h)
    ∙ ap (with_pieces t) (flat_map-append f (take i xs) (get_or xs i d ∷ []))
    ∙ ap (λ ys. with_pieces t (flat_map f (take i xs) ++ ys)) (append-nil (f (get_or xs i d)))
    ∙ with_append t (flat_map f (take i xs)) (f (get_or xs i d))
