-- Cells that are read one after the other.
use Rattle.dl_cert.proofs.Common.{ℕ, ◌≡◌, ◌+◌, ◌<◌, ◌≤◌, ◌∙◌, refl, sym, ap, subst, arith, List, [], ◌∷◌, ◌++◌, length, drop, append-nil, append_assoc, length-append, length-drop, ◌≢◌, drop_all, Iv, AreCells, BeginsCell}

-- from a place of a text on the first n cells are these, and the text goes on behind them
pub record ReadTo (text : List ℕ) (start from n : ℕ) (cells : List (Iv 56)) : Type 0 where
  pub many : length cells ≡ n
  pub within : from ≤ length text
  pub spells : (more : List (Iv 56)) → AreCells (drop from text) more → AreCells (drop start text) (cells ++ more)
  pub only : (all : List (Iv 56)) → AreCells (drop start text) all → n ≤ length all
      → (more : List (Iv 56)) × (all ≡ cells ++ more) × AreCells (drop from text) more

pub one_read : {text : List ℕ} {start from next n : ℕ} {cells : List (Iv 56)} {cell : Iv 56}
    → ReadTo text start from n cells → BeginsCell (drop from text) cell (drop next text) → next ≤ length text
    → ReadTo text start next (n + 1) (cells ++ cell ∷ [])
one_read {text} {start} {from} {next} {n} {cells} {cell} before here within = record {
  many = length-append cells (cell ∷ []) ∙ omega (arith, before.many);
  within = within;
  spells = λ more are. subst (λ l. AreCells (drop start text) l) (sym (append_assoc cells (cell ∷ []) more))
      (before.spells (cell ∷ more) (here.spells more are));
  only = λ all are few. one_more all (before.only all are (omega (arith, few))) few;
}
  where
    one_more : (all : List (Iv 56)) → (more : List (Iv 56)) × (all ≡ cells ++ more) × AreCells (drop from text) more
        → n + 1 ≤ length all
        → (more : List (Iv 56)) × (all ≡ (cells ++ cell ∷ []) ++ more) × AreCells (drop next text) more
    one_more all ([], is, are) few =
        absurd (omega (arith, few, ap length is, length-append cells [], before.many))
    one_more all (other ∷ more, is, are) few =
        let t = here.only other more are in
        (more, is ∙ ap (λ c. cells ++ c ∷ more) t.0 ∙ sym (append_assoc cells (cell ∷ []) more), t.1)

-- no cell can follow
pub none_more : {text : List ℕ} {start from n : ℕ} (k : ℕ) {cells : List (Iv 56)} → ReadTo text start from n cells → n < k
    → ((cell : Iv 56) (rest : List (Iv 56)) → ¬ AreCells (drop from text) (cell ∷ rest))
    → (all : List (Iv 56)) → AreCells (drop start text) all → length all ≢ k
none_more {text = text} {from = from} k {cells = cells} before inside none all are long =
    more (before.only all are (omega (arith, inside, long)))
  where
    more : (rest : List (Iv 56)) × (all ≡ cells ++ rest) × AreCells (drop from text) rest → ⊥
    more ([], is, later) = omega (arith, long, inside, ap length is, length-append cells [], before.many)
    more (cell ∷ rest, is, later) = none cell rest later

-- the text is at its end
pub all_read : {text : List ℕ} {start from n : ℕ} {cells : List (Iv 56)} → ReadTo text start from n cells
    → length text ≤ from → AreCells (drop start text) cells
unfolding AreCells
all_read {text = text} {start = start} {from = from} {cells = cells} before past =
    subst (λ l. AreCells (drop start text) l) (append-nil cells) (before.spells [] (drop_all from text past))

-- the text goes on
pub more_left : {text : List ℕ} {start from n : ℕ} {cells : List (Iv 56)} → ReadTo text start from n cells
    → from < length text → (all : List (Iv 56)) → AreCells (drop start text) all → length all ≢ n
unfolding AreCells
more_left {text = text} {from = from} {cells = cells} before inside all are long =
    more (before.only all are (omega (arith, long)))
  where
    more : (rest : List (Iv 56)) × (all ≡ cells ++ rest) × AreCells (drop from text) rest → ⊥
    more ([], is, later) = no_left (drop from text) later (left text from inside)
      where
        no_left : (xs : List ℕ) → xs ≡ [] → 0 < length xs → ⊥
        no_left xs e some = omega (arith, some, ap length e)

        left : (xs : List ℕ) (k : ℕ) → k < length xs → 0 < length (drop k xs)
        left xs k h = omega (arith, length-drop k xs, h)
    more (cell ∷ rest, is, later) =
        omega (arith, long, ap length is, length-append cells (cell ∷ rest), before.many)
