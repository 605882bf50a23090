-- Lists that a loop writes place by place.
use Rattle.dl_exact.proofs.Writing.{set_done}
use Rattle.dl_halves.proofs.Common.{ℕ, ◌≡◌, ◌+◌, ◌<◌, ◌≤◌, List, length, get_or, map, arith, ap, sym, inl, inr, ◌∙◌, get_or-set_other, set, get_or-set_same, get_or-map}
use Rattle.std.proofs.lemmas.Bool.Decides.{eqb_tells}

-- each of the first n items meets P
pub record Fills (P : ℕ → ℕ → Type 0) (ys : List ℕ) (n : ℕ) : Type 0 where
  pub done : (k : ℕ) → k < n → P k (get_or ys k 0)

pub fills_more : (P : ℕ → ℕ → Type 0) (ys : List ℕ) (n y : ℕ) → n < length ys → P n y → Fills P ys n
    → Fills P (set ys n y) (n + 1)
fills_more P ys n y inside here before = record { done = set_done P ys n y inside before.done here }

-- n items from `from` on meet P, and the others are those of xs
pub record Changed (P : ℕ → ℕ → Type 0) (xs ys : List ℕ) (from n : ℕ) : Type 0 where
  pub done : (t : ℕ) → t < n → P t (get_or ys (from + t) 0)
  pub first : (s : ℕ) → s < from → get_or ys s 0 ≡ get_or xs s 0
  pub last : (s : ℕ) → from + n ≤ s → get_or ys s 0 ≡ get_or xs s 0

pub changed_more : (P : ℕ → ℕ → Type 0) (xs ys : List ℕ) (from n y : ℕ) → from + n < length ys → P n y
    → Changed P xs ys from n
    → Changed P xs (set ys (from + n) y) from (n + 1)
changed_more P xs ys from n y inside here before = record {
  done = λ t h. elim (eqb_tells t n) [
    | inl e ↦ rw (e.1, get_or-set_same ys (from + n) y 0 inside) here
    | inr e ↦ rw (get_or-set_other ys (from + n) (from + t) y 0 (λ same. e.1 (omega (arith, same))))
        (before.done t (omega (arith, e.1)))
  ];
  first = λ s h. get_or-set_other ys (from + n) s y 0 (omega arith) ∙ before.first s h;
  last = λ s h. get_or-set_other ys (from + n) s y 0 (omega arith) ∙ before.last s (omega arith);
}

-- the value of an item that was read, and a list of values after a write
pub value_read : {X : Type 0} (f : X → ℕ) (xs : List X) (i : ℕ) (x : X) → i < length xs → x ≡ get_or xs i x
    → f x ≡ get_or (map f xs) i 0
value_read f xs i x inside e = ap f e ∙ sym (get_or-map f xs i x 0 inside)
