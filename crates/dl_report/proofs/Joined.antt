-- Lists written one behind the other: parts behind what was there before, and one more row.
use Rattle.dl_report.proofs.Common.{◌≡◌, ◌∙◌, append_assoc, ◌++◌, ◌+◌, ◌<◌, ℕ, List, [], ◌∷◌, sym, ap, subst, length, take, get_or, flat_map, Row, add-one, ◌≤◌, Result, Ok, Err, OnOk, if◌then◌else◌, is_ok, take-suc, flat_map_more, take_all}

pub three : (t a b c : List ℕ) → t ++ a ++ b ++ c ≡ t ++ (a ++ b ++ c)
three t a b c = simp append_assoc

pub six : (t a b c d e f : List ℕ) → t ++ a ++ b ++ c ++ d ++ e ++ f ≡ t ++ (a ++ b ++ c ++ d ++ e ++ f)
six t a b c d e f = simp append_assoc

-- what was there before, and a part behind it, unless there was no room
pub appended : {T E : Type 0} (r : Result T E) (new old part : List ℕ)
    → new ≡ (if is_ok r then old ++ part else old) → OnOk r (new ≡ old ++ part)
appended (Ok x) new old part e = e
appended (Err x) new old part e = tt

-- the rows that a loop goes over are the report's
module _ (rows items : List Row) (same : items ≡ rows) where
  pub one_more : (f : Row → List ℕ) (front : List ℕ) (i : ℕ) (row : Row) → i < length items → row ≡ get_or items i row
      → front ++ flat_map f (take i rows) ++ f row ≡ front ++ flat_map f (take (i + 1) rows)
  one_more f front i row before at =
      let lt : i < length rows = subst (λ (list : List Row). i < length list) same before in
      let is : row ≡ get_or rows i row = subst (λ (list : List Row). row ≡ get_or list i row) same at in
      let more : take (i + 1) rows ≡ take i rows ++ row ∷ [] = rw add-one (take-suc rows i row lt)
      ∙ ap (λ r. take i rows ++ r ∷ []) (sym is) in
      flat_map_more f front (take i rows) row ∙ sym (ap (λ seen. front ++ flat_map f seen) more)

  pub all_rows : (i : ℕ) → length items ≤ i → take i rows ≡ rows
  all_rows i past = take_all _ _ (subst (λ (list : List Row). length list ≤ i) same past)
