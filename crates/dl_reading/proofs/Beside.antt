-- Probabilities beside values, of which there must be as many.
use Rattle.dl_reading.proofs.Common.{ℕ, ◌≡◌, List, take, length, Option, Some, None, refl, arith, length-map, Fraction, Shares, IsRead, at_if, not, ◌==◌, flaws_else, is_not_one, ListAst, Flaws, Gridded, IsReadTo, KeepsLists, spans, flaws_within, lengths_at, sum_at, grid_shares, flaws_of_list, flaws_of_shares, flaws_beside, if_there, spanned_values, values_of, Bounds}
use Rattle.dl_reading.proofs.Agreeing.{read_after, read_also, keeps_first}

-- the first rules do not ask how many values there are
same_early : (bounds : Bounds) (m n : ℕ) (o : Option ListAst)
    → take 3 (spans (flaws_within (flaws_beside bounds m) o)) ≡ take 3 (spans (flaws_within (flaws_beside bounds n) o))
same_early bounds m n None = refl
same_early bounds m n (Some l) = refl

-- probabilities beside values, whose number is right where these are
pub beside_read : {A B : Type 0} (bounds : Bounds) (count : A → ℕ) (make : A → Option Shares → B) (probs : Option ListAst) {f : Flaws}
    {x : A} {a : Gridded A} {n : ℕ} {p : Gridded (Option Shares)} {all : Flaws} → IsReadTo 3 f x a → n ≡ count a.part
    → IsRead (flaws_within (flaws_beside bounds n) probs) (if_there grid_shares probs) p → all ≡ flaws_else a.flaws p.flaws
    → IsRead (flaws_else f (flaws_within (flaws_beside bounds (count x)) probs)) (make x (if_there grid_shares probs))
    (record { part = make a.part p.part; flaws = all })
beside_read bounds count make probs {x = x} {a = a} first counted second is =
    read_after 3 7 (λ z. flaws_within (flaws_beside bounds (count z)) probs) (λ z. if_there grid_shares probs) make (omega arith)
    first (same_early bounds (count a.part) (count x) probs) (rw counted at second) is

-- a list of probabilities and its length
pub lengths_read : (bounds : Bounds) (count : ℕ) (l : ListAst) {n : ℕ} {a : Gridded Shares} {all : Flaws}
    → IsRead (flaws_of_shares bounds l) (grid_shares l) a → (KeepsLists (flaws_of_list bounds l) → a.part.values ≡ values_of l)
    → n ≡ length a.part.values → all ≡ flaws_else a.flaws (lengths_at (at_if (not (count == n)) l.span))
    → IsRead (flaws_beside bounds count l) (grid_shares l) (record { part = a.part; flaws = all })
lengths_read bounds count l {a = a} own values counted is =
    let view : IsReadTo 3 (flaws_of_shares bounds l) (values_of l) (record { part = a.part.values; flaws = a.flaws }) = record {
      first = own.first;
      right = λ clean. values (keeps_first 3 (flaws_of_list bounds l) (sum_at (at_if (is_not_one bounds.parts (values_of l)) l.span)) clean);
    } in
    let also = read_also 3 (λ (vs : List Fraction). lengths_at (at_if (not (count == length vs)) l.span)) view refl
    (rw counted at is) in
    let number = length-map {B = Fraction} (spanned_values l) (λ pair. pair.0) in
    record {
      first = (rw number at also).first;
      right = λ clean. own.right (keeps_first 7 (flaws_of_shares bounds l) _ clean);
    }
