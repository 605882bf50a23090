-- The sums where one unit alone is asked for.
use Rattle.dl_totals.proofs.Common.{◌≡◌, ℕ, ◌<◌, List, length, get_or, Some, None, Option, false, IsTrue, IsSome, IfSome, ◌↔◌, arith, refl, sym, ap, subst, ◌∙◌, get_or_default, Iv, IsSumWithout, Bool, set, replicate, inl, inr, ◌≢◌, Any, cases_eq, false≢true, get_or-set_at, get_or-replicate, get_or-set_other, length-replicate, length-set, AreSumsWithout, IsOnly}

-- that of the others is there for this unit, and for no other
pub one_without : {B : ℕ} (k : ℕ) (grids : List (List (Iv B))) (asked : List Bool) (i : ℕ) (sum : List (Iv B))
    (sums : List (Option (List (Iv B)))) → IsOnly asked i → length asked ≡ length grids → IsSumWithout k grids i sum
    → sums ≡ replicate (length grids) None → AreSumsWithout k grids asked (set sums i (Some sum))
one_without {B} k grids asked i sum sums only many without is =
    let size : length sums ≡ length grids = ap (λ (t : List (Option (List (Iv B)))). length t) is
    ∙ length-replicate {A = Option (List (Iv B))} (length grids) None in
    let inside : i < length sums = omega (arith, size, many, only.inside) in
    let here : (j : ℕ) → j ≡ i → get_or (set sums i (Some sum)) j None ≡ Some sum = λ j e.
    get_or-set_at sums i j (Some sum) None e inside in
    let other : (j : ℕ) → j < length grids → j ≢ i → get_or (set sums i (Some sum)) j None ≡ None = λ j within n.
    get_or-set_other sums i j (Some sum) None n ∙ ap (λ (t : List (Option (List (Iv B)))). get_or t j None) is
    ∙ get_or-replicate {A = Option (List (Iv B))} (length grids) j None None within in
    record {
      as_many = length-set sums i (Some sum) ∙ size;
      there = λ j within. elim (cases_eq j i) [
        | inl e ↦ subst (λ (t : Option (List (Iv B))). IsSome t ↔ IsTrue (get_or asked j false)) (sym (here j e))
            (λ some. subst (λ m. IsTrue (get_or asked m false)) (sym e) only.there, λ yes. refl)
        | inr n ↦ subst (λ (t : Option (List (Iv B))). IsSome t ↔ IsTrue (get_or asked j false)) (sym (other j within n))
            (λ some. absurd (false≢true some), λ yes. absurd (n (only.alone j yes)))
      ];
      each = λ j within. elim (cases_eq j i) [
        | inl e ↦ subst (λ (t : Option (List (Iv B))). IfSome t (IsSumWithout k grids j)) (sym (here j e))
            (subst (λ m. IsSumWithout k grids m sum) (sym e) without)
        | inr n ↦ subst (λ (t : Option (List (Iv B))). IfSome t (IsSumWithout k grids j)) (sym (other j within n)) tt
      ];
    }

-- none is there where no unit is asked for
pub none_without : {B : ℕ} (k : ℕ) (grids : List (List (Iv B))) (asked : List Bool)
    (sums : List (Option (List (Iv B)))) → (Any (λ a. IsTrue a) asked → ⊥) → length asked ≡ length grids
    → sums ≡ replicate (length grids) None → AreSumsWithout k grids asked sums
none_without {B} k grids asked sums nobody many is =
    let none : (j : ℕ) → j < length grids → get_or sums j None ≡ None = λ j within.
    ap (λ (t : List (Option (List (Iv B)))). get_or t j None) is
    ∙ get_or-replicate {A = Option (List (Iv B))} (length grids) j None None within in
    record {
      as_many = ap (λ (t : List (Option (List (Iv B)))). length t) is ∙ length-replicate (length grids) None;
      there = λ j within. subst (λ (t : Option (List (Iv B))). IsSome t ↔ IsTrue (get_or asked j false)) (sym (none j within)) (
        λ some. absurd (false≢true some),
        λ yes. absurd (nobody (
          j,
          get_or asked j false,
          rw many within,
          sym (get_or_default asked j false (get_or asked j false) (rw many within)),
          yes,
        )),
      );
      each = λ j within. subst (λ (t : Option (List (Iv B))). IfSome t (IsSumWithout k grids j)) (sym (none j within)) tt;
    }
