-- A plan of one unit: its grid is that of the total.
use Rattle.dl_sources.proofs.Common.{ℕ, zero, suc, ◌≡◌, List, [], ◌∷◌, ◌++◌, length, get_or, arith, sym, ap, Option, None, IsSome, false, IsTrue, Iv, Plan, IsValid, AreUnitGrids, IsTotal, IsTotalOf, AreSumsWithout, length-append, some_inside, AreOthers}
use Rattle.dl_sources.proofs.SumLaws.{are_others, each_cells, is_total}

-- the only grid
pub only_one : {A : Type 0} (xs rest : List A) (x : A) → xs ≡ rest ++ x ∷ [] → length xs ≡ 1 → xs ≡ x ∷ []
only_one xs [] x is one = is
only_one xs (y ∷ rest) x is one = absurd (omega (arith, ap (λ t. length t) is, one, length-append rest (x ∷ [])))

module _ {B : ℕ} {plan : Plan} {grids : List (List (Iv B))} {g : List (Iv B)} (valid : IsValid plan)
    (each : AreUnitGrids plan.cells plan.units grids) (only : grids ≡ g ∷ []) where
  long : length g ≡ plan.cells
  long = each_cells plan.cells plan.units grids g 0 (sym (ap (λ t. get_or t 0 []) only)) (omega (arith, valid.some)) each

  pub one_total : {t : List (Iv B)} → plan.common ≡ None → IsTotal (length g) (g ∷ []) t → IsTotalOf plan t
  one_total none total = is_total valid none each (rw (long, ← only) at total)

  pub one_others : {others : List (Option (List (Iv B)))} → AreSumsWithout (length g) (g ∷ []) (false ∷ []) others
      → AreOthers plan others
  one_others rest = are_others valid each (rw (long, ← only) at rest)

unasked : (i : ℕ) → ¬ IsTrue (get_or (false ∷ []) i false)
unasked zero h = absurd (cc)
unasked (suc i) h = absurd (cc)

-- the sum of all others is not asked for
pub one_beside : {B : ℕ} {k : ℕ} {g : List (Iv B)} {others : List (Option (List (Iv B)))}
    → AreSumsWithout k (g ∷ []) (false ∷ []) others → (i : ℕ) → ¬ IsSome (get_or others i None)
one_beside {others = others} rest i some =
    unasked i ((rest.there i (omega (arith, some_inside others i some, rest.as_many))).0 some)
