-- Each unit by itself, but for one.
use Rattle.dl_totals.proofs.Common.{◌≡◌, ℕ, zero, suc, ◌+◌, ◌<◌, ◌≤◌, List, [], ◌∷◌, ◌++◌, length, get_or, take, None, Some, arith, refl, sym, ap, subst, ◌∙◌, length-take, Loss, AreDeclarable, total, EncloseEach, EnclosesSum, GridEncloses, IsSumOfPart, IsSumWithout, IsConvolution, Iv, Option, le-ltb, nat_tests, chosen, passed, in_some, AreApart}
use Rattle.std.proofs.Common.{◌≢◌, Bool, true, false, not, cond, ◌&&◌, ◌||◌, nat_lt, nat_eq}
use Rattle.dl_model.specs.Measures.{without}
use Rattle.dl_totals.proofs.Added.{alone, encloses_at, first_cells}
use Rattle.dl_totals.proofs.Apart.{Encloses, passed_more}
use Rattle.dl_totals.proofs.Chosen.{all_but, both_chosen, every, none_chosen, one_chosen}

-- the grid of one unit
pub one_unit : {B : ℕ} (grids : List (List (Iv B))) (i : ℕ) (g : List (Iv B)) → i < length grids → g ≡ get_or grids i g
    → (us : List Loss) → AreDeclarable us → EncloseEach grids us → GridEncloses g (total (chosen us (nat_eq i)))
one_unit grids i g inside is us w each =
    let r = one_chosen us i (omega (arith, inside, each.as_many)) w in
    subst (λ vs. GridEncloses g (total vs)) (sym r.1)
    (alone g r.0 r.3 (subst (λ F. GridEncloses g F) r.2 (encloses_at grids us i g each inside is)))

-- its first cells
pub one_sum : {B : ℕ} (k : ℕ) (grids : List (List (Iv B))) (i : ℕ) (g t : List (Iv B)) → i < length grids
    → g ≡ get_or grids i g → k ≤ length g → t ≡ take k g → Encloses k grids (nat_eq i) t
one_sum {B} k grids i g t inside is long e = record {
  cells = omega (arith, long, ap length e, length-take k g);
  encloses = λ us w each. subst (λ (s : List (Iv B)). GridEncloses s (total (chosen us (nat_eq i)))) (sym e)
      (first_cells g k (total (chosen us (nat_eq i))) long (one_unit grids i g inside is us w each));
}

-- so many places have been looked at, but for one
abbrev pub seen : ℕ → ℕ → ℕ → ℕ
seen at skip i = cond (nat_lt i at && not (nat_eq i skip)) 1 0

pub seen_more : (at skip i : ℕ) → at ≢ skip → seen at skip i + cond (nat_eq at i) 1 0 ≡ seen (at + 1) skip i
seen_more at skip i h = grind (arith, nat_tests, h)

pub seen_same : (at skip i : ℕ) → at ≡ skip → seen at skip i ≡ seen (at + 1) skip i
seen_same at skip i h = grind (arith, nat_tests, h)

pub seen_once : (at skip i : ℕ) → seen at skip i ≤ 1
seen_once at skip i = once (nat_lt i at && not (nat_eq i skip))
  where
    once : (b : Bool) → cond b 1 0 ≤ 1
    once true = omega arith
    once false = omega arith

seen_tells : (n skip i : ℕ) → i < n → nat_lt 0 (seen n skip i) ≡ not (nat_eq i skip)
seen_tells n skip i h = grind (arith, nat_tests, h)

module _ {B : ℕ} (k : ℕ) (grids : List (List (Iv B))) (tests : List (ℕ → Bool)) (skip : ℕ)
    (each : (i : ℕ) → passed tests i ≡ seen (length grids) skip i) where
  pub apart : AreApart tests
  apart i = omega (arith, each i, seen_once (length grids) skip i)

  -- the tests pick all units but one
  picked : (us : List Loss) → EncloseEach grids us → chosen us (in_some tests) ≡ without us skip
  picked us e = all_but us skip (in_some tests) (λ i inside.
      ap (nat_lt 0) (each i) ∙ seen_tells (length grids) skip i (omega (arith, inside, e.as_many)))

  pub but_one : (g : List (Iv B)) → Encloses k grids (in_some tests) g → IsSumOfPart k grids (λ us. without us skip) (Some g)
  but_one g sum = record {
    cells = sum.cells;
    encloses = λ us w e. subst (λ vs. GridEncloses g (total vs)) (picked us e) (sum.encloses us w e);
  }

  pub none_but : length tests ≡ 0 → IsSumOfPart k grids (λ us. without us skip) None
  none_but e = record {
    cells = tt;
    encloses = λ us w h. sym (picked us h) ∙ none_chosen us (in_some tests) (λ i inside. none_in tests e i);
  }
    where
      none_in : (tests : List (ℕ → Bool)) → length tests ≡ 0 → (i : ℕ) → in_some tests i ≡ false
      none_in [] e i = le-ltb 0 0 (omega arith)
      none_in (p ∷ ps) e i = absurd (omega (arith, e))

-- one place more
pub each_more : (tests : List (ℕ → Bool)) (at skip : ℕ) → ((i : ℕ) → passed tests i ≡ seen at skip i) → at ≢ skip
    → (i : ℕ) → passed (tests ++ nat_eq at ∷ []) i ≡ seen (at + 1) skip i
each_more tests at skip each other i = omega (
  arith,
  passed_more tests (nat_eq at) i,
  each i,
  seen_more at skip i other,
)

-- where there is no such place nothing is left out
pub none_without : (us : List Loss) (n : ℕ) → length us ≤ n → without us n ≡ us
none_without [] n h = refl
none_without (u ∷ us) zero h = absurd (omega (arith, h))
none_without (u ∷ us) (suc n) h = ap (λ vs. u ∷ vs) (none_without us n (omega (arith, h)))

pub all_without : {B : ℕ} (k : ℕ) (grids : List (List (Iv B))) (n : ℕ) (sum : Option (List (Iv B))) → n ≡ length grids
    → IsSumOfPart k grids (λ us. without us n) sum → IsSumOfPart k grids (λ us. us) sum
all_without k grids n sum e part = record {
  cells = part.cells;
  encloses = λ us w each. subst (EnclosesSum sum) (none_without us n (omega (arith, e, each.as_many)))
      (part.encloses us w each);
}

-- the unit that was left out joins the others
pub back : {B : ℕ} (k : ℕ) (grids : List (List (Iv B))) (i : ℕ) (others unit sum : List (Iv B)) → i < length grids
    → unit ≡ get_or grids i unit → IsSumWithout k grids i others → k ≤ length unit → length sum ≡ k
    → IsConvolution k others unit sum
    → (us : List Loss) → AreDeclarable us → EncloseEach grids us → GridEncloses sum (total us)
back k grids i others unit sum inside is without_one long cells conv us w e =
    let but : ℕ → Bool = λ j. not (nat_eq j i) in
    let both = both_chosen k grids others unit sum but (nat_eq i) (λ j. apart_at i j)
    (λ vs z each. subst (λ t. GridEncloses others (total t)) (sym (all_but vs i but (λ j h. refl)))
    (without_one.encloses vs z each))
    (one_unit grids i unit inside is) (omega (arith, without_one.cells)) long cells conv in
    subst (λ vs. GridEncloses sum (total vs)) (every us (λ j. but j || nat_eq i j) (λ j h. either_at i j)) (both.encloses us w e)
  where
    apart_at : (i j : ℕ) → (not (nat_eq j i) && nat_eq i j) ≡ false
    apart_at i j = grind (arith, nat_tests)

    either_at : (i j : ℕ) → (not (nat_eq j i) || nat_eq i j) ≡ true
    either_at i j = grind (arith, nat_tests)
