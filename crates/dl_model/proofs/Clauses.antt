-- A unit after its aggregate clause, from a grid of the sums before it.
use Rattle.dl_model.proofs.Common.{◌≡◌, inl, inr, ℕ, suc, ◌+◌, ◌-◌, ◌*◌, ◌<◌, ◌≤◌, min, Bool, true, false, nat_eq, arith, refl, sym, ap, ap₂, subst, subst₂, ◌∙◌, eq-eqb, if◌then◌else◌, fun_ext, min-eq_right, cases_lt, Fraction, whole, ◌over◌, ◌+ℚ◌, sum_to, plus_zero, zero_plus, plus_comm, sum_to_same, sum_to_plus, sum_to_longer, sum_to_either, Series, IsBound, AtMost, AtLeast, Holds, cell, Aggregate, IsDeclarable, where_true, outcome, compound, mapped, Encloses, min-eq_left, count_below, to_over, over_rest, over_one, over_zero}
use Rattle.dl_model.proofs.TotalLaws.{none_holds, where_rises, at_least_rest, at_most_rest, cell_past, cells_all, sum_rises_to, cell_at_most_one, off, unit_proper, to_rises, to_holds, part_most_one}

not : Bool → Bool
not true = false
not false = true

pub where_none : (b : Bool) → where_true b (whole 0) ≡ whole 0
where_none true = refl
where_none false = refl

where_both : (b : Bool) (x : Fraction) → where_true b x +ℚ where_true (not b) x ≡ x
unfolding not
where_both true x = plus_zero x
where_both false x = zero_plus x

-- what is at most 1 is at most the lesser of its high end and 1
clamped : (Q R : Series) (n S : ℕ) → 0 < S → AtMost Q R (whole 1) → AtMost Q R (n over S) → AtMost Q R (min S n over S)
clamped Q R n S pos one high = elim (cases_lt S n) [
  | inl more ↦ subst (AtMost Q R) (sym (ap (λ t. t over S) (min-eq_left (omega arith)) ∙ over_one S pos)) one
  | inr less ↦ subst (λ t. AtMost Q R (t over S)) (sym (min-eq_right less)) high
]

module _ (u : Aggregate) (h : IsDeclarable u) (S k : ℕ) (lo hi : ℕ → ℕ) (pos : 0 < S)
    (e : Encloses S (suc k) lo hi (compound u.count u.severity)) where
  abbrev sums : ℕ → Series
  sums s = cell u.count u.severity s

  abbrev weights : Series
  weights N = sum_to N u.count

  -- the cells that a test picks
  abbrev part : (ℕ → Bool) → Series
  part test N = sum_to k (λ s. where_true (test s) (sums s N))

  picked_holds : (b : Bool) (s : ℕ) → s ≤ k
      → Holds (λ N. where_true b (sums s N)) weights ((if b then lo s else 0) over S) ((if b then hi s else 0) over S)
  picked_holds true s b = e s (omega arith)
  picked_holds false s b = subst (λ z. Holds (λ N. whole 0) weights z z) (sym (over_zero S pos))
      (none_holds (λ N. whole 0) weights (λ N. refl))

  part_holds : (test : ℕ → Bool) → Holds (part test) weights
      (count_below (suc k) (λ s. if test s then lo s else 0) over S)
      (count_below (suc k) (λ s. if test s then hi s else 0) over S)
  part_holds test = subst₂ (λ l h. Holds (part test) weights l h) (to_over k S _ pos) (to_over k S _ pos)
      (to_holds k (λ s N. where_true (test s) (sums s N)) weights (λ s. (if test s then lo s else 0) over S)
      (λ s. (if test s then hi s else 0) over S)
      (λ s. where_rises (test s) (sums s) (sum_rises_to _)) (λ s b. picked_holds (test s) s b))

  far : (b : Bool) (s N : ℕ) → N * u.most < s → where_true b (sums s N) ≡ whole 0
  far b s N c = ap (where_true b) (cell_past u.count u.severity u.most h.severity.past s N c) ∙ where_none b

  -- each sum that the clause maps to y has a cell
  module _ (y : ℕ) where
    abbrev hits : ℕ → Bool
    hits s = nat_eq (u.clause s) y

    abbrev misses : ℕ → Bool
    misses s = not (nat_eq (u.clause s) y)

    few : ((s : ℕ) → u.clause s ≡ y → s ≤ k) → (N : ℕ) → outcome u y N ≡ part hits N
    few within N = sum_to_either (N * u.most) k (λ s. where_true (hits s) (sums s N)) (λ s b. far (hits s) s N b)
        (λ s b. off (u.clause s) y (sums s N) (λ c. omega (arith, within s c)))

    pub clause_few : ((s : ℕ) → u.clause s ≡ y → s ≤ k)
        → Holds (outcome u y) weights (count_below (suc k) (λ s. if nat_eq (u.clause s) y then lo s else 0) over S)
        (min S (count_below (suc k) (λ s. if nat_eq (u.clause s) y then hi s else 0)) over S)
    clause_few within =
        let n = count_below (suc k) (λ s. if nat_eq (u.clause s) y then hi s else 0) in
        let v = subst (λ Q. Holds Q weights (count_below (suc k)
        (λ s. if nat_eq (u.clause s) y then lo s else 0) over S) (n over S)) (sym (fun_ext (few within)))
        (part_holds hits) in (
          v.0,
          clamped (outcome u y) weights n S pos (cell_at_most_one (mapped u) (unit_proper u h) y) v.1,
        )

    -- the clause maps every sum past the grid to y
    rest : ((s : ℕ) → k < s → u.clause s ≡ y) → (N : ℕ) → part misses N +ℚ outcome u y N ≡ weights N
    unfolding not
    rest past N =
        let M = N * u.most + k in
        ap₂ (λ a b. a +ℚ b)
        (sym (sum_to_longer k M (λ s. where_true (misses s) (sums s N)) (omega arith)
        (λ s b. ap (λ t. where_true (not t) (sums s N)) (eq-eqb (u.clause s) y (past s b)))))
        (sym (sum_to_longer (N * u.most) M (λ s. where_true (hits s) (sums s N)) (omega arith)
        (λ s b. far (hits s) s N b)))
        ∙ plus_comm _ _
        ∙ sym (sum_to_plus M (λ s. where_true (hits s) (sums s N)) (λ s. where_true (misses s) (sums s N)))
        ∙ sum_to_same M _ _ (λ s b. where_both (hits s) (sums s N))
        ∙ cells_all u.count u.severity u.most h.severity N M (omega arith)

    others : (f : ℕ → ℕ) → count_below (suc k) (λ s. if misses s then f s else 0) ≡ count_below (suc k)
        (λ s. if nat_eq (u.clause s) y then 0 else f s)
    unfolding not
    others f = ap (count_below (suc k)) (fun_ext (λ s. turned (nat_eq (u.clause s) y) (f s)))
      where
        turned : (b : Bool) (n : ℕ) → (if not b then n else 0) ≡ (if b then 0 else n)
        turned true n = refl
        turned false n = refl

    pub clause_rest : (v : Fraction) → IsBound weights v → ((s : ℕ) → k < s → u.clause s ≡ y)
        → count_below (suc k) (λ s. if nat_eq (u.clause s) y then 0 else lo s) ≤ S
        → Holds (outcome u y) weights ((S - min S
        (count_below (suc k) (λ s. if nat_eq (u.clause s) y then 0 else hi s))) over S)
        ((S - count_below (suc k) (λ s. if nat_eq (u.clause s) y then 0 else lo s)) over S)
    clause_rest v bound past fits =
        let l = count_below (suc k) (λ s. if nat_eq (u.clause s) y then 0 else lo s) in
        let n = count_below (suc k) (λ s. if nat_eq (u.clause s) y then 0 else hi s) in
        let w = part_holds misses in
        let low : AtLeast (part misses) weights (l over S) =
        subst (λ t. AtLeast (part misses) weights (t over S)) (others lo) w.0 in
        let high : AtMost (part misses) weights (min S n over S) =
        clamped (part misses) weights n S pos (part_most_one (part misses) (outcome u y) weights (rest past))
        (subst (λ t. AtMost (part misses) weights (t over S)) (others hi) w.1) in (
          at_least_rest (part misses) (outcome u y) weights (min S n over S) ((S - min S n) over S) v (rest past) bound
              (over_rest (min S n) S pos (omega arith)) high,
          at_most_rest (part misses) (outcome u y) weights (l over S) ((S - l) over S)
              (to_rises k (λ s N. where_true (misses s) (sums s N)) (λ s. where_rises (misses s) (sums s) (sum_rises_to _)))
              ((unit_proper u h).cells_rise y) (rest past) (over_rest l S pos fits) low,
        )
