-- What validity says of a unit by the kind of its count, and its budget.
use Rattle.dl_budget.proofs.Common.{ℕ, ◌≡◌, ◌+◌, ◌*◌, ◌<◌, ◌≤◌, List, length, arith, inl, inr, refl, sym, ap, ap₂, subst, ◌∙◌, mul-le-mul, most_operands, Fraction, rounded_spread, IsValidUnit, count_budget, poisson_budget, gamma_budget, claims_budget, ◌==◌, if◌then◌else◌, eqb_tells, Freq, Poisson, Gamma, UnitOfPlan, IsUnbounded, IsClaimCount, IsGammaOn, IsThinnedGamma, IsThinnedTo, thinned_mean, ◌/ℚ◌, Item}
use Rattle.dl_budget.proofs.Bases.{beta_room}

-- the budget by the count and the items that were read
pub claims_of : (S K : ℕ) (u : UnitOfPlan) (freq : Freq) (items : List Item) → u.freq ≡ freq → items ≡ u.sev.items
    → count_budget S K (length items) (thinned_mean u) freq ≡ claims_budget S K u
claims_of S K u freq items of_freq of_items = ap₂ (λ xs f. count_budget S K (length xs) (thinned_mean u) f) of_items
    (sym of_freq)

pub count_of : (h : ℕ) (u : UnitOfPlan) (freq : Freq) → IsValidUnit h u → u.freq ≡ freq → IsClaimCount freq
count_of h u freq valid e = subst IsClaimCount e valid.count

-- a count with a greatest number has at most 65,536 amounts
pub few_items : (h : ℕ) (u : UnitOfPlan) (freq : Freq) (items : List Item) → IsValidUnit h u → u.freq ≡ freq
    → ¬ IsUnbounded freq → items ≡ u.sev.items → length items ≤ 65536
few_items h u freq items valid e bounded same =
    subst (λ xs. length xs ≤ 65536) (sym same) (valid.items (subst (λ f. ¬ IsUnbounded f) (sym e) bounded))

pub power_room : (K J m : ℕ) → K ≤ 65536 → J ≤ 196611 → m ≤ 65536 → m * rounded_spread K 0 J ≤ most_operands
unfolding rounded_spread
power_room K J m few items most =
    let one : J + 2 * K + 1 + 0 ≤ 327684 = omega arith in
    omega (arith, mul-le-mul most one)

pub listed_begins : (K J m : ℕ) → K ≤ 65536 → J ≤ 65536 → m ≤ 256
    → rounded_spread K 2 1 + m * rounded_spread K 2 J ≤ most_operands
unfolding rounded_spread
listed_begins K J m few items most =
    let one : J + 2 * K + 1 + 2 ≤ 196611 = omega arith in
    omega (arith, mul-le-mul most one)

-- 0 where n is 0
pub where_none : (n x y : ℕ) → (n ≡ 0 → x ≡ 0) → (0 < n → x ≡ y) → x ≡ (if n == 0 then 0 else y)
where_none n x y none some = elim (eqb_tells n 0) [
  | inl is ↦ rw is.0 (none is.1)
  | inr differs ↦ rw differs.0
      (some (omega (arith, differs.1)))
]

pub poisson_value : (S K : ℕ) (u : UnitOfPlan) (mean m : Fraction) (x : ℕ) → u.freq ≡ Poisson mean → m ≡ thinned_mean u
    → (m.num ≡ 0 → x ≡ 0) → (0 < m.num → x ≡ poisson_budget S K m) → x ≡ claims_budget S K u
unfolding count_budget
poisson_value S K u mean m x of_freq of_mean none some =
    where_none m.num x (poisson_budget S K m) none some
    ∙ ap (λ t. if t.num == 0 then 0 else poisson_budget S K t) of_mean
    ∙ claims_of S K u (Poisson mean) u.sev.items of_freq refl

pub gamma_value : (S K : ℕ) (u : UnitOfPlan) (shape mean m : Fraction) (x : ℕ) → u.freq ≡ Gamma shape mean
    → m ≡ thinned_mean u
    → (m.num ≡ 0 → x ≡ 0) → (0 < m.num → x ≡ gamma_budget S K shape m) → x ≡ claims_budget S K u
unfolding count_budget
gamma_value S K u shape mean m x of_freq of_mean none some =
    where_none m.num x (gamma_budget S K shape m) none some
    ∙ ap (λ t. if t.num == 0 then 0 else gamma_budget S K shape t) of_mean
    ∙ claims_of S K u (Gamma shape mean) u.sev.items of_freq refl

-- a gamma count of a valid unit can be counted with on any grid
pub gamma_on : (K h : ℕ) (u : UnitOfPlan) (shape mean m : Fraction) → K ≤ 65536 → IsValidUnit h u
    → u.freq ≡ Gamma shape mean → m ≡ thinned_mean u → IsGammaOn K shape m
gamma_on K h u shape mean m few valid is same =
    let thinned : IsThinnedGamma shape (thinned_mean u) =
    subst (λ f. IsThinnedTo f (thinned_mean u)) is valid.thinned_count in
    subst (IsGammaOn K shape) (sym same) record {
      few = few;
      of_shape = (count_of h u (Gamma shape mean) valid is).shape;
      within = (valid.thinned (subst IsUnbounded (sym is) tt)).1;
      beta = thinned.beta;
      below_one = λ below. beta_room K (thinned_mean u /ℚ shape) few thinned.few;
    }
