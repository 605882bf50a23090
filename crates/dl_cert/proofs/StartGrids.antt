-- The cells of a start, each the number of those before it, are a grid.
use Rattle.dl_cert.proofs.Common.{ends_in_order, ℕ, suc, ◌≡◌, ◌+◌, ◌-◌, ◌<◌, ◌≤◌, ◌^◌, ◌∙◌, inl, refl, sym, subst, arith, List, length, All, more_below, whole, ◌≤ℚ◌, ◌over◌, one_pos, one_times, le_trans, zero-lt-suc, count_below, sum_to, Iv, low_at, high_at, IsGrid, most_cert_cells, Family, Encloses, UnitOfPlan, IsValidUnit, thinned_mean, HasValues, Base, IsBaseOf, low_base, high_base, IsExactStart, one, unit_part, unit_parts, le_over, to_over, whole_mass, to_holds}
use Rattle.dl_cert.proofs.Parts.{start_encloses}
use Rattle.dl_cert.proofs.Passings.{grid_now}
use Rattle.dl_cert.proofs.Targets.{part_values}

-- where each end is a number of those before it, and one end more
pub one_more_is : (number : (ℕ → ℕ) → ℕ → ℕ) (f g : ℕ → ℕ) (n : ℕ)
    → ((f g : ℕ → ℕ) (y : ℕ) → ((k : ℕ) → k < y → f k ≡ g k) → number f y ≡ number g y)
    → ((k : ℕ) → k < n → g k ≡ f k) → ((k : ℕ) → k < n → f k ≡ number f k) → g n ≡ number f n
    → (k : ℕ) → k < n + 1 → g k ≡ number g k
one_more_is number f g n by_ends same before here = more_below (λ k. g k ≡ number g k) n
    (λ k near. same k near ∙ before k near ∙ sym (by_ends g f k (λ j less. same j (omega (arith, less, near)))))
    (here ∙ sym (by_ends g f n same))

pub exact_start : {unit : UnitOfPlan} {base : Base} → IsBaseOf unit base → 1 ≤ unit_parts unit
    → {cells : List (Iv 56)} {n : ℕ} → length cells ≡ n
    → ((y : ℕ) → y < n → low_at cells y ≡ low_base base unit.sev (low_at cells) y)
    → ((y : ℕ) → y < n → high_at cells y ≡ high_base base unit.sev (high_at cells) y)
    → IsExactStart unit.freq unit.sev (thinned_mean unit) cells
exact_start is some {cells = cells} long low high = record {
  low = λ y inside. low y (omega (arith, inside, long)) ∙ is.low some (low_at cells) y;
  high = λ y inside. high y (omega (arith, inside, long)) ∙ is.high some (high_at cells) y;
}

-- the low ends of cells that enclose a family add up to at most 1
low_mass : (F : Family) → HasValues F → (S n : ℕ) (lo hi : ℕ → ℕ) → 0 < S → Encloses S (suc n) lo hi F
    → count_below (suc n) lo ≤ S
low_mass F values S n lo hi pos encloses =
    let p = values.proper in
    let sums = to_holds n F.cells F.all (λ y. lo y over S) (λ y. hi y over S) p.cells_rise
    (λ y near. encloses y (omega (arith, near))) in
    let most : sum_to n (λ y. lo y over S) ≤ℚ whole 1 =
    ends_in_order F.all p.all_rises values.bound values.level values.bounded values.positive
    (λ N. sum_to n (λ i. F.cells i N)) _ (whole 1) sums.0
    (λ N u bound. subst (λ t. sum_to n (λ i. F.cells i N) ≤ℚ t) (sym (one_times u))
    (le_trans _ _ _ (p.within n N) (bound N))) in
    omega (
      arith,
      le_over (count_below (suc n) lo) S 1 1 pos one_pos
          (subst (λ t. t ≤ℚ whole 1) (to_over n S lo pos) most),
    )

pub start_is_grid : {unit : UnitOfPlan} {h : ℕ} → IsValidUnit h unit → 1 ≤ unit_parts unit → {cells : List (Iv 56)}
    → 1 ≤ length cells → length cells ≤ most_cert_cells → All (λ cell. cell.hi ≤ 2 ^ 56) cells
    → IsExactStart unit.freq unit.sev (thinned_mean unit) cells → IsGrid cells
start_is_grid {unit = unit} valid counted {cells = cells} some few small exact =
    let n : ℕ = length cells - 1 in
    let v = thinned_mean unit in
    let long : suc n ≡ length cells = omega (arith, some) in
    let encloses = start_encloses unit.sev v (suc n) (zero-lt-suc n) (low_at cells) (high_at cells) unit.freq valid.count
    refl counted (λ y inside. omega (arith, exact.low y (omega (arith, inside, long))))
    (λ y inside. inl (omega (arith, exact.high y (omega (arith, inside, long))))) in
    let mass = low_mass (unit_part unit) (part_values unit.freq unit.sev v valid.count refl) one n (low_at cells)
    (high_at cells) (omega arith) encloses in
    grid_now (length cells) cells some few refl small (omega (arith, mass, whole_mass (suc n) cells (sym long)))
