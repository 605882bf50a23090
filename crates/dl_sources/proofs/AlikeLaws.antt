-- Units that are alike have the same grids and means.
use Rattle.dl_sources.proofs.Common.{inl, inr, cases_lt, get_or, get_or_default, ℕ, ◌≡◌, ◌+◌, ◌<◌, ◌≤◌, ◌^◌, List, [], ◌∷◌, length, take, arith, refl, sym, ap, subst, subst₂, ◌∙◌, Option, whole, ◌over◌, Iv, spread, Holds, GridEncloses, Aggregate, One, Mean, partial_sums, outcome_after, Clause, horizon, after_clause, unit_budget, unit_mean_budget, mean_width, IsUnitGrid, IsUnitMean, loss_of, take_all, Fraction, ◌*ℚ◌, ◌-ℚ◌, up, mean_amount, shares, Loss, after_zero, count_weights, UnitOfPlan, expected_count, count_budget, none_budget, budget_after_zero, mean_after_zero, Item, Freq, weight_at, greatest, AreAlike}

-- a unit's aggregate loss, and its budget before its clause, from what alike units share
abbrev aggregate : Freq → Option Clause → List Item → ℕ → Aggregate
aggregate freq cede items total = record {
  count = count_weights freq;
  severity = λ x. weight_at items x over total;
  most = greatest items;
  clause = outcome_after cede;
}

abbrev budget : (S : ℕ) → ℕ → Freq → Option Clause → List Item → ℕ → ℕ
budget S H freq cede items total =
    count_budget S (horizon cede H) (length items)
    (expected_count freq *ℚ (whole 1 -ℚ weight_at items 0 over total)) freq

alike_same : {A : Type 0} (f : Freq → Option Clause → Option Fraction → List Item → ℕ → A) {u v : UnitOfPlan} → AreAlike u v
    → f u.freq u.cede u.zero u.sev.items u.sev.total ≡ f v.freq v.cede v.zero v.sev.items v.sev.total
alike_same f e = rw (e.count, e.clause, e.zero, e.items, e.total) refl

same_loss_of : {u v : UnitOfPlan} → AreAlike u v → loss_of u ≡ loss_of v
same_loss_of = alike_same (λ freq cede zero items total. after_zero zero (aggregate freq cede items total))

pub alike_grid : {B : ℕ} {H : ℕ} {u v : UnitOfPlan} {g t : List (Iv B)} → AreAlike u v → IsUnitGrid H u g → t ≡ take H g
    → IsUnitGrid H v t
alike_grid {B} {H = H} {u = u} {v = v} {g = g} {t = t} e of_u is =
    let all : t ≡ g = is ∙ take_all H g (omega (arith, of_u.cells)) in
    let narrow : unit_budget (2 ^ B) H u ≡ unit_budget (2 ^ B) H v =
    alike_same (λ freq cede zero items total. budget_after_zero zero H (none_budget (2 ^ B) freq)
    (after_clause cede (budget (2 ^ B) H freq cede items total))) e in record {
      cells = ap length all ∙ of_u.cells;
      encloses = subst₂ (λ (s : List (Iv B)) (l : Loss). GridEncloses s l.family) (sym all) (same_loss_of e)
          of_u.encloses;
      narrow = omega (arith, of_u.narrow, narrow, ap spread all);
    }

pub alike_mean : {B : ℕ} {H : ℕ} {u v : UnitOfPlan} {mean : Iv B} → AreAlike u v → IsUnitMean H u mean
    → IsUnitMean H v mean
alike_mean {B} {H = H} {u = u} {v = v} {mean = mean} e of_u = record {
  holds = subst (λ (l : Loss). Holds (partial_sums (l ∷ []) Mean) (partial_sums (l ∷ []) One) (mean.lo over 2 ^ B)
      (mean.hi over 2 ^ B)) (same_loss_of e) of_u.holds;
  narrow =
      let same : unit_mean_budget (2 ^ B) H u ≡ unit_mean_budget (2 ^ B) H v =
      alike_same (λ freq cede zero items total. mean_after_zero zero
      (up (expected_count freq *ℚ mean_amount (shares items total))) (none_budget (2 ^ B) freq)
      (mean_width cede (budget (2 ^ B) H freq cede items total))) e in
      omega (arith, of_u.narrow, same);
}

-- ---- units that are all like the first

alike_self : (u : UnitOfPlan) → AreAlike u u
alike_self u = record { items = refl; total = refl; count = refl; clause = refl; zero = refl }

-- the first is like itself
pub first_like : (us : List UnitOfPlan) (k : ℕ) (d u : UnitOfPlan) → 1 ≤ length us → k < 1
    → AreAlike (get_or us 0 u) (get_or us k d)
first_like [] k d u some first = absurd (omega (arith, some))
first_like (v ∷ us) k d u some first =
    let same : 0 ≡ k = omega (arith, first) in
    subst (λ (n : ℕ). AreAlike v (get_or (v ∷ us) n d)) same (alike_self v)

-- one more
pub next_like : (us : List UnitOfPlan) (i k : ℕ) (d u a b : UnitOfPlan)
    → ((k : ℕ) (d u : UnitOfPlan) → k < i → AreAlike (get_or us 0 u) (get_or us k d))
    → a ≡ get_or us 0 a → b ≡ get_or us i b → i < length us → AreAlike a b → k < i + 1
    → AreAlike (get_or us 0 u) (get_or us k d)
next_like us i k d u a b earlier first here inside alike within = elim (cases_lt k i) [
  | inl below ↦ earlier k d u below
  | inr past ↦
      let same : i ≡ k = omega (arith, within, past) in
      subst (λ (n : ℕ). AreAlike (get_or us 0 u) (get_or us n d)) same
      (subst₂ AreAlike (first ∙ get_or_default us 0 a u (omega (arith, inside)))
      (here ∙ get_or_default us i b d inside) alike)
]
