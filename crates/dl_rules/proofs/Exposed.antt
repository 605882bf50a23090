-- The mean of a severity, and a quotient by it.
use Rattle.dl_rules.proofs.Common.{◌≡◌, ◌∙◌, ℕ, ◌<◌, Bool, true, false, nat_lt, ◌||◌, cond, [], ◌∷◌, refl, sym, ap₂, subst, list_any, Fraction, whole, ◌*ℚ◌, ◌/ℚ◌, ◌<ℚ◌, ◌≤ℚ◌, div_times, pos_num, Pairs, mean_amount, support, ◌+ℚ◌, sum_over, ring, times_cancel, times_pos, le_plus, plus_comm, lt_of_lt_of_le, whole_pos, ltb-true, is_positive, support_step}

-- ---- the mean

module _ (p : ℕ × Fraction) (ps : Pairs) where
  more : whole 0 <ℚ mean_amount ps → whole 0 <ℚ mean_amount (p ∷ ps)
  unfolding sum_over
  more k =
      lt_of_lt_of_le (whole 0) (mean_amount ps) (whole p.0 *ℚ p.1 +ℚ mean_amount ps) k
      (subst (λ t. mean_amount ps ≤ℚ t) (plus_comm (mean_amount ps) (whole p.0 *ℚ p.1))
      (le_plus (mean_amount ps) (whole p.0 *ℚ p.1)))

  first : 0 < p.0 → 0 < p.1.num → whole 0 <ℚ mean_amount (p ∷ ps)
  unfolding sum_over
  first a b =
      lt_of_lt_of_le (whole 0) (whole p.0 *ℚ p.1) (whole p.0 *ℚ p.1 +ℚ mean_amount ps)
      (times_pos (whole p.0) p.1 (whole_pos p.0 a) (pos_num p.1 b)) (le_plus (whole p.0 *ℚ p.1) (mean_amount ps))

  module _ (rest : list_any (nat_lt 0) (support ps) ≡ true → whole 0 <ℚ mean_amount ps) where
    by_amount : (b : Bool) → nat_lt 0 p.0 ≡ b → 0 < p.1.num → (b || list_any (nat_lt 0) (support ps)) ≡ true
        → whole 0 <ℚ mean_amount (p ∷ ps)
    by_amount true is some k = first (ltb-true 0 p.0 is) some
    by_amount false is some k = more (rest k)

    by_weight : (b : Bool) → is_positive p.1 ≡ b → list_any (nat_lt 0) (cond b (p.0 ∷ support ps) (support ps)) ≡ true
        → whole 0 <ℚ mean_amount (p ∷ ps)
    by_weight true is k = by_amount (nat_lt 0 p.0) refl (ltb-true 0 p.1.num is) k
    by_weight false is k = more (rest k)

pub mean_above : (ps : Pairs) → list_any (nat_lt 0) (support ps) ≡ true → whole 0 <ℚ mean_amount ps
mean_above [] h = absurd (cc)
mean_above (p ∷ ps) h = by_weight p ps (mean_above ps) (is_positive p.1) refl
    (subst (λ xs. list_any (nat_lt 0) xs ≡ true) (support_step p ps) h)

-- ---- a quotient by a product

pub quotients : (a b s m : Fraction) → whole 0 <ℚ b → whole 0 <ℚ m → (a /ℚ b) *ℚ (s /ℚ m) ≡ (a *ℚ s) /ℚ (m *ℚ b)
quotients a b s m hb hm =
    let above : whole 0 <ℚ m *ℚ b = times_pos m b hm hb in
    times_cancel ((a /ℚ b) *ℚ (s /ℚ m)) ((a *ℚ s) /ℚ (m *ℚ b)) (m *ℚ b) above
    (regroup (a /ℚ b) (s /ℚ m) m b ∙ ap₂ (λ p q. p *ℚ q) (div_times a b hb) (div_times s m hm)
    ∙ sym (div_times (a *ℚ s) (m *ℚ b) above))
  where
    regroup : (p q m b : Fraction) → (p *ℚ q) *ℚ (m *ℚ b) ≡ (p *ℚ b) *ℚ (q *ℚ m)
    regroup p q m b = simp ring
