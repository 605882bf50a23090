-- The least number at which a map is settled: one that never falls, and is a straight line from some number on.
use Rattle.dl_plan.proofs.Common.{ℕ, zero, suc, ◌≡◌, ◌∙◌, ◌+◌, ◌-◌, ◌*◌, ◌<◌, ◌≤◌, ◌⊎◌, max, refl, sym, ap, subst, arith, inl, inr, div_ceil, cases_lt, max-eq_left, div_ceil_times, div_ceil_least}

-- a number below n that is the least with P, or none below n
first_below : (P : ℕ → Type 0) (n : ℕ) → ((s : ℕ) → s < n → P s ⊎ ¬ P s)
    → ((s : ℕ) × (s < n) × P s × ((r : ℕ) → P r → s ≤ r)) ⊎ ((r : ℕ) → r < n → ¬ P r)
first_below P zero known = inr (λ r h p. omega (arith, h))
first_below P (suc n) known = elim (first_below P n (λ s h. known s (omega (arith, h)))) [
  | inl found ↦ inl (found.0, omega (arith, found.1), found.2, found.3)
  | inr none ↦ elim (known n (omega arith)) [
    | inl here ↦ inl (n, omega arith, here, least none)
    | inr not_here ↦ inr (last none not_here)
  ]
]
  where
    least : ((r : ℕ) → r < n → ¬ P r) → (r : ℕ) → P r → n ≤ r
    least none r p = elim (cases_lt r n) [
      | inl h ↦ absurd (none r h p)
      | inr h ↦ h
    ]

    last : ((r : ℕ) → r < n → ¬ P r) → ¬ P n → (r : ℕ) → r < suc n → ¬ P r
    last none not_here r h p = elim (cases_lt r n) [
      | inl before ↦ none r before p
      | inr after ↦ not_here (subst P (omega (arith, h, after)) p)
    ]

-- the map f never falls, and from e on each step adds the same
pub record IsBent (f : ℕ → ℕ) (e : ℕ) (rise : ℕ) : Type 0 where
  pub rises : (x n : ℕ) → f x ≤ f (x + n)
  pub line : (n : ℕ) → f (e + n) ≡ f e + n * rise

-- where each value past e is the mean of the two beside it, the map is a straight line
pub line_from : (f : ℕ → ℕ) (e : ℕ) → f e ≤ f (e + 1)
    → ((n : ℕ) → f (e + n) + f (e + n + 2) ≡ 2 * f (e + n + 1)) → (n : ℕ)
    → (f (e + n) ≡ f e + n * (f (e + 1) - f e)) × (f (e + n + 1) ≡ f e + (n + 1) * (f (e + 1) - f e))
line_from f e step mean zero = grind arith
line_from f e step mean (suc n) = grind (arith, line_from f e step mean n)

-- at s the map has reached w, or it is constant from there on
abbrev pub IsSettledAt : (ℕ → ℕ) → ℕ → ℕ → Type 0
IsSettledAt f w s = (w ≤ f s) ⊎ ((r : ℕ) → s ≤ r → f r ≡ f s)

pub record IsLeastSettled (f : ℕ → ℕ) (w : ℕ) (s : ℕ) : Type 0 where
  pub settled : IsSettledAt f w s
  pub least : (r : ℕ) → IsSettledAt f w r → s ≤ r

module _ (f : ℕ → ℕ) (e w rise : ℕ) (bent : IsBent f e rise) where
  from_to : (x y : ℕ) → x ≤ y → f x ≤ f y
  from_to x y h = subst (λ z. f x ≤ f z) (omega (arith, h)) (bent.rises x (y - x))

  -- a step past e
  one_step : f (e + 1) ≡ f e + rise
  one_step = bent.line 1 ∙ omega arith

  past : (r : ℕ) → e ≤ r → f r ≡ f e + (r - e) * rise
  past r h = subst (λ z. f z ≡ f e + (r - e) * rise) (omega (arith, h)) (bent.line (r - e))

  -- with no rise past e, a number before e with the value of e is one from which the map is constant
  flat_from : (s : ℕ) → s ≤ e → rise ≡ 0 → f e ≡ f s → (r : ℕ) → s ≤ r → f r ≡ f s
  flat_from s h none same r after = grind (arith, from_to s r after, from_to, past)

  -- what is constant from s on does not rise past e
  no_rise : (s : ℕ) → s ≤ e → ((r : ℕ) → s ≤ r → f r ≡ f s) → (f e ≡ f s) × (rise ≡ 0)
  no_rise s h flat = (flat e h, omega (arith, one_step, flat e h, flat (e + 1) (omega (arith, h))))

  known : ((rise ≡ 0) ⊎ (w ≤ f e)) → (s : ℕ) → s < suc e → IsSettledAt f w s ⊎ ¬ IsSettledAt f w s
  known at_edge s h = elim (cases_lt (f s) w) [
    | inr reached ↦ inl (inl reached)
    | inl before ↦ elim (cases_lt (f s) (f e)) [
      | inl below ↦ inr (λ settled. elim settled [
        | inl reached ↦ omega (arith, before, reached)
        | inr flat ↦ omega (arith, below, (no_rise s (omega (arith, h)) flat).0)
      ])
      | inr above ↦
          let same : f e ≡ f s = omega (arith, above, from_to s e (omega (arith, h))) in
          inl (inr (flat_from s (omega (arith, h)) (flat_edge at_edge same before) same))
    ]
  ]
    where
      flat_edge : ((rise ≡ 0) ⊎ (w ≤ f e)) → f e ≡ f s → f s < w → rise ≡ 0
      flat_edge (inl none) same below = none
      flat_edge (inr reached) same below = absurd (omega (arith, same, below, reached))

  settled_edge : ((rise ≡ 0) ⊎ (w ≤ f e)) → IsSettledAt f w e
  settled_edge (inl none) = inr (flat_from e (omega arith) none refl)
  settled_edge (inr reached) = inl reached

  -- what is settled stays settled
  pub settled_on : (s k : ℕ) → s ≤ k → IsSettledAt f w s → IsSettledAt f w k
  settled_on s k h (inl reached) = inl (omega (arith, reached, from_to s k h))
  settled_on s k h (inr flat) = inr (λ r after. flat r (omega (arith, h, after)) ∙ sym (flat k h))

  -- where the map is settled at e, the least such number is at most e
  pub settled_before : ((rise ≡ 0) ⊎ (w ≤ f e)) → (s : ℕ) × IsLeastSettled f w s × (e ≡ max e s)
  settled_before at_edge =
      grind (arith, first_below (IsSettledAt f w) (suc e) (known at_edge), settled_edge at_edge, max-eq_left)

  -- else it is where the line past e reaches w
  pub settled_after : 0 < rise → f e < w → (s : ℕ) × IsLeastSettled f w s × (e + div_ceil (w - f e) rise ≡ max e s)
  settled_after rising below =
      let n = div_ceil (w - f e) rise in
      let reached : w ≤ f (e + n) = omega (arith, bent.line n, (div_ceil_times (w - f e) rise rising).0) in
      (e + n, record { settled = inl reached; least = least }, omega arith)
    where
      least : (r : ℕ) → IsSettledAt f w r → e + div_ceil (w - f e) rise ≤ r
      least r (inl reached) = elim (cases_lt r e) [
        | inl before ↦ absurd (omega (arith, reached, below, from_to r e (omega (arith, before))))
        | inr after ↦ omega (
          arith,
          div_ceil_least (w - f e) rise (r - e) rising
              (omega (arith, past r after, reached)),
          after,
        )
      ]
      least r (inr flat) = elim (cases_lt r e) [
        | inl before ↦ absurd (omega (arith, rising, (no_rise r (omega (arith, before)) flat).1))
        | inr after ↦
            let further : r + 1 - e ≡ r - e + 1 = omega (arith, after) in
            absurd (omega (
              arith,
              rising,
              past r after,
              past (r + 1) (omega (arith, after)),
              ap (λ n. n * rise) further,
              flat (r + 1) (omega arith),
            ))
      ]
