-- Past its greatest edge a clause's map is a straight line: what that makes of the multiples of a step.
use Rattle.dl_reading.proofs.Common.{◌↔◌, length, get_or, ℕ, zero, suc, ◌≡◌, ◌∙◌, ◌+◌, ◌*◌, ◌/◌, ◌<◌, ◌≤◌, ◌==◌, ◌⊎◌, not, Bool, true, false, Option, Some, None, sym, ap, subst, arith, inl, inr, All, MatchOption, cases_lt, eqb-true, ne_eqb, not-false, list_any_none, Fraction, whole, IsWhole, Clause, kept, IsClause, whole_den, is_whole, is_off, is_off_multiples, range_with_len, not_from_false, eq-zero-or-pos, greatest_edge, length-range_with_len, get_or-range_with_len, edge, attach_le, edges_from, IsClear, on_line}
use Rattle.std.proofs.Common.{is_some, mul-le-mul_right}
use Rattle.dl_reading.proofs.Values.{never}

-- past the greatest edge the map does not bend
clear_at : (clause : Clause) (x y : ℕ) → greatest_edge clause ≤ x → All (IsClear x y) clause.1
clear_at clause x y h k d lt =
    let l = get_or clause.1 k d in
    let top : edge l ≤ x = edges_from 0 clause.1 x h k d lt in
    record { attach = inl (omega (arith, attach_le l.limit l.attach, top)); edge = inl top }

-- ---- amounts that are mapped to no whole number

pub off_told : (o : Option ℕ) (off : Bool) (x : Fraction) → is_some o ≡ not off
    → MatchOption o (¬ IsWhole x) (λ y. x ≡ whole y)
    → off ≡ not (is_whole x)
off_told None true x e h = sym (not_from_false (x.den == 1) (ne_eqb x.den 1 h))
off_told None false x e h = absurd (cc)
off_told (Some y) true x e h = absurd (cc)
off_told (Some y) false x e h = sym (ap (λ n. not (n == 1)) (ap (λ (z : Fraction). z.den) h ∙ whole_den y))

pub whole_unless : (x : Fraction) → not (is_whole x) ≡ false → IsWhole x
whole_unless x h = eqb-true x.den 1 (not-false _ h)

not_off : (x : Fraction) → IsWhole x → not (is_whole x) ≡ false
not_off x h = ap (λ n. not (n == 1)) h

-- ---- the multiples of a step

module _ (clause : Clause) (step : ℕ) where
  abbrev tried : ℕ
  tried = greatest_edge clause / step + 3

  known : is_off_multiples clause step ≡ false → (n : ℕ) → n < tried → IsWhole (kept clause (n * step))
  known none n h =
      let inside : n < length (range_with_len 0 tried) = omega (arith, h, length-range_with_len 0 tried) in
      let here : get_or (range_with_len 0 tried) n 0 ≡ n = get_or-range_with_len 0 tried n 0 h ∙ omega arith in
      whole_unless (kept clause (n * step)) (subst (λ m. is_off clause (m * step) ≡ false) here
      (never (λ m. is_off clause (m * step)) (range_with_len 0 tried) none n 0 inside))

  -- so many multiples are past the greatest edge
  past_edge : (e n s : ℕ) → 0 < s → e / s + 1 ≤ n → e ≤ n * s
  past_edge e n s pos h = omega (arith, mul-le-mul_right s h)

  two_fit : IsClause clause → 0 < step → is_off_multiples clause step ≡ false → (n : ℕ)
      → IsWhole (kept clause (n * step)) × IsWhole (kept clause (n * step + step))
  two_fit is_clause pos none zero = (
    known none 0 (omega arith),
    subst (λ x. IsWhole (kept clause x)) (omega arith) (known none 1 (omega arith)),
  )
  two_fit is_clause pos none (suc n) =
      let before = two_fit is_clause pos none n in
      let next : n * step + step ≡ suc n * step = omega arith in
      let further : n * step + 2 * step ≡ suc n * step + step = omega arith in (
        subst (λ x. IsWhole (kept clause x)) next before.1,
        subst (λ x. IsWhole (kept clause x)) further (last before (cases_lt (n + 2) tried)),
      )
    where
      last : IsWhole (kept clause (n * step)) × IsWhole (kept clause (n * step + step))
          → ((n + 2 < tried) ⊎ (tried ≤ n + 2))
          → IsWhole (kept clause (n * step + 2 * step))
      last before (inl low) = subst (λ x. IsWhole (kept clause x)) (omega arith) (known none (n + 2) low)
      last before (inr high) =
          on_line clause step is_clause (n * step) (clear_at clause (n * step) (n * step + 2 * step)
          (past_edge (greatest_edge clause) n step pos (omega (arith, high)))) before.0 before.1

  -- where the multiples that are tried are mapped to whole numbers, all are
  pub fits_tried : IsClause clause → is_off_multiples clause step ≡ false → (n : ℕ) → IsWhole (kept clause (n * step))
  fits_tried is_clause none n = elim (eq-zero-or-pos step) [
    | inl zero_step ↦ subst (λ x. IsWhole (kept clause x)) (omega (arith, ap (λ s. n * s) zero_step))
        (known none 0 (omega arith))
    | inr pos ↦ (two_fit is_clause pos none n).0
  ]

  pub tried_fits : ((n : ℕ) → IsWhole (kept clause (n * step))) → is_off_multiples clause step ≡ false
  tried_fits whole_at = list_any_none (λ m. is_off clause (m * step)) (range_with_len 0 tried)
      (λ k d h. not_off (kept clause (get_or (range_with_len 0 tried) k d * step))
      (whole_at (get_or (range_with_len 0 tried) k d)))

  pub all_multiples : IsClause clause → (is_off_multiples clause step ≡ false)
      ↔ ((n : ℕ) → IsWhole (kept clause (n * step)))
  all_multiples is_clause = (fits_tried is_clause, tried_fits)
