-- Where the multiples just past each end of a layer are mapped to whole numbers, all multiples are.
use Rattle.dl_severity.proofs.Common.{ℕ, zero, suc, ◌≡◌, ◌∙◌, ◌+◌, ◌-◌, ◌*◌, ◌%◌, ◌<◌, ◌≤◌, List, [], ◌∷◌, refl, sym, ap, subst, arith, inl, inr, All, ◌∣◌, cases_lt, All-nil, All-cons, All-head, All-tail, IsWhole, Clause, kept, whole_den, ◌⊎◌, div_ceil, dvd-add, dvd-sub, lt_of_mul-lt-mul_right, dvd_of_mod-eq-zero, mod-eq-zero_of_dvd, div_ceil_times, CedeLayer, IsClause, edge, kept_parts, parts_in_bucket, kept_whole, kept_only, kept_none, IsOutside, IsClear, kept_straight, FitsStep, FitsAfter, FitsLayer}

pub twice_of : (q c : ℕ) → q % c ≡ 0 → (2 * q) % c ≡ 0
twice_of q c h = mod-eq-zero_of_dvd c (subst (λ n. c ∣ n) (omega arith)
    (dvd-add c (dvd_of_mod-eq-zero c h) (dvd_of_mod-eq-zero c h)))

pub third : (c p q r : ℕ) → p + r ≡ 2 * q → p % c ≡ 0 → q % c ≡ 0 → r % c ≡ 0
third c p q r mean first second =
    let twice : (2 * q) % c ≡ 0 = twice_of q c second in
    let same : 2 * q - p ≡ r = omega (arith, mean) in
    mod-eq-zero_of_dvd c (subst (λ n. c ∣ n) same (dvd-sub c (dvd_of_mod-eq-zero c twice) (dvd_of_mod-eq-zero c first)))

module _ (clause : Clause) (step : ℕ) where
  -- on a straight line two values decide the third
  pub on_line : IsClause clause → (x : ℕ) → All (IsClear x (x + 2 * step)) clause.1 → IsWhole (kept clause x)
      → IsWhole (kept clause (x + step)) → IsWhole (kept clause (x + 2 * step))
  on_line is_clause x clear first second =
      let c = parts_in_bucket clause in
      let parts : ℕ → ℕ = λ y. kept_parts clause c y in
      let rest = third c (parts x) (parts (x + step)) (parts (x + 2 * step))
      (kept_straight clause c x step is_clause clear)
      (kept_only clause x c (parts x) refl refl first)
      (kept_only clause (x + step) c (parts (x + step)) refl refl second) in
      ap (λ y. y.den) (kept_whole clause (x + 2 * step) c (parts (x + 2 * step)) refl refl rest) ∙ whole_den _

  -- an end between two multiples, one step apart from the third, is one past which the third was tried
  tried : 0 < step → (bound m : ℕ) → FitsAfter clause step bound
      → IsWhole (kept clause (m * step + 2 * step)) ⊎ IsOutside (m * step) (m * step + 2 * step) bound
  tried pos bound m after = elim (cases_lt (m * step) bound) [
    | inr low ↦ inr (inl low)
    | inl above ↦ elim (cases_lt bound (m * step + 2 * step)) [
      | inr high ↦ inr (inr high)
      | inl below ↦ inl (between (div_ceil bound step) (div_ceil_times bound step pos) after above below)
    ]
  ]
    where
      between : (first : ℕ) → (bound ≤ first * step) × (first * step < bound + step)
          → IsWhole (kept clause (first * step)) × IsWhole (kept clause (first * step + step))
          → m * step < bound → bound < m * step + 2 * step → IsWhole (kept clause (m * step + 2 * step))
      between first near after above below =
          let more : m < first = lt_of_mul-lt-mul_right step (omega (arith, near.0, above)) in
          let less : first < m + 3 = lt_of_mul-lt-mul_right step (omega (arith, near.1, below)) in
          elim (cases_lt first (m + 2)) [
            | inl one ↦
                let is : first ≡ m + 1 = omega (arith, more, one) in
                subst (λ n. IsWhole (kept clause n)) (omega (arith, ap (λ n. n * step) is)) after.1
            | inr two ↦
                let is : first ≡ m + 2 = omega (arith, less, two) in
                subst (λ n. IsWhole (kept clause n)) (omega (arith, ap (λ n. n * step) is)) after.0
          ]

  all_tried : 0 < step → (m : ℕ) (ls : List CedeLayer) → All (FitsLayer clause step) ls
      → IsWhole (kept clause (m * step + 2 * step)) ⊎ All (IsClear (m * step) (m * step + 2 * step)) ls
  all_tried pos m [] after = inr (All-nil (IsClear (m * step) (m * step + 2 * step)))
  all_tried pos m (l ∷ ls) after =
      let here = All-head (FitsLayer clause step) l ls after in
      elim (tried pos l.attach m here.0) [
        | inl there ↦ inl there
        | inr attach ↦ elim (tried pos (edge l) m here.1) [
          | inl there ↦ inl there
          | inr top ↦ elim (all_tried pos m ls (All-tail (FitsLayer clause step) l ls after)) [
            | inl there ↦ inl there
            | inr clear ↦ inr (All-cons (IsClear (m * step) (m * step + 2 * step)) l ls
                (record { attach = attach; edge = top }) clear)
          ]
        ]
      ]

  none_whole : IsWhole (kept clause 0)
  none_whole =
      let c = parts_in_bucket clause in
      let rest : kept_parts clause c 0 % c ≡ 0 = rw (kept_none clause c) (omega arith) in
      ap (λ y. y.den) (kept_whole clause 0 c (kept_parts clause c 0) refl refl rest) ∙ whole_den _

  two_fit : IsClause clause → 0 < step → IsWhole (kept clause step) → All (FitsLayer clause step) clause.1 → (n : ℕ)
      → IsWhole (kept clause (n * step)) × IsWhole (kept clause (n * step + step))
  two_fit is_clause pos one after zero = (
    subst (λ x. IsWhole (kept clause x)) (omega arith) none_whole,
    subst (λ x. IsWhole (kept clause x))
        (omega arith) one,
  )
  two_fit is_clause pos one after (suc n) =
      let before = two_fit is_clause pos one after n in
      let next : n * step + step ≡ suc n * step = omega arith in
      let further : n * step + 2 * step ≡ suc n * step + step = omega arith in (
        subst (λ x. IsWhole (kept clause x)) next before.1,
        subst (λ x. IsWhole (kept clause x)) further (last (all_tried pos n clause.1 after) before),
      )
    where
      last : IsWhole (kept clause (n * step + 2 * step)) ⊎ All (IsClear (n * step) (n * step + 2 * step)) clause.1
          → IsWhole (kept clause (n * step)) × IsWhole (kept clause (n * step + step))
          → IsWhole (kept clause (n * step + 2 * step))
      last (inl there) before = there
      last (inr clear) before = on_line is_clause (n * step) clear before.0 before.1

  pub fits_all : IsClause clause → 0 < step → IsWhole (kept clause step) → All (FitsLayer clause step) clause.1
      → FitsStep clause step
  fits_all is_clause pos one after = λ n. (two_fit is_clause pos one after n).0

  pub fits_none : step ≡ 0 → FitsStep clause step
  fits_none none = λ n. subst (λ x. IsWhole (kept clause x)) (sym (ap (λ s. n * s) none ∙ omega arith)) none_whole

  -- what fits all multiples fits those past each end
  fits_bound : FitsStep clause step → (bound : ℕ) → FitsAfter clause step bound
  fits_bound fits bound =
      let first = div_ceil bound step in
      let next : suc first * step ≡ first * step + step = omega arith in
      (fits first, subst (λ x. IsWhole (kept clause x)) next (fits (suc first)))

  pub fits_ends : FitsStep clause step → (ls : List CedeLayer) → All (FitsLayer clause step) ls
  fits_ends fits [] = All-nil (FitsLayer clause step)
  fits_ends fits (l ∷ ls) =
      All-cons (FitsLayer clause step) l ls (fits_bound fits l.attach, fits_bound fits (edge l)) (fits_ends fits ls)

  pub fits_one : FitsStep clause step → IsWhole (kept clause step)
  fits_one fits = subst (λ x. IsWhole (kept clause x)) (omega arith) (fits 1)
