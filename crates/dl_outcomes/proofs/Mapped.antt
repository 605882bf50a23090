-- What a clause keeps of a unit's sum, from the cells of a grid that ends at its horizon.
use Rattle.dl_outcomes.proofs.Common.{below_rest, ℕ, suc, ◌≡◌, ◌≢◌, inl, inr, ◌+◌, ◌-◌, ◌*◌, ◌/◌, ◌<◌, ◌≤◌, ◌⊎◌, min, Bool, true, false, nat_eq, arith, refl, sym, ap, ap₂, subst, subst₂, ◌∙◌, eq-eqb, if◌then◌else◌, mul-le-mul_left, eqb_tells, Fraction, whole, ◌over◌, ◌*ℚ◌, ◌≤ℚ◌, sum_to, over_self, over_le, le_over, one_pos, zero_le, Sev, IsWhole, probability_of, Clause, kept, IsAggregate, Holds, count_below, Aggregate, IsDeclarable, outcome, Encloses, outcome_after, clause_whole, where_whole, sum_kept, sum_elsewhere, nat_lt, fun_ext, eq-zero-or-pos, div-one, le-div_iff_mul-le, cases_lt, over_same, zero_times, common_amount, IsSettled, kept_is, bucket_pos, kept_rises, Series, IsBound, where_true, compound, no_cell_between, le_refl_n, below_same, lt-ltb, le-ltb, sum_to_same, kept_parts, parts_in_bucket, cell, clause_few, clause_rest, where_none}
use Rattle.std.specs.Prelude.{Some}

-- ---- whole numbers

at_least : (x : Fraction) (n : ℕ) → whole n ≤ℚ x → n ≤ x.num / x.den
at_least x n h =
    let cross : n * x.den ≤ x.num * 1 = le_over n 1 x.num x.den (omega arith) x.positive
    (subst (λ y. whole n ≤ℚ y) (sym (over_self x)) h) in
    (le-div_iff_mul-le x.positive).1 (omega arith)

is_whole : (x : Fraction) → IsWhole x → x ≡ whole (x.num / x.den)
is_whole x e =
    let floor : x.num ≡ x.num / x.den = sym (ap (λ d. x.num / d) e ∙ div-one x.num) in
    sym (over_self x) ∙ ap₂ (λ a b. a over b) floor e

-- the sum of what is nowhere
none_holds : (Q R : Series) (S : ℕ) → 0 < S → ((N : ℕ) → Q N ≡ whole 0) → Holds Q R (0 over S) (0 over S)
none_holds Q R S pos none = (
  (λ N u b. subst (λ t. t ≤ℚ u) (sym (ap (λ t. t *ℚ R N) (over_same 0 S 0 1 pos one_pos (omega arith)) ∙ zero_times _))
      (zero_le u)),
  (λ N u b. subst (λ t. t ≤ℚ 0 over S *ℚ u) (sym (none N)) (zero_le _)),
)

-- ---- a map that changes at k

unfoldable joined : ℕ → (ℕ → ℕ) → (ℕ → ℕ) → ℕ → ℕ
joined k f g s = if nat_lt s k then f s else g s

before : (k : ℕ) (f g : ℕ → ℕ) (s : ℕ) → s < k → joined k f g s ≡ f s
unfolding joined
before k f g s h = ap (λ b. if b then f s else g s) (lt-ltb s k h)

past : (k : ℕ) (f g : ℕ → ℕ) (s : ℕ) → k ≤ s → joined k f g s ≡ g s
unfolding joined
past k f g s h = ap (λ b. if b then f s else g s) (le-ltb s k h)

at_joined : (P : ℕ → Type 0) (k : ℕ) (f g : ℕ → ℕ) (s : ℕ) → (s < k → P (f s)) → (k ≤ s → P (g s)) → P (joined k f g s)
at_joined P k f g s a b = elim (cases_lt s k) [
  | inl h ↦ subst P (sym (before k f g s h)) (a h)
  | inr h ↦ subst P (sym (past k f g s h)) (b h)
]

no_item : (b : Bool) (n : ℕ) → n ≡ 0 → (if b then n else 0) ≡ 0
no_item true n e = e
no_item false n e = refl

module _ (sev : Sev) (clause : Clause) (all most : ℕ) (w : ℕ → Fraction) (agg : IsAggregate all sev clause) where
  abbrev sums : ℕ → Series
  sums s = cell w (probability_of sev) s

  abbrev weights : Series
  weights N = sum_to N w

  abbrev pub unit_of : Aggregate
  unit_of = record { count = w; severity = probability_of sev; most = most; clause = outcome_after (Some clause) }

  -- of each sum that is there the clause keeps a whole number
  none_between : (s N : ℕ) → ¬ IsWhole (kept clause s) → sums s N ≡ whole 0
  none_between s N no_whole = no_cell_between sev w s N
      (λ k e. no_whole (subst (λ t. IsWhole (kept clause t)) (sym e) (agg.whole k)))

  whole_encloses : (S n : ℕ) (lo hi : ℕ → ℕ) → 0 < S → Encloses S n lo hi (compound w (probability_of sev))
      → Encloses S n (where_whole clause lo) (where_whole clause hi) (compound w (probability_of sev))
  unfolding where_whole
  whole_encloses S n lo hi pos e s inside = either (nat_eq (kept clause s).den 1)
      (λ q N. none_between s N (λ h. different (sym (eq-eqb (kept clause s).den 1 h) ∙ q)))
    where
      different : true ≡ false → ⊥
      different q = absurd (cc)

      either : (b : Bool) → (b ≡ false → (N : ℕ) → sums s N ≡ whole 0)
          → Holds (sums s) weights ((if b then lo s else 0) over S) ((if b then hi s else 0) over S)
      either true none = e s inside
      either false none = none_holds (sums s) weights S pos (none refl)

  -- where the clause has reached n, it stays there
  reached : (n k s : ℕ) → k ≤ s → whole n ≤ℚ kept clause k → n ≤ outcome_after (Some clause) s
  reached n k s after h =
      let c : ℕ = parts_in_bucket clause in
      let here : n * c ≤ kept_parts clause c k * 1 = le_over n 1 (kept_parts clause c k) c (omega arith)
      (bucket_pos clause) (subst (λ x. whole n ≤ℚ x) (kept_is clause k) h) in
      let rises : kept_parts clause c k ≤ kept_parts clause c s =
      subst (λ t. kept_parts clause c k ≤ kept_parts clause c t)
      (omega arith) (kept_rises clause c k (s - k) agg.accepted) in
      at_least (kept clause s) n (subst (λ x. whole n ≤ℚ x) (sym (kept_is clause s))
      (over_le n 1 (kept_parts clause c s) c (omega arith) (bucket_pos clause) (omega arith)))

  same_clause : (k s : ℕ) → kept clause s ≡ kept clause k
      → outcome_after (Some clause) s ≡ outcome_after (Some clause) k
  same_clause k s e = ap (λ (x : Fraction). x.num / x.den) e

  -- what is kept past k is y for no sum there, or all claims are of amount 0
  clear : (n k y : ℕ) → IsSettled clause n k → y < n → kept clause k ≢ whole y
      → ((s : ℕ) → k ≤ s → outcome_after (Some clause) s ≢ y) ⊎ (common_amount sev.items ≡ 0)
  clear n k y (inl h) inside other = inl (λ s after e. omega (arith, reached n k s after h))
  clear n k y (inr flat) inside other = elim (eqb_tells (kept clause k).den 1) [
    | inl p ↦ inl (λ s after e. other (is_whole (kept clause k) p.1
        ∙ ap whole (sym (same_clause k s (flat s after)) ∙ e)))
    | inr p ↦ elim (eq-zero-or-pos (common_amount sev.items)) [
      | inl none ↦ inr none
      | inr pos ↦
          let after : k ≤ k * common_amount sev.items = omega (arith, mul-le-mul_left k pos) in
          absurd (p.1 (subst IsWhole (flat (k * common_amount sev.items) after) (agg.whole k)))
    ]
  ]

  -- where all claims are of amount 0, only the sum 0 is there
  no_amount : common_amount sev.items ≡ 0 → (s N : ℕ) → 1 ≤ s → sums s N ≡ whole 0
  no_amount none s N some = no_cell_between sev w s N (λ k e. omega (arith, ap (λ d. k * d) none))

  module _ (S k : ℕ) (lo hi : ℕ → ℕ) (pos : 0 < S) (unit : IsDeclarable unit_of)
      (e : Encloses S (suc k) lo hi (compound w (probability_of sev))) where
    -- the clause up to k, and each larger sum for itself
    abbrev map : ℕ → ℕ
    map = joined (suc k) (outcome_after (Some clause)) (λ s. s)

    abbrev changed : Aggregate
    changed = record { count = w; severity = probability_of sev; most = most; clause = map }

    changed_unit : IsDeclarable changed
    changed_unit = record {
      severity = unit.severity;
      clause = λ s. at_joined (λ t. t ≤ s) (suc k) _ _ s (λ h. unit.clause s) (λ h. le_refl_n s);
    }

    changed_same : common_amount sev.items ≡ 0 → (y N : ℕ) → outcome changed y N ≡ outcome unit_of y N
    changed_same none y N =
        let gone : (s : ℕ) → suc k ≤ s → (b : Bool) → where_true b (sums s N) ≡ whole 0 =
        λ s h b. ap (where_true b) (no_amount none s N (omega arith)) ∙ where_none b in
        sum_to_same (N * most) _ _ (λ s b. at_joined (λ t. where_true (nat_eq t y) (sums s N)
        ≡ where_true (nat_eq (outcome_after (Some clause) s) y) (sums s N)) (suc k) _ _ s (λ h. refl)
        (λ h. gone s h _ ∙ sym (gone s h _)))

    abbrev cut : (ℕ → ℕ) → ℕ → ℕ
    cut f = joined (suc k) (where_whole clause f) (λ s. 0)

    cut_encloses : common_amount sev.items ≡ 0 → (n : ℕ)
        → Encloses S n (cut lo) (cut hi) (compound w (probability_of sev))
    cut_encloses none n s inside = elim (cases_lt s (suc k)) [
      | inl h ↦ rw (before (suc k) (where_whole clause lo) (λ s. 0) s h, before (suc k) (where_whole clause hi) (λ s. 0) s h)
          (whole_encloses S (suc k) lo hi pos e s h)
      | inr h ↦ rw (past (suc k) (where_whole clause lo) (λ s. 0) s h, past (suc k) (where_whole clause hi) (λ s. 0) s h)
          (none_holds (sums s) weights S pos (λ N. no_amount none s N (omega arith)))
    ]

    cut_sum : (f : ℕ → ℕ) (y : ℕ) → count_below (suc (k + y)) (λ s. if nat_eq (map s) y then cut f s else 0)
        ≡ sum_kept clause (suc k) f y
    cut_sum f y =
        below_rest (suc k) (suc (k + y)) _ (omega arith)
        (λ s h b. no_item _ (cut f s) (past (suc k) (where_whole clause f) (λ s. 0) s h))
        ∙ below_same (suc k) _ _ (λ s h. ap₂ (λ a b. if nat_eq a y then b else 0)
        (before (suc k) (outcome_after (Some clause)) (λ s. s) s h)
        (before (suc k) (where_whole clause f) (λ s. 0) s h))

    pub kept_few : (n y : ℕ) → IsSettled clause n (suc k) → y < n → kept clause (suc k) ≢ whole y
        → Holds (outcome unit_of y) weights (sum_kept clause (suc k) lo y over S)
        (min S (sum_kept clause (suc k) hi y) over S)
    kept_few n y settled inside other = elim (clear n (suc k) y settled inside other) [
      | inl away ↦ clause_few unit_of unit S k (where_whole clause lo) (where_whole clause hi) pos
          (whole_encloses S (suc k) lo hi pos e) y (λ s same. not_past s same away)
      | inr none ↦
          subst (λ Q. Holds Q weights (sum_kept clause (suc k) lo y over S)
          (min S (sum_kept clause (suc k) hi y) over S)) (fun_ext (changed_same none y))
          (subst₂ (λ l m. Holds (outcome changed y) weights (l over S) (min S m over S)) (cut_sum lo y) (cut_sum hi y)
          (clause_few changed changed_unit S (k + y) (cut lo) (cut hi) pos (cut_encloses none (suc (k + y))) y near))
    ]
      where
        not_past : (s : ℕ) → outcome_after (Some clause) s ≡ y
            → ((r : ℕ) → suc k ≤ r → outcome_after (Some clause) r ≢ y) → s ≤ k
        not_past s same away = elim (cases_lt k s) [
          | inl h ↦ absurd (away s (omega arith) same)
          | inr h ↦ h
        ]

        near : (s : ℕ) → map s ≡ y → s ≤ k + y
        near s = at_joined (λ t. t ≡ y → s ≤ k + y) (suc k) _ _ s (λ h e. omega arith) (λ h e. omega arith)

    pub kept_rest : (v : Fraction) (n y : ℕ) → IsBound weights v → IsSettled clause n (suc k) → y < n
        → kept clause (suc k) ≡ whole y
        → sum_elsewhere clause (suc k) lo y ≤ S
        → Holds (outcome unit_of y) weights ((S - min S (sum_elsewhere clause (suc k) hi y)) over S)
        ((S - sum_elsewhere clause (suc k) lo y) over S)
    kept_rest v n y bound settled inside here fits =
        clause_rest unit_of unit S k (where_whole clause lo) (where_whole clause hi) pos
        (whole_encloses S (suc k) lo hi pos e) y v bound (λ s after. far settled s after) fits
      where
        at : outcome_after (Some clause) (suc k) ≡ y
        at = clause_whole clause (suc k) y here

        far : IsSettled clause n (suc k) → (s : ℕ) → k < s → outcome_after (Some clause) s ≡ y
        far (inl h) s after = absurd (omega (arith, reached n (suc k) (suc k) (omega arith) h, at))
        far (inr flat) s after = same_clause (suc k) s (flat s (omega arith)) ∙ at
