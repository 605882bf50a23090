-- The mean of a unit after its aggregate clause, from the layers of the sum of its claims.
use Rattle.dl_model.proofs.Common.{◌≡◌, ℕ, ◌*◌, ◌/◌, List, [], ◌∷◌, ◌++◌, Bool, true, false, arith, refl, sym, ap, ap₂, subst, subst₂, ◌∙◌, sum, if◌then◌else◌, IfSome, All, fun_ext, ◌∣◌, dec_dvd, div-one, dvd-mul_left, All-head, All-tail, Fraction, whole, ◌over◌, ◌+ℚ◌, ◌-ℚ◌, ◌*ℚ◌, ◌≤ℚ◌, sum_to, sum_over, over_self, plus_assoc, plus_zero, zero_plus, times_comm, times_zero, sub_plus, sum_to_same, Sev, common_amount, greatest, probability_of, pairs_of, mean_amount, Clause, layer, kept, expected_count, IsAggregate, IsValidUnit, Holds, cell, Series, IsDeclarable, Loss, AreDeclared, loss, One, Mean, score, sum_over_outcomes, partial_sums, total, Encloses, IsDeclared, count_weights, outcome_after, aggregate_of, compound_of, ceded, claims_of, mean_ceded, UnitOfPlan, CedeLayer, IsWhole}
use Rattle.std.proofs.Common.{Some, None}
use Rattle.dl_model.proofs.TotalLaws.{holds_plus, scaled, none_holds, holds_minus, encloses_same, unit_loss, unit_plain, outcomes_same, outcomes_none, outcomes_plus, outcomes_times, outcomes_rise, sum-cons, total_alone, total_alone_all, mean_alone}
use Rattle.dl_model.proofs.UnitLosses.{clause_mean, unit_declared_loss}
use Rattle.dl_model.proofs.Bounded.{are_units, quantity_bounded}
use Rattle.dl_model.proofs.PlanUnits.{kept_within, unit_declared}
use Rattle.dl_model.proofs.PlanMeans.{with_clause, plain_mean}
use Rattle.dl_model.proofs.Multiples.{multiple_of, no_cell_between}

-- ---- the sum of the claims

pub claims_declared : (cells : ℕ) (u : UnitOfPlan) → IsValidUnit cells u → IsDeclared (claims_of u)
claims_declared cells u h =
    let d = unit_declared cells u h in
    record { unit = record { severity = d.unit.severity; clause = λ s. omega arith }; count = d.count }

abbrev claims : UnitOfPlan → List Loss
claims u = loss (claims_of u) ∷ []

pub are_claims : (cells : ℕ) (u : UnitOfPlan) → IsValidUnit cells u → AreDeclared (claims u)
are_claims cells u h = (unit_declared_loss (claims_of u) (claims_declared cells u h), tt)

-- the mean of what a sum of claims counts for
abbrev counted : UnitOfPlan → (ℕ → Fraction) → Series
counted u g = sum_over_outcomes (claims u) (λ ys. g (sum ys))

abbrev Counted : UnitOfPlan → (ℕ → Fraction) → (l h : Fraction) → Type 0
Counted u g l h = Holds (counted u g) (partial_sums (claims u) One) l h

pub claims_enclosed : (cells : ℕ) (u : UnitOfPlan) (S K : ℕ) (lo hi : ℕ → ℕ) → IsValidUnit cells u
    → Encloses S K lo hi (compound_of u.freq u.sev) → Encloses S K lo hi (total (claims u))
claims_enclosed cells u S K lo hi h =
    let is = (claims_declared cells u h).unit in
    let are = unit_loss (claims_of u) is in
    encloses_same S K lo hi (compound_of u.freq u.sev) (total (claims u))
    (λ y N. sym (total_alone (loss (claims_of u)) are y N ∙ unit_plain (claims_of u) is (λ s. refl) y N))
    (λ N. sym (total_alone_all (loss (claims_of u)) are N))

pub claims_mean : (cells : ℕ) (u : UnitOfPlan) → IsValidUnit cells u
    → Holds (partial_sums (claims u) Mean) (partial_sums (claims u) One)
    (expected_count u.freq *ℚ mean_amount (pairs_of u.sev)) (expected_count u.freq *ℚ mean_amount (pairs_of u.sev))
claims_mean cells u h = plain_mean u.freq u.sev (λ s. s) (claims_declared cells u h).unit h.count (λ s. refl)

-- what a sum counts for weighs its cell
claims_score : (u : UnitOfPlan) → IsDeclarable (claims_of u) → (g : ℕ → Fraction) (N : ℕ) → counted u g N
    ≡ sum_to (N * greatest u.sev.items) (λ s. g s *ℚ cell (count_weights u.freq) (probability_of u.sev) s N)
unfolding sum_over_outcomes
claims_score u is g N = sum_to_same _ _ _ (λ y b.
    let alone : sum (y ∷ []) ≡ y = sum-cons y [] ∙ omega arith in
    ap₂ (λ s t. s *ℚ t) (unit_plain (claims_of u) is (λ s. refl) y N) (ap g alone) ∙ times_comm _ (g y))

-- ---- what layers take of it

pub none_ceded : (u : UnitOfPlan) → Counted u (ceded []) (whole 0) (whole 0)
unfolding sum_over
none_ceded u = none_holds (counted u (ceded [])) (partial_sums (claims u) One) (outcomes_none (claims u))

ceded_alone : (l : CedeLayer) (x : ℕ) → ceded (l ∷ []) x ≡ l.share *ℚ whole (layer l.limit l.attach x)
unfolding sum_over
ceded_alone l x = plus_zero _

pub alone_ceded : (u : UnitOfPlan) (l : CedeLayer) (m n : Fraction)
    → Counted u (λ s. whole (layer l.limit l.attach s)) m n → Counted u (ceded (l ∷ [])) (l.share *ℚ m) (l.share *ℚ n)
alone_ceded u l m n v =
    let P : List ℕ → Fraction = λ ys. whole (layer l.limit l.attach (sum ys)) in
    let same : mean_ceded u (l ∷ []) ≡ (λ N. l.share *ℚ sum_over_outcomes (claims u) P N) =
    fun_ext (λ N. outcomes_same (claims u) _ _ N (λ ys. ceded_alone l (sum ys))
    ∙ outcomes_times (claims u) l.share P N) in
    subst (λ Q. Holds Q (partial_sums (claims u) One) (l.share *ℚ m) (l.share *ℚ n)) (sym same)
    (scaled l.share (sum_over_outcomes (claims u) P) (partial_sums (claims u) One) m n v)

ceded_both : (ls ms : List CedeLayer) (x : ℕ) → ceded (ls ++ ms) x ≡ ceded ls x +ℚ ceded ms x
unfolding sum_over
ceded_both [] ms x = sym (zero_plus _)
ceded_both (k ∷ ks) ms x = rw (ceded_both ks ms x) (sym (plus_assoc _ _ _))

pub both_ceded : (cells : ℕ) (u : UnitOfPlan) (ls ms : List CedeLayer) (l h l' h' : Fraction) → IsValidUnit cells u
    → Counted u (ceded ls) l h → Counted u (ceded ms) l' h' → Counted u (ceded (ls ++ ms)) (l +ℚ l') (h +ℚ h')
both_ceded cells u ls ms l h l' h' valid v w =
    let R = partial_sums (claims u) One in
    let rise = outcomes_rise (claims u) (are_units (claims u) (are_claims cells u valid)) in
    subst (λ Q. Holds Q R (l +ℚ l') (h +ℚ h'))
    (sym (fun_ext (λ N. outcomes_same (claims u) _ _ N (λ ys. ceded_both ls ms (sum ys))
    ∙ outcomes_plus (claims u) (λ ys. ceded ls (sum ys)) (λ ys. ceded ms (sum ys)) N)))
    (holds_plus (counted u (ceded ls)) (counted u (ceded ms)) R l l' h h' (rise _) (rise _) v w)

pub each_ceded : (cells : ℕ) (u : UnitOfPlan) (layers : List CedeLayer) (l h : CedeLayer → Fraction)
    → IsValidUnit cells u → All (λ k. Counted u (λ s. whole (layer k.limit k.attach s)) (l k) (h k)) layers
    → Counted u (ceded layers) (sum_over layers (λ k. k.share *ℚ l k)) (sum_over layers (λ k. k.share *ℚ h k))
unfolding sum_over
each_ceded cells u [] l h v each = none_ceded u
each_ceded cells u (k ∷ ks) l h v each =
    let P : CedeLayer → Type 0 = λ k. Counted u (λ s. whole (layer k.limit k.attach s)) (l k) (h k) in
    both_ceded cells u (k ∷ []) ks _ _ _ _ v (alone_ceded u k (l k) (h k) (All-head P k ks each))
    (each_ceded cells u ks l h v (All-tail P k ks each))

-- ---- after the clause

whole_floor : (x : Fraction) → IsWhole x → whole (x.num / x.den) ≡ x
whole_floor x e =
    let same : x.num / x.den ≡ x.num = ap (λ d. x.num / d) e ∙ div-one x.num in
    ap whole same ∙ ap (λ d. x.num over d) (sym e) ∙ over_self x

-- at each sum that has weight the clause keeps a whole number
kept_cell : (cells : ℕ) (sev : Sev) (clause : Clause) (w : ℕ → Fraction) (s N : ℕ) → IsAggregate cells sev clause
    → whole (outcome_after (Some clause) s) *ℚ cell w (probability_of sev) s N ≡ kept clause s *ℚ cell w
    (probability_of sev) s N
kept_cell cells sev clause w s N a =
    let d = common_amount sev.items in
    elim (dec_dvd d s) [
      | yes p ↦ ap (λ t. t *ℚ cell w (probability_of sev) s N)
          (whole_floor (kept clause s) (subst (λ k. IsWhole (kept clause k)) (sym (multiple_of d s p))
          (a.whole (s / d))))
      | no p ↦
          let none = no_cell_between sev w s N (λ n e. p (subst (λ k. d ∣ k) (sym e) (dvd-mul_left d n))) in
          simp (none, times_zero)
    ]

pub no_clause : (u : UnitOfPlan) → u.cede ≡ None → aggregate_of u ≡ claims_of u
no_clause u e = ap (λ cede. with_clause u.freq u.sev (outcome_after cede)) e

module _ (cells : ℕ) (u : UnitOfPlan) (clause : Clause) (h : IsValidUnit cells u) (e : u.cede ≡ Some clause) where
  aggregate : IsAggregate cells u.sev clause
  aggregate = subst (λ cede. IfSome cede (IsAggregate cells u.sev)) e h.clause

  after : IsDeclarable (aggregate_of u)
  after = (unit_declared cells u h).unit

  before : IsDeclarable (claims_of u)
  before = (claims_declared cells u h).unit

  mean_kept : (N : ℕ) → partial_sums (loss (aggregate_of u) ∷ []) Mean N ≡ counted u (kept clause) N
  mean_kept N =
      mean_alone (loss (aggregate_of u)) (unit_loss (aggregate_of u) after) N ∙ clause_mean (aggregate_of u) after N
      ∙ sum_to_same _ _ _ (λ s b.
      ap (λ cede. whole (outcome_after cede s) *ℚ cell (count_weights u.freq) (probability_of u.sev) s N) e
      ∙ kept_cell cells u.sev clause (count_weights u.freq) s N aggregate)
      ∙ sym (claims_score u before (kept clause) N)

  one_same : (N : ℕ) → partial_sums (loss (aggregate_of u) ∷ []) One N ≡ partial_sums (claims u) One N
  one_same N = total_alone_all (loss (aggregate_of u)) (unit_loss (aggregate_of u) after) N
      ∙ sym (total_alone_all (loss (claims_of u)) (unit_loss (claims_of u) before) N)

  kept_holds : (l k : Fraction) → Counted u (kept clause) l k
      → Holds (partial_sums (loss (aggregate_of u) ∷ []) Mean) (partial_sums (loss (aggregate_of u) ∷ []) One) l k
  kept_holds l k v = subst₂ (λ Q R. Holds Q R l k) (sym (fun_ext mean_kept)) (sym (fun_ext one_same)) v

  side : (b : Bool) (s : ℕ) → clause.0 ≡ b
      → kept clause s ≡ (if b then whole s -ℚ ceded clause.1 s else ceded clause.1 s)
  side b s i = ap (λ (b : Bool). if b then whole s -ℚ ceded clause.1 s else ceded clause.1 s) i

  pub ceded_mean : (l k : Fraction) → clause.0 ≡ false → Counted u (ceded clause.1) l k
      → Holds (partial_sums (loss (aggregate_of u) ∷ []) Mean) (partial_sums (loss (aggregate_of u) ∷ []) One) l k
  ceded_mean l k i v = kept_holds l k (subst (λ g. Counted u g l k) (sym (fun_ext (λ s. side false s i))) v)

  -- no more is ceded than there is
  ceded_within : (s : ℕ) → ceded clause.1 s ≤ℚ whole s
  ceded_within s =
      let c = aggregate.accepted in
      kept_within (false, clause.1) s
      (record { some = c.some; few = c.few; apart = c.apart; within = c.within; fine = c.fine })

  kept_rest : clause.0 ≡ true → (s : ℕ) → kept clause s +ℚ ceded clause.1 s ≡ whole s
  kept_rest i s = rw (side true s i) (sub_plus (whole s) (ceded clause.1 s) (ceded_within s))

  -- what is kept on the net side, with what is ceded, is the sum of the claims
  pub net_mean : (l k m n : Fraction) → clause.0 ≡ true → Counted u (ceded clause.1) l k → Counted u whole m n
      → Holds (partial_sums (loss (aggregate_of u) ∷ []) Mean) (partial_sums (loss (aggregate_of u) ∷ []) One) (m -ℚ k) (n -ℚ l)
  net_mean l k m n i v w =
      let R = partial_sums (claims u) One in
      let K : List ℕ → Fraction = λ ys. kept clause (sum ys) in
      let C : List ℕ → Fraction = λ ys. ceded clause.1 (sum ys) in
      let rise = outcomes_rise (claims u) (are_units (claims u) (are_claims cells u h)) in
      let bound = quantity_bounded (claims u) One (are_claims cells u h) tt in
      kept_holds (m -ℚ k) (n -ℚ l)
      (holds_minus (counted u (kept clause)) (counted u (ceded clause.1)) R l k m n bound.0 (rise K) (rise C)
      (rise (score One)) bound.1
      (subst (λ Q. Holds Q R m n) (fun_ext (λ N.
      outcomes_same (claims u) (score Mean) (λ ys. K ys +ℚ C ys) N (λ ys. sym (kept_rest i (sum ys)))
      ∙ outcomes_plus (claims u) K C N)) w) v)
