-- The mean of a unit after its clause, from the ends of its parts.
use Rattle.dl_outcomes.proofs.Common.{layer_most, arith, ◌-◌, sum_by, spread, part_width, ℕ, ◌≡◌, ◌+◌, ◌*◌, ◌/◌, ◌^◌, ◌<◌, ◌≤◌, List, [], ◌∷◌, length, get_or, take, Some, None, true, false, sym, ap, ap₂, subst, ◌∙◌, div_ceil, pow_pos, Fraction, whole, ◌over◌, ◌*ℚ◌, over_self, times_comm, Iv, low_at, high_at, CedeLayer, Clause, IsValidUnit, declared_mean, Holds, GridEncloses, compound_of, HoldsClaims, HoldsCeded, ◌++◌, ◌≤ℚ◌, le_refl, times_le_both, whole_times, floor_div, ceiling_div, Loss, One, Mean, Layer, partial_sums, total, AreDeclared, loss, claims_of, at_least_wider, at_most_wider, AreNearestEnds, HoldsKept, le_refl_n, UnitOfPlan, take_more, LiesIn, lies_between, are_claims, claims_enclosed, claims_mean, none_ceded, alone_ceded, both_ceded, ceded_mean, net_mean}
use Rattle.dl_outcomes.proofs.MeanSizes.{mosts, sum_more}
use Rattle.dl_exact.proofs.Denominators.{over_split as over_plus, over_minus, over_times, over_zero}

-- ---- the sum of the claims

pub claims_hold : {B : ℕ} (u : UnitOfPlan) (mean : Iv B) (num den : ℕ) → (cells : ℕ) × IsValidUnit cells u
    → num over den ≡ declared_mean u
    → LiesIn (num over den) mean → HoldsClaims u mean
claims_hold u mean num den valid value lies =
    let exact = claims_mean valid.0 u valid.1 in
    let here : LiesIn (declared_mean u) mean = subst (λ t. LiesIn t mean) value lies in
    (at_least_wider _ _ _ _ exact.0 here.low, at_most_wider _ _ _ _ exact.1 here.high)

-- a mean that is rounded once
pub nearest_ends : {B : ℕ} (u : UnitOfPlan) (mean : Iv B) (num den : ℕ) → 0 < den → num over den ≡ declared_mean u
    → mean.lo ≡ 2 ^ B * num / den → mean.hi ≡ div_ceil (2 ^ B * num) den → AreNearestEnds u mean
nearest_ends {B} u mean num den pos value low high =
    let units : (2 ^ B * num) over den ≡ whole (2 ^ B) *ℚ declared_mean u =
    sym (over_times (2 ^ B) num den pos) ∙ ap (λ x. whole (2 ^ B) *ℚ x) value in record {
      floor = rw (low, ← units) (floor_div (2 ^ B * num) den pos);
      ceiling = rw (high, ← units) (ceiling_div (2 ^ B * num) den pos);
    }

-- its high end is at most a whole number that the mean is at most
pub ceiling_within : {B : ℕ} (u : UnitOfPlan) (mean : Iv B) (n : ℕ) → AreNearestEnds u mean
    → declared_mean u ≤ℚ whole n → mean.hi ≤ n * 2 ^ B
ceiling_within {B} u mean n ends within =
    ends.ceiling.least (n * 2 ^ B) (subst (λ t. whole (2 ^ B) *ℚ declared_mean u ≤ℚ t)
    (times_comm _ _ ∙ sym (whole_times n (2 ^ B))) (times_le_both _ _ _ _ (le_refl (whole (2 ^ B))) within))

-- ---- one layer

-- what holds of the mean of a layer of every total that the grid encloses
abbrev LayerHolds : {B : ℕ} → List (Iv B) → CedeLayer → Iv B → Iv B → Type 0
LayerHolds {B} cells l claims mean = (us : List Loss) → AreDeclared us → GridEncloses cells (total us)
    → (l.limit ≡ None → Holds (partial_sums us Mean) (partial_sums us One) (claims.lo over 2 ^ B)
    (claims.hi over 2 ^ B))
    → Holds (partial_sums us (Layer l.limit l.attach)) (partial_sums us One) (mean.lo over 2 ^ B) (mean.hi over 2 ^ B)

-- what layers take of the sum of the claims of each unit that the grid encloses, of which `claims` holds the mean
abbrev pub HoldEach : {B : ℕ} → List (Iv B) → Iv B → List CedeLayer → Iv B → Type 0
HoldEach grid claims layers mean = (cells : ℕ) (u : UnitOfPlan) → IsValidUnit cells u
    → GridEncloses grid (compound_of u.freq u.sev) → HoldsClaims u claims → HoldsCeded u layers mean

pub part_holds : {B : ℕ} (grid : List (Iv B)) (l : CedeLayer) (claims mean part : Iv B) (num den : ℕ)
    → num ≡ l.share.num → den ≡ l.share.den → ((x : Fraction) → LiesIn x mean → LiesIn (x *ℚ num over den) part)
    → LayerHolds grid l claims mean → HoldEach grid claims (l ∷ []) part
part_holds {B} grid l claims mean part num den n d scales holds cells u valid encloses full =
    let share : num over den ≡ l.share = ap₂ (λ a b. a over b) n d ∙ over_self l.share in
    let scaled : (x : Fraction) → LiesIn x mean → LiesIn (l.share *ℚ x) part =
    λ x lies. subst (λ t. LiesIn t part) (ap (λ t. x *ℚ t) share ∙ times_comm x l.share) (scales x lies) in
    let layer = holds (loss (claims_of u) ∷ []) (are_claims cells u valid)
    (claims_enclosed cells u (2 ^ B) (length grid) (low_at grid) (high_at grid) valid encloses) (λ e. full) in
    let exact = alone_ceded u l (mean.lo over 2 ^ B) (mean.hi over 2 ^ B) layer in (
      at_least_wider _ _ _ _ exact.0 (scaled (mean.lo over 2 ^ B)
          (lies_between mean.lo mean (le_refl_n mean.lo) mean.ordered)).low,
      at_most_wider _ _ _ _ exact.1 (scaled (mean.hi over 2 ^ B)
          (lies_between mean.hi mean mean.ordered (le_refl_n mean.hi))).high,
    )

-- ---- the layers, one after another

-- what is known of the first i layers together
pub record HasCeded {B : ℕ} (grid : List (Iv B)) (claims : Iv B) (layers : List CedeLayer) (i : ℕ) (ceded : Iv B)
    : Type 0 where
  pub holds : HoldEach grid claims (take i layers) ceded
  pub width : ceded.hi - ceded.lo ≤ sum_by (λ k. part_width (spread grid) k.limit k.attach) (take i layers)
  pub small : ceded.hi ≤ mosts (2 ^ B) claims.hi (take i layers)

pub ceded_start : {B : ℕ} (grid : List (Iv B)) (claims : Iv B) (layers : List CedeLayer) (none : Iv B) → none.lo ≡ 0
    → none.hi ≡ 0 → HasCeded grid claims layers 0 none
ceded_start {B} grid claims layers none low high = record {
  holds = λ cells u valid encloses full. rw (low, high, over_zero (2 ^ B) (pow_pos B)) (none_ceded u);
  width = omega arith;
  small = omega arith;
}

pub ceded_next : {B : ℕ} {grid : List (Iv B)} {claims before after : Iv B} {layers : List CedeLayer} {i : ℕ}
    {l : CedeLayer} (part : Iv B) → HasCeded grid claims layers i before → i < length layers → l ≡ get_or layers i l
    → HoldEach grid claims (l ∷ []) part
    → part.hi - part.lo ≤ part_width (spread grid) l.limit l.attach
    → part.hi ≤ layer_most l.limit (2 ^ B) claims.hi
    → after.lo ≡ before.lo + part.lo → after.hi ≡ before.hi + part.hi → HasCeded grid claims layers (i + 1) after
ceded_next {B} {grid} {claims} {before} {after} {layers} {i} {l} part so_far inside is here narrow small low high =
    record {
      holds = λ cells u valid encloses full.
          let more : take (i + 1) layers ≡ take i layers ++ (l ∷ []) =
          take_more layers i l inside ∙ ap (λ k. take i layers ++ (k ∷ [])) (sym is) in
          let s = pow_pos B in
          rw (more, low, high, over_plus before.lo part.lo (2 ^ B) s, over_plus before.hi part.hi (2 ^ B) s)
          (both_ceded cells u (take i layers) (l ∷ []) _ _ _ _ valid (so_far.holds cells u valid encloses full)
          (here cells u valid encloses full));
      width =
          let sum = sum_more layers i l inside is (λ k. part_width (spread grid) k.limit k.attach) so_far.width narrow in
          omega (arith, before.ordered, part.ordered, so_far.width);
      small = rw high (sum_more layers i l inside is (λ k. layer_most k.limit (2 ^ B) claims.hi) so_far.small small);
    }

-- ---- after the clause

-- what holds of an interval for every unit with this clause, where the grid encloses the sum of its claims, and
-- `claims` its mean
abbrev OnEachUnit : {B : ℕ} → List (Iv B) → Clause → Iv B → (UnitOfPlan → Type 0) → Type 0
OnEachUnit grid clause claims P = (cells : ℕ) (u : UnitOfPlan) → IsValidUnit cells u → u.cede ≡ Some clause
    → GridEncloses grid (compound_of u.freq u.sev) → HoldsClaims u claims → P u

module _ {B : ℕ} (grid : List (Iv B)) (clause : Clause) (claims ceded : Iv B)
    (taken : HoldEach grid claims clause.1 ceded) where
  pub ceded_holds : clause.0 ≡ false → OnEachUnit grid clause claims (λ u. HoldsKept u ceded)
  ceded_holds side cells u valid is encloses full =
      ceded_mean cells u clause valid is (ceded.lo over 2 ^ B) (ceded.hi over 2 ^ B) side
      (taken cells u valid encloses full)

  pub net_holds : (mean : Iv B) → clause.0 ≡ true → mean.lo ≡ claims.lo - ceded.hi → mean.hi ≡ claims.hi - ceded.lo
      → OnEachUnit grid clause claims (λ u. HoldsKept u mean)
  net_holds mean side low high cells u valid is encloses full =
      let s = pow_pos B in
      rw (low, high, over_minus claims.lo ceded.hi (2 ^ B) s, over_minus claims.hi ceded.lo (2 ^ B) s)
      (net_mean cells u clause valid is _ _ _ _ side (taken cells u valid encloses full) full)
