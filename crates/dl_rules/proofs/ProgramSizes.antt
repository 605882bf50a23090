-- How large the units of a portfolio are all together, by the text and by the plan.
use Rattle.dl_rules.proofs.Common.{false, ℕ, ◌≡◌, ◌∙◌, ◌≤◌, Bool, nat_lt, List, [], ◌∷◌, length, map, take, get_or, Option, Some, None, refl, sym, ap, ap₂, subst, arith, is_some, Ok, All, All-head, All-tail, AllZip, or_parts, le-ltb, ltb-false, at_if, not_at, else_first, else_second, Fraction, whole, ◌*ℚ◌, div_times, pos_num, zero_above, Sev, Freq, UnitOfPlan, IsClaimCount, IsWeighted, IsValidUnit, pairs_of, mean_amount, expected_of_plan, Settings, Program, IsWellFormed, UnitAst, MixAst, PortHead, SevDef, ValueList, Shares, GridUnit, GridCount, Exposed, Listed, Fixed, Poisson, Bernoulli, Binomial, Gamma, grid_of, final_severity, turn_none, pairs_of_counts, expected_claims, trials_not_whole, IsTableOf, IsCountOf, IsUnitOn, IsUnitOf, AnswersUnits, breaks, bounds_asked, cells_asked, count_rules, fault_of_text, fault_of_mixture, fault_with, first_fault_of, mixture_of, duplicate_name, flaws_of, most_asked, most_total_at, standard_units, IsNone, count_by, sum_by, most_changed, changed_units, whole_means, standard_few, standard_means, mean-shares, alike_own, scored_alike, AllZip-long, fault_of_total, sizes_in, total_too_large, Size, claims_in, is_total_large, size_in, size_of, size_of_mixture, size_on, whole_size}
use Rattle.dl_plan.proofs.Means.{total_pos}
use Rattle.dl_rules.specs.declared.rule.Rule.TheVariants as rules
use Rattle.dl_rules.proofs.RuleLists.{all_kept, both, only}
use Rattle.dl_rules.proofs.Sizes.{sizes_changed, sizes_means, total_is}
use Rattle.dl_rules.proofs.UnitFacts.{grid_parts}
use Rattle.dl_rules.proofs.WiderBounds.{neither}

-- ---- the expected claims

table_mean : (counts : ValueList) (probs : Option Shares) (freq : Freq) → IsTableOf counts probs freq → IsClaimCount freq
    → expected_of_plan freq ≡ mean_amount (pairs_of_counts counts probs)
table_mean counts probs freq h count =
    let weighted : IsWeighted h.0 h.1 = (subst IsClaimCount h.2 count).0 in
    let sev : Sev = record { items = h.0; total = h.1; weighted = weighted } in
    ap expected_of_plan h.2 ∙ sym (mean-shares h.0 h.1 (total_pos h.0 h.1 weighted))
    ∙ scored_alike whole (pairs_of sev) (pairs_of_counts counts probs) (alike_own sev (pairs_of_counts counts probs) h.3)

-- trials with a probability of 0 are refused
claims_same : (bs : Fraction) (g : GridUnit) (k : GridCount) (freq : Freq) (n : Option Fraction) → trials_not_whole k n ≡ None
    → IsCountOf bs g k freq → IsClaimCount freq → expected_of_plan freq ≡ claims_in bs g k
unfolding trials_not_whole
claims_same bs g (Exposed e (Fixed _)) freq n kept is count = ap expected_of_plan is.2 ∙ is.1
claims_same bs g (Exposed e (Poisson _)) freq n kept is count = ap expected_of_plan is
claims_same bs g (Exposed e (Bernoulli _)) freq n kept is count = ap expected_of_plan is
claims_same bs g (Exposed e (Binomial p span)) freq n kept is count =
    let none = (or_parts _ _ (or_parts _ _ (not_at _ span kept)).0).0 in
    ap expected_of_plan is.2 ∙ ap (λ x. x *ℚ p) is.1 ∙ div_times _ p (pos_num p (zero_above p.num none))
claims_same bs g (Exposed e (Gamma c _)) freq n kept is count = ap expected_of_plan is
claims_same bs g (Listed counts probs) freq n kept is count = table_mean counts probs freq is.0 count

-- ---- a unit

abbrev size : Fraction → Option Fraction → Size
size mean zero = record { mean = mean; zero = zero }

same_on : (bs : Fraction) (text : List ℕ) (g : GridUnit) (made : UnitOfPlan) (n : Option Fraction)
    → trials_not_whole g.count n ≡ None → IsUnitOn bs text g made → IsClaimCount made.freq → size_of made ≡ size_on bs g
same_on bs text g made n kept is count =
    ap₂ size (ap₂ (λ x y. x *ℚ y) (claims_same bs g g.count made.freq n kept is.count count)
    (scored_alike whole (pairs_of made.sev) (final_severity g) (alike_own made.sev (final_severity g) is.severity))) is.zero

-- the rule on trials is kept
module _ (settings : Settings) (port : Option PortHead) (sevs : List SevDef) where
  abbrev KeepsTrials : UnitAst → Type 0
  KeepsTrials u = (m : MixAst) → mixture_of sevs u.sev.body ≡ Some m
      → trials_not_whole (grid_of settings.bs u m).count
      (expected_claims (bounds_asked settings) settings.bs (grid_of settings.bs u m)) ≡ None

  trials_with : (before : List UnitAst) (u : UnitAst) (m : MixAst) → fault_with settings before u m ≡ None
      → trials_not_whole (grid_of settings.bs u m).count
      (expected_claims (bounds_asked settings) settings.bs (grid_of settings.bs u m)) ≡ None
  unfolding fault_with
  trials_with before u m none =
      let unit = length before in
      let g = grid_of settings.bs u m in
      let later = both unit rules.DuplicateName (duplicate_name before u) _ none in
      let on_grid = else_second (fault_of_text unit (flaws_of (bounds_asked settings) (most_asked settings) settings.bs u m)) _ later.1 in
      (all_kept unit (count_rules (bounds_asked settings) settings.bs g) (grid_parts settings unit g on_grid).1).1.1.1.0

  trials_kept : (before : List UnitAst) (u : UnitAst) → first_fault_of settings port sevs before u ≡ None → KeepsTrials u
  unfolding first_fault_of
  trials_kept before u none m e =
      trials_with before u m (ap (fault_of_mixture settings before u) (sym e)
      ∙ else_first (fault_of_mixture settings before u (mixture_of sevs u.sev.body)) _ none)

  same_size : (u : UnitAst) (made : UnitOfPlan) → KeepsTrials u → IsUnitOf settings.bs sevs u made → IsClaimCount made.freq
      → size_of made ≡ size_in settings.bs sevs u
  same_size u made kept is count =
      same_on settings.bs u.name.text (grid_of settings.bs u is.mix) made _ (kept is.mix is.named) is.unit count
      ∙ ap (size_of_mixture settings.bs u) (sym is.named)

  same_sizes : (us : List UnitAst) (made : List UnitOfPlan) → All KeepsTrials us → AllZip (IsUnitOf settings.bs sevs) us made
      → All (IsValidUnit (cells_asked settings)) made → map size_of made ≡ map (size_in settings.bs sevs) us
  same_sizes [] [] kept h valid = refl
  same_sizes [] (m ∷ ms) kept h valid = absurd h
  same_sizes (u ∷ us) [] kept h valid = absurd h
  same_sizes (u ∷ us) (m ∷ ms) kept h valid =
      ap₂ (λ x xs. x ∷ xs) (same_size u m (All-head KeepsTrials u us kept) h.0
      (All-head (IsValidUnit (cells_asked settings)) m ms valid).count)
      (same_sizes us ms (All-tail KeepsTrials u us kept) h.1 (All-tail (IsValidUnit (cells_asked settings)) m ms valid))

-- ---- the portfolio

pub no_port : (settings : Settings) (program : Program) → program.port ≡ None → fault_of_total settings program ≡ None
unfolding fault_of_total
no_port settings program e = rw e refl

module _ (settings : Settings) (program : Program) (made : List UnitOfPlan)
    (answer : AnswersUnits settings program.port program.sevs program.units (Ok made)) where
  all_trials : All (KeepsTrials settings program.port program.sevs) program.units
  all_trials k d h =
      trials_kept settings program.port program.sevs (take k program.units) (get_or program.units k d)
      (turn_none (first_fault_of settings program.port program.sevs) [] program.units answer.0 k d h)

  sizes : map size_of made ≡ sizes_in settings program
  sizes = same_sizes settings program.port program.sevs program.units made all_trials answer.1 answer.2

  pub total_told : (head : PortHead) (large : Bool) → program.port ≡ Some head
      → large ≡ is_total_large (cells_asked settings) (map size_of made)
      → breaks 0 rules.TotalTooLarge (at_if large head.name.span) ≡ fault_of_total settings program
  unfolding fault_of_total
  total_told head large e is =
      ap (λ b. breaks 0 rules.TotalTooLarge (at_if b head.name.span)) (is ∙ ap (is_total_large (cells_asked settings)) sizes)
      ∙ ap (λ p. breaks 0 rules.TotalTooLarge (total_too_large (cells_asked settings) p (sizes_in settings program))) (sym e)

  pub total_kept : IsWellFormed program → fault_of_total settings program ≡ None
      → (changed_units made ≤ most_changed) × (whole_means made ≤ most_total_at (cells_asked settings))
  unfolding fault_of_total
  total_kept formed none =
      by program.port (λ e. formed.one e) (only 0 rules.TotalTooLarge _ none)
    where
      as_many : length made ≡ length program.units
      as_many = AllZip-long (IsUnitOf settings.bs program.sevs) program.units made answer.1

      by : (port : Option PortHead) → (IsNone port → length program.units ≡ 1)
          → total_too_large (cells_asked settings) port (sizes_in settings program) ≡ None
          → (changed_units made ≤ most_changed) × (whole_means made ≤ most_total_at (cells_asked settings))
      by None one e =
          let few : length made ≤ standard_units = omega (arith, as_many, one refl) in
          ((standard_few made few).changed, standard_means (cells_asked settings) made answer.2 few)
      by (Some head) one e =
          let changed : ℕ = count_by (λ (s : Size). is_some s.zero) (map size_of made) in
          let means : ℕ = sum_by whole_size (map size_of made) in
          let parts = or_parts (nat_lt most_changed changed) (nat_lt (most_total_at (cells_asked settings)) means)
          (ap (is_total_large (cells_asked settings)) sizes ∙ not_at _ head.name.span e) in (
            omega (arith, ltb-false most_changed changed parts.0, sizes_changed made),
            omega (arith, ltb-false (most_total_at (cells_asked settings)) means parts.1, sizes_means made),
          )

  -- at most 16 units are never too large
  pub total_few : length program.units ≤ standard_units → fault_of_total settings program ≡ None
  unfolding fault_of_total
  total_few least =
      ap (breaks 0 rules.TotalTooLarge) (ap (total_too_large (cells_asked settings) program.port) (sym sizes) ∙ by program.port)
    where
      few : length made ≤ standard_units
      few = omega (arith, AllZip-long (IsUnitOf settings.bs program.sevs) program.units made answer.1, least)

      small : is_total_large (cells_asked settings) (map size_of made) ≡ false
      small = sym (total_is (cells_asked settings) made (changed_units made) (whole_means made) refl refl)
          ∙ neither _ _ (le-ltb most_changed (changed_units made) (standard_few made few).changed)
          (le-ltb (most_total_at (cells_asked settings)) (whole_means made) (standard_means (cells_asked settings) made answer.2 few))

      by : (port : Option PortHead) → total_too_large (cells_asked settings) port (map size_of made) ≡ None
      by None = refl
      by (Some head) = ap (λ b. at_if b head.name.span) small
