-- The parts of a plan's units are those of the program's: what is too large for a factor is so in both.
use Rattle.dl_rules.proofs.Common.{◌≡◌, ◌∙◌, ℕ, ◌&&◌, ◌||◌, ◌∣◌, true, false, not, is_some, List, [], ◌∷◌, length, map, take, get_or, Option, Some, None, refl, sym, ap, ap₂, subst, All, All-nil, All-cons, All-head, All-tail, All-map, Ok, Fraction, whole, ◌over◌, ◌*ℚ◌, Item, Sev, Pairs, HasDistribution, IsValidUnit, Settings, Program, UnitAst, else_second, not_at, not-false, GridUnit, GridCount, Exposed, Listed, Fixed, Poisson, Bernoulli, Binomial, Gamma, final_severity, support, first_fault_of, cells_asked, AnswersUnits, flat_map, and_parts, or_parts, flat_map-cons, All-append, dvd_antisymm, AllZip, ◌-ℚ◌, ◌/ℚ◌, common_denominator, probability, IsUnbounded, expected_of_plan, IsPoisson, CanShare, Freq, UnitOfPlan, den_divides, MixAst, Numeral, PortHead, SevDef, value, if_there, at_if, within, nat_le, most_expected, raised, is_fine, is_zero, from_map, grid_of, grid_count, given_zero, grid_clause, turn_none, item_share, items_in, all_left, all_right, common_divides, shape_of, fault_of_mixture, common_size, parts_in, Part, claim_share, amount_shares, claims_expected, part_on, part_of_mixture, part_in, part_of, is_coarse_under, has_no_next, bounds_asked, Bounds, passes_bounds, passes_with, IsCounted, running_sum, is_too_large, IsCountOf, IsUnitOn, IsUnitOf, aggregate_clause, is_poisson, is_plain_poisson, has_common, passes, common_unit, mixture_of, CountAst, Plain, Truncated, Modified, Cession}
use Rattle.dl_plan.specs.declared.plan.Freq.TheVariants as of_plan
use Rattle.dl_ast.specs.declared.ast.CountAst.TheVariants as counts
use Rattle.dl_ast.specs.declared.ast.FreqAst.TheVariants as freqs
use Rattle.dl_rules.specs.declared.rule.Rule.TheVariants as rules
use Rattle.dl_rules.proofs.ClauseFacts.{support_in}
use Rattle.dl_rules.proofs.OnePlan.{map_alike}
use Rattle.dl_rules.proofs.RuleLists.{only}

-- ---- what holds of each probability

module _ (P : Fraction → Type 0) (sev : Sev) (ps : Pairs) (means : HasDistribution sev ps) where
  items_hold : All P (map (probability ps) (support ps)) → All P (map (λ (i : Item). i.weight over sev.total) sev.items)
  items_hold all =
      All-map P (λ (i : Item). i.weight over sev.total) sev.items
      (λ k d h. subst P (sym (item_share sev ps means k d h))
      (items_in sev ps means (λ x. P (probability ps x)) (from_map P (probability ps) (support ps) all) k d h))

  support_holds : All P (map (λ (i : Item). i.weight over sev.total) sev.items)
      → All P (map (probability ps) (support ps))
  support_holds all =
      All-map P (probability ps) (support ps) (λ k d h. subst P (means (get_or (support ps) k d))
      (support_in sev ps means (λ (i : Item). P (i.weight over sev.total))
      (from_map P (λ (i : Item). i.weight over sev.total) sev.items all) k d h))

-- ---- equal parts

-- s times each probability has a denominator that divides m
abbrev Divides : Fraction → ℕ → List Fraction → Type 0
Divides s m ps = All (λ p. (s *ℚ p).den ∣ m) ps

-- the same numbers, and the same values among the probabilities
record SamePart (p q : Part) : Type 0 where
  pub expected : p.expected ≡ q.expected
  pub above : p.above ≡ q.above
  pub there : (s : Fraction) (m : ℕ) → Divides s m p.probabilities → Divides s m q.probabilities
  pub back : (s : Fraction) (m : ℕ) → Divides s m q.probabilities → Divides s m p.probabilities

turned : (p q : Part) → SamePart p q → SamePart q p
turned p q h = record { expected = sym h.expected; above = sym h.above; there = h.back; back = h.there }

all_turned : (ps qs : List Part) → AllZip SamePart ps qs → AllZip SamePart qs ps
all_turned [] [] h = tt
all_turned [] (q ∷ qs) h = absurd h
all_turned (p ∷ ps) [] h = absurd h
all_turned (p ∷ ps) (q ∷ qs) h = (turned p q h.0, all_turned ps qs h.1)

module _ (v : Fraction) (m : ℕ) where
  abbrev D : Fraction → Type 0
  D x = x.den ∣ m

  amounts_divide : (ps qs : List Part) → AllZip SamePart ps qs → All D (flat_map (amount_shares v) ps)
      → All D (flat_map (amount_shares v) qs)
  amounts_divide [] [] h all = all
  amounts_divide [] (q ∷ qs) h all = absurd h
  amounts_divide (p ∷ ps) [] h all = absurd h
  amounts_divide (p ∷ ps) (q ∷ qs) h all =
      let those = subst (All D) (flat_map-cons (amount_shares v) p ps) all in
      let mine : Divides (claim_share v p) m p.probabilities =
      from_map D (λ x. claim_share v p *ℚ x) p.probabilities
      (all_left D (amount_shares v p) (flat_map (amount_shares v) ps) those) in
      let its : Divides (claim_share v q) m q.probabilities =
      subst (λ n. Divides (n /ℚ v) m q.probabilities) h.0.expected (h.0.there (claim_share v p) m mine) in
      subst (All D) (sym (flat_map-cons (amount_shares v) q qs))
      (All-append D (amount_shares v q) (flat_map (amount_shares v) qs)
      (All-map D (λ x. claim_share v q *ℚ x) q.probabilities its)
      (amounts_divide ps qs h.1 (all_right D (amount_shares v p) (flat_map (amount_shares v) ps) those)))

module _ (ps qs : List Part) (h : AllZip SamePart ps qs) (v : Fraction) where
  abbrev amounts : List Part → List Fraction
  amounts xs = flat_map (amount_shares v) xs

  same_denominator : common_denominator (amounts ps) ≡ common_denominator (amounts qs)
  same_denominator =
      dvd_antisymm (common_divides (amounts ps) (common_denominator (amounts qs))
      (amounts_divide v (common_denominator (amounts qs)) qs ps (all_turned ps qs h) (den_divides 1 (amounts qs))))
      (common_divides (amounts qs) (common_denominator (amounts ps))
      (amounts_divide v (common_denominator (amounts ps)) ps qs h (den_divides 1 (amounts ps))))

  same_bounds : (most : ℕ) (r u : Fraction) → passes_bounds most r v u ps ≡ passes_bounds most r v u qs
  same_bounds most r u =
      ap₂ (λ xs n. is_zero v || is_coarse_under r v || is_coarse_under r u || passes (raised r u) most_expected
      || not (is_fine most xs) || not (nat_le n most))
      (map_alike SamePart (claim_share v) (claim_share v) (λ p q s. ap (λ n. n /ℚ v) s.expected) ps qs h) same_denominator

same_with : (ps qs : List Part) → AllZip SamePart ps qs → (most : ℕ) (r : Fraction) (v u : Option Fraction)
    → passes_with most r v u ps ≡ passes_with most r v u qs
same_with ps qs h most r None u = refl
same_with ps qs h most r (Some v) None = refl
same_with ps qs h most r (Some v) (Some u) = same_bounds ps qs h v most r u

large_alike : (most : ℕ) (r : Fraction) (ps qs : List Part) → AllZip SamePart ps qs
    → is_too_large most r ps ≡ is_too_large most r qs
unfolding is_too_large
large_alike most r ps qs h =
    ap (λ b. has_no_next r || b)
    (ap₂ (λ xs ys. passes_with most r (running_sum (whole 0) xs) (running_sum (whole 0) ys) ps)
    (map_alike SamePart (λ (p : Part). p.expected) (λ p. p.expected) (λ p q s. s.expected) ps qs h)
    (map_alike SamePart (λ (p : Part). p.above) (λ p. p.above) (λ p q s. s.above) ps qs h)
    ∙ same_with ps qs h most r (running_sum (whole 0) (map (λ (q : Part). q.expected) qs))
    (running_sum (whole 0) (map (λ (q : Part). q.above) qs)))

-- ---- a unit

poisson_claims : (bs : Fraction) (g : GridUnit) (k : GridCount) (freq : Freq) → IsPoisson freq → IsCountOf bs g k freq
    → claims_expected bs g k ≡ expected_of_plan freq
poisson_claims bs g (Exposed e (Fixed _)) freq poisson is = absurd (subst IsPoisson is.2 poisson)
poisson_claims bs g (Exposed e (Poisson _)) freq poisson is = sym (ap expected_of_plan is)
poisson_claims bs g (Exposed e (Bernoulli _)) freq poisson is = absurd (subst IsPoisson is poisson)
poisson_claims bs g (Exposed e (Binomial p _)) freq poisson is = absurd (subst IsPoisson is.2 poisson)
poisson_claims bs g (Exposed e (Gamma c _)) freq poisson is = absurd (subst IsPoisson is poisson)
poisson_claims bs g (Listed counted probs) freq poisson is = absurd (subst IsPoisson is.0.2 poisson)

same_on : (bs : Fraction) (text : List ℕ) (g : GridUnit) (made : UnitOfPlan) → IsPoisson made.freq
    → IsUnitOn bs text g made → SamePart (part_on bs g) (part_of made)
same_on bs text g made poisson is =
    let claims = poisson_claims bs g g.count made.freq poisson is.count in
    record {
      expected = claims;
      above = ap₂ (λ n p. n *ℚ (whole 1 -ℚ p)) claims (sym (is.severity 0));
      there = λ s m. items_hold (λ p. (s *ℚ p).den ∣ m) made.sev (final_severity g) is.severity;
      back = λ s m. support_holds (λ p. (s *ℚ p).den ∣ m) made.sev (final_severity g) is.severity;
    }

same_part : (bs : Fraction) (sevs : List SevDef) (u : UnitAst) (made : UnitOfPlan) → IsPoisson made.freq
    → IsUnitOf bs sevs u made → SamePart (part_in bs sevs u) (part_of made)
same_part bs sevs u made poisson is =
    subst (λ o. SamePart (part_of_mixture bs u o) (part_of made)) (sym is.named)
    (same_on bs u.name.text (grid_of bs u is.mix) made poisson is.unit)

same_parts : (bs : Fraction) (sevs : List SevDef) (us : List UnitAst) (made : List UnitOfPlan) → All CanShare made
    → AllZip (IsUnitOf bs sevs) us made → AllZip SamePart (map (part_in bs sevs) us) (map part_of made)
same_parts bs sevs [] [] can h = tt
same_parts bs sevs [] (m ∷ ms) can h = absurd h
same_parts bs sevs (u ∷ us) [] can h = absurd h
same_parts bs sevs (u ∷ us) (m ∷ ms) can h = (
  same_part bs sevs u m (All-head CanShare m ms can).count h.0,
  same_parts bs sevs us ms (All-tail CanShare m ms can) h.1,
)

-- ---- a unit that can share a factor

-- its count, its probability of no claim and its aggregate clause in whole buckets
same_grid : (bs : Fraction) (u : UnitAst) (m : MixAst)
    → ((grid_of bs u m).count ≡ grid_count u.count) × ((grid_of bs u m).zero ≡ given_zero u.count)
    × ((grid_of bs u m).agr ≡ if_there (grid_clause bs) u.agr)
unfolding grid_of
same_grid bs u m = (refl, refl, refl)

plain_poisson : (bs : Fraction) (g : GridUnit) (k : CountAst) (freq : Freq) → is_plain_poisson k ≡ true
    → IsCountOf bs g (grid_count k) freq → IsPoisson freq
plain_poisson bs g (counts.Exposed e (freqs.Fixed _) z) freq plain is = absurd cc
plain_poisson bs g (counts.Exposed e (freqs.Poisson _) z) freq plain is = subst IsPoisson (sym is) tt
plain_poisson bs g (counts.Exposed e (freqs.Geometric _) z) freq plain is = absurd cc
plain_poisson bs g (counts.Exposed e (freqs.Bernoulli _) z) freq plain is = absurd cc
plain_poisson bs g (counts.Exposed e (freqs.Binomial p _) z) freq plain is = absurd cc
plain_poisson bs g (counts.Exposed e (freqs.Gamma c _) z) freq plain is = absurd cc
plain_poisson bs g (counts.Listed counted probs span) freq plain is = absurd cc

plain_zero : (k : CountAst) → is_plain_poisson k ≡ true → given_zero k ≡ None
plain_zero (counts.Exposed e f Plain) plain = refl
plain_zero (counts.Exposed e f (Truncated _)) plain = absurd (cc ((and_parts (is_poisson f) false plain).1))
plain_zero (counts.Exposed e f (Modified n _)) plain = absurd (cc ((and_parts (is_poisson f) false plain).1))
plain_zero (counts.Listed counted probs span) plain = refl

none_there : (o : Option Cession) → is_some o ≡ false → o ≡ None
none_there None e = refl
none_there (Some c) e = absurd cc

module _ (port : Option PortHead) (shared : has_common port ≡ true) (bs : Fraction) (sevs : List SevDef) where
  can_share : (u : UnitAst) (made : UnitOfPlan) → common_unit port u ≡ None → IsUnitOf bs sevs u made → CanShare made
  unfolding common_unit
  can_share u made kept is =
      let parts = or_parts (not (is_plain_poisson u.count)) (is_some u.agr)
      (ap (λ b. b && (not (is_plain_poisson u.count) || is_some u.agr)) (sym shared) ∙ not_at _ u.name.span kept) in
      let plain : is_plain_poisson u.count ≡ true = not-false _ parts.0 in
      let g = grid_of bs u is.mix in
      record {
        count = plain_poisson bs g u.count made.freq plain
            (subst (λ k. IsCountOf bs g k made.freq) (same_grid bs u is.mix).0 is.unit.count);
        clause = is.unit.clause ∙ ap aggregate_clause ((same_grid bs u is.mix).2
            ∙ ap (if_there (grid_clause bs)) (none_there u.agr parts.1));
        zero = is.unit.zero ∙ (same_grid bs u is.mix).1 ∙ plain_zero u.count plain;
      }

  all_share : (us : List UnitAst) (made : List UnitOfPlan) → All (λ u. common_unit port u ≡ None) us
      → AllZip (IsUnitOf bs sevs) us made → All CanShare made
  all_share [] [] kept h = All-nil CanShare
  all_share [] (m ∷ ms) kept h = absurd h
  all_share (u ∷ us) [] kept h = absurd h
  all_share (u ∷ us) (m ∷ ms) kept h =
      All-cons CanShare m ms (can_share u m (All-head (λ v. common_unit port v ≡ None) u us kept) h.0)
      (all_share us ms (All-tail (λ v. common_unit port v ≡ None) u us kept) h.1)

poisson_unbounded : (freq : Freq) → IsPoisson freq → IsUnbounded freq
poisson_unbounded (of_plan.Fixed m) h = absurd h
poisson_unbounded (of_plan.Table table total) h = absurd h
poisson_unbounded (of_plan.Bernoulli q) h = absurd h
poisson_unbounded (of_plan.Binomial trials q) h = absurd h
poisson_unbounded (of_plan.Poisson mean) h = tt
poisson_unbounded (of_plan.Gamma shape mean) h = absurd h

-- ---- the units of a portfolio that break no rule

module _ (settings : Settings) (port : Option PortHead) (sevs : List SevDef) (units : List UnitAst)
    (made : List UnitOfPlan) (answer : AnswersUnits settings port sevs units (Ok made))
    (shared : has_common port ≡ true) where
  kept_units : All (λ u. common_unit port u ≡ None) units
  unfolding first_fault_of
  kept_units k d h =
      let before : List UnitAst = take k units in
      let u : UnitAst = get_or units k d in
      only (length before) rules.CommonUnit (common_unit port u)
      (else_second (fault_of_mixture settings before u (mixture_of sevs u.sev.body)) _
      (turn_none (first_fault_of settings port sevs) [] units answer.0 k d h))

  pub all_can_share : All CanShare made
  all_can_share = all_share port shared settings.bs sevs units made kept_units answer.1

  pub all_counted : All IsCounted made
  all_counted k d h =
      let u : UnitOfPlan = get_or made k d in
      let valid : IsValidUnit (cells_asked settings) u = answer.2 k d h in
      record {
        count = valid.count;
        expected = valid.expected;
        thinned = (valid.thinned (poisson_unbounded u.freq (all_can_share k d h).count)).0;
      }

  pub large_parts : (most : ℕ) (r : Fraction)
      → is_too_large most r (map part_of made) ≡ is_too_large most r (map (part_in settings.bs sevs) units)
  large_parts most r =
      sym (large_alike most r (map (part_in settings.bs sevs) units) (map part_of made)
      (same_parts settings.bs sevs units made all_can_share answer.1))

-- the place of the rule is the same for parts that are too large alike
size_alike : (bounds : Bounds) (port : Option PortHead) (ps qs : List Part)
    → (has_common port ≡ true → (r : Fraction) → is_too_large bounds.parts r ps ≡ is_too_large bounds.parts r qs)
    → common_size bounds port ps ≡ common_size bounds port qs
size_alike bounds None ps qs same = refl
size_alike bounds (Some h) ps qs same = at_common h.common same
  where
    at_common : (common : Option Numeral)
        → (is_some common ≡ true → (r : Fraction) → is_too_large bounds.parts r ps ≡ is_too_large bounds.parts r qs)
        → within (λ (c : Numeral). at_if (is_too_large bounds.parts (shape_of (value c)) ps) h.name.span) common
        ≡ within (λ (c : Numeral). at_if (is_too_large bounds.parts (shape_of (value c)) qs) h.name.span) common
    at_common None same = refl
    at_common (Some c) same = ap (λ b. at_if b h.name.span) (same refl (shape_of (value c)))

-- the place of the rule, by the units of the plan
pub size_span : (settings : Settings) (program : Program) (made : List UnitOfPlan)
    → AnswersUnits settings program.port program.sevs program.units (Ok made)
    → common_size (bounds_asked settings) program.port (map part_of made)
    ≡ common_size (bounds_asked settings) program.port (parts_in settings program)
size_span settings program made answer =
    size_alike (bounds_asked settings) program.port (map part_of made) (parts_in settings program)
    (λ common. large_parts settings program.port program.sevs program.units made answer common
    (bounds_asked settings).parts)
