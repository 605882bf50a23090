-- A program that the standard rules accept, the extended rules accept with the same plan.
use Rattle.dl_rules.proofs.Common.{Span, ℕ, ◌≡◌, ◌∙◌, ◌||◌, Bool, true, false, not, List, [], ◌∷◌, ◌++◌, length, Option, Some, None, inl, inr, refl, sym, ap, ap₂, arith, Fraction, whole, map, flat_map, or_parts, not-false, at_if, not_at, within, ◌else◌, else_first, else_second, in_turn, breaks, Settings, Program, Plan, UnitAst, MixAst, SevDef, PortHead, Numeral, TypeFault, GridUnit, cells_asked, most_asked, fault_of_text, fault_of_mixture, fault_of_severity, first_fault_of, first_fault, fault_on_grid, fault_of_port, fault_with, first_broken, clause_rules, count_rules, horizon_too_large, zero_base, expected_claims, made_of, duplicate_name, common_shape, common_size, parts_in, has_bad_shape, is_bad_numeral, value, shape_of, is_fine, passes_bounds, passes_with, is_too_large, running_sum, has_no_next, Part, claim_share, amount_shares, mixture_of, too_many_units, IsPlanOf, Bounds, grid_of, flaws_of, slice_get_cases, AreWithin, bounds_of, Rules, by, flaws_wider, fault_of_total}
use Rattle.dl_rules.specs.declared.rule.Rule.TheVariants as rules
use Rattle.dl_rules.proofs.ProgramUnits.{few_units}
use Rattle.dl_rules.proofs.RuleLists.{both, only, all_kept, none_broken}
use Rattle.dl_rules.proofs.Texts.{text_clean, text_none}
use Rattle.dl_rules.proofs.UnitFacts.{grid_fault, grid_parts}
use Rattle.dl_rules.proofs.WiderBounds.{neither, fine_wider, shape_wider, count_wider, same_claims, unit_fine}

-- where one check finds nothing of an item, another does
turn_wider : {A B : Type 0} (f g : List A → A → Option B)
    → ((before : List A) (x : A) → f before x ≡ None → g before x ≡ None) → (before xs : List A)
    → in_turn f before xs ≡ None → in_turn g before xs ≡ None
unfolding in_turn
turn_wider f g less before [] e = refl
turn_wider f g less before (x ∷ xs) e =
    ap₂ (λ o rest. o else rest) (less before x (else_first (f before x) _ e))
    (turn_wider f g less (before ++ x ∷ []) xs (else_second (f before x) _ e))

two : (p q : Option TypeFault) → p ≡ None → q ≡ None → (p else q) ≡ None
two p q hp hq = rw (hp, hq) refl

three : (p q r : Option TypeFault) → p ≡ None → q ≡ None → r ≡ None → (p else q else r) ≡ None
three p q r hp hq hr = rw (hp, hq, hr) refl

four : (p q r s : Option TypeFault) → p ≡ None → q ≡ None → r ≡ None → s ≡ None → (p else q else r else s) ≡ None
four p q r s hp hq hr hs = rw (hp, hq, hr, hs) refl

-- ---- the portfolio

module _ (a b : Bounds) (within_b : AreWithin a b) where
  bounds_wider : (r v h : Fraction) (parts : List Part) → passes_bounds a.parts r v h parts ≡ false
      → passes_bounds b.parts r v h parts ≡ false
  bounds_wider r v h parts e =
      let products = or_parts _ (not (is_fine a.parts (flat_map (amount_shares v) parts))) e in
      let shares = or_parts _ (not (is_fine a.parts (map (claim_share v) parts))) products.0 in
      fine_lists _ (is_fine b.parts (map (claim_share v) parts)) (is_fine b.parts (flat_map (amount_shares v) parts))
      shares.0
      (fine_wider a.parts b.parts within_b.parts (map (claim_share v) parts) (not-false _ shares.1))
      (fine_wider a.parts b.parts within_b.parts (flat_map (amount_shares v) parts) (not-false _ products.1))
    where
      fine_lists : (x y z : Bool) → x ≡ false → y ≡ true → z ≡ true → (x || not y || not z) ≡ false
      fine_lists x y z p q s = rw (p, q, s) refl

  with_wider : (r : Fraction) (v h : Option Fraction) (parts : List Part) → passes_with a.parts r v h parts ≡ false
      → passes_with b.parts r v h parts ≡ false
  with_wider r None h parts e = absurd cc
  with_wider r (Some v) None parts e = absurd cc
  with_wider r (Some v) (Some h) parts e = bounds_wider r v h parts e

  large_wider : (r : Fraction) (parts : List Part) → is_too_large a.parts r parts ≡ false
      → is_too_large b.parts r parts ≡ false
  unfolding is_too_large
  large_wider r parts e =
      let sums = or_parts (has_no_next r) _ e in
      neither (has_no_next r) _ sums.0 (with_wider r (running_sum (whole 0) (map (λ (p : Part). p.expected) parts))
      (running_sum (whole 0) (map (λ (p : Part). p.above) parts)) parts sums.1)

  bad_wider : (c : Numeral) → has_bad_shape a c ≡ false → has_bad_shape b c ≡ false
  bad_wider c e =
      let parts = or_parts (is_bad_numeral c) _ e in
      neither (is_bad_numeral c) _ parts.0 (shape_wider a b within_b (value c) parts.1)

  port_shape : (port : Option PortHead) → common_shape a port ≡ None → common_shape b port ≡ None
  unfolding common_shape
  port_shape None e = refl
  port_shape (Some head) e = at_common head.common e
    where
      at_common : (common : Option Numeral)
          → within (λ (c : Numeral). at_if (has_bad_shape a c) c.span) common ≡ None
          → within (λ (c : Numeral). at_if (has_bad_shape b c) c.span) common ≡ None
      at_common None e = refl
      at_common (Some c) e = ap (λ t. at_if t c.span) (bad_wider c (not_at _ c.span e))

  port_size : (port : Option PortHead) (parts : List Part) → common_size a port parts ≡ None
      → common_size b port parts ≡ None
  port_size None parts e = refl
  port_size (Some head) parts e = at_common head.common e
    where
      size : ℕ → Numeral → Option Span
      size most c = at_if (is_too_large most (shape_of (value c)) parts) head.name.span

      at_common : (common : Option Numeral) → within (size a.parts) common ≡ None → within (size b.parts) common ≡ None
      at_common None e = refl
      at_common (Some c) e =
          ap (λ t. at_if t head.name.span) (large_wider (shape_of (value c)) parts (not_at _ head.name.span e))

  few_wider : (units : List UnitAst) → too_many_units a.units units ≡ None → too_many_units b.units units ≡ None
  unfolding too_many_units
  few_wider units e = elim (slice_get_cases units b.units).1 [
    | inl (u, lt, there, is) ↦ absurd (omega (arith, lt, few_units a.units units e, within_b.units))
    | inr past ↦ rw past.1 refl
  ]

-- ---- the program

module _ (x y : Rules) (within_y : AreWithin (bounds_of x) (bounds_of y)) (settings : Settings) where
  abbrev first : Settings
  first = by x settings

  abbrev second : Settings
  second = by y settings

  grid_wider : (unit : ℕ) (u : GridUnit) → fault_on_grid first unit u ≡ None → fault_on_grid second unit u ≡ None
  grid_wider unit u none =
      let parts = grid_parts first unit u none in
      let kept = all_kept unit (count_rules (bounds_of x) settings.bs u) parts.1 in
      let counted = none_broken unit (count_rules (bounds_of y) settings.bs u)
      (count_wider (bounds_of x) (bounds_of y) within_y settings.bs u kept) in
      let base : breaks unit rules.ZeroBase
      (zero_base u.count u.zero (expected_claims (bounds_of y) settings.bs u)) ≡ None =
      ap (λ n. breaks unit rules.ZeroBase (zero_base u.count u.zero n))
      (sym (same_claims (bounds_of x) (bounds_of y) within_y settings.bs u kept))
      ∙ ap (breaks unit rules.ZeroBase) parts.3 in
      grid_fault second unit u ∙ four (first_broken unit (clause_rules u))
      (first_broken unit (count_rules (bounds_of y) settings.bs u))
      (breaks unit rules.HorizonTooLarge (horizon_too_large (cells_asked settings) (made_of u.agr)))
      (breaks unit rules.ZeroBase (zero_base u.count u.zero (expected_claims (bounds_of y) settings.bs u)))
      parts.0 counted (ap (breaks unit rules.HorizonTooLarge) parts.2) base

  -- a text without flaws, of a unit that keeps the rules on whole buckets
  text_wider : (unit : ℕ) (u : UnitAst) (m : MixAst)
      → fault_of_text unit (flaws_of (bounds_of x) (most_asked first) settings.bs u m) ≡ None
      → fault_on_grid first unit (grid_of settings.bs u m) ≡ None
      → fault_of_text unit (flaws_of (bounds_of y) (most_asked second) settings.bs u m) ≡ None
  text_wider unit u m clean none =
      let g = grid_of settings.bs u m in
      let parts = grid_parts first unit g none in
      let kept = all_kept unit (count_rules (bounds_of x) settings.bs g) parts.1 in
      text_none unit (flaws_of (bounds_of y) (most_asked second) settings.bs u m)
      (flaws_wider (bounds_of x) (bounds_of y) within_y (most_asked first) settings.bs u m
      (unit_fine (bounds_of x) (bounds_of y) within_y settings.bs g kept)
      (text_clean unit (flaws_of (bounds_of x) (most_asked first) settings.bs u m) clean))

  unit_wider : (before : List UnitAst) (u : UnitAst) (m : MixAst) → fault_with first before u m ≡ None
      → fault_with second before u m ≡ None
  unfolding fault_with
  unit_wider before u m none =
      let unit = length before in
      let g = grid_of settings.bs u m in
      let name = both unit rules.DuplicateName (duplicate_name before u) _ none in
      let text = else_first (fault_of_text unit (flaws_of (bounds_of x) (most_asked first) settings.bs u m)) _ name.1 in
      let flaws = flaws_of (bounds_of x) (most_asked first) settings.bs u m in
      let grid = else_second (fault_of_text unit flaws) _ name.1 in
      three _ _ _ (ap (breaks unit rules.DuplicateName) name.0) (text_wider unit u m text grid) (grid_wider unit g grid)

  mixture_wider : (before : List UnitAst) (u : UnitAst) (o : Option MixAst) → fault_of_mixture first before u o ≡ None
      → fault_of_mixture second before u o ≡ None
  mixture_wider before u None none = absurd cc
  mixture_wider before u (Some m) none = unit_wider before u m none

  first_wider : (port : Option PortHead) (sevs : List SevDef) (before : List UnitAst) (u : UnitAst)
      → first_fault_of first port sevs before u ≡ None → first_fault_of second port sevs before u ≡ None
  unfolding first_fault_of
  first_wider port sevs before u none =
      let o = mixture_of sevs u.sev.body in
      two (fault_of_mixture second before u o) _
      (mixture_wider before u o (else_first (fault_of_mixture first before u o) _ none))
      (else_second (fault_of_mixture first before u o) _ none)

  port_wider : (program : Program) → fault_of_port first program ≡ None → fault_of_port second program ≡ None
  unfolding fault_of_port
  port_wider program none =
      let parts = both 0 rules.CommonShape (common_shape (bounds_of x) program.port) _ none in
      let size = only 0 rules.CommonSize (common_size (bounds_of x) program.port (parts_in first program)) parts.1 in
      two _ _ (ap (breaks 0 rules.CommonShape) (port_shape (bounds_of x) (bounds_of y) within_y program.port parts.0))
      (ap (breaks 0 rules.CommonSize)
      (port_size (bounds_of x) (bounds_of y) within_y program.port (parts_in first program) size))

  same_total : (program : Program) → fault_of_total first program ≡ fault_of_total second program
  unfolding fault_of_total
  same_total program = refl

  pub still_accepted : (program : Program) → first_fault program first ≡ None → first_fault program second ≡ None
  unfolding first_fault
  still_accepted program none =
      let most = (bounds_of x).units in
      let many = both most rules.TooManyUnits (too_many_units most program.units) _ none in
      let names = in_turn fault_of_severity [] program.sevs in
      let later = else_second names _ many.1 in
      let units = in_turn (first_fault_of first program.port program.sevs) [] program.units in
      let rest = else_second units _ later in
      four _ _ _ _
      (ap (breaks (bounds_of y).units rules.TooManyUnits)
      (few_wider (bounds_of x) (bounds_of y) within_y program.units many.0))
      (else_first names _ many.1)
      (turn_wider (first_fault_of first program.port program.sevs) (first_fault_of second program.port program.sevs)
      (first_wider program.port program.sevs) [] program.units (else_first units _ later))
      (two (fault_of_port second program) (fault_of_total second program)
      (port_wider program (else_first (fault_of_port first program) _ rest))
      (sym (same_total program) ∙ else_second (fault_of_port first program) _ rest))

pub same_plan : (p : Program) (settings : Settings) (a b : Rules) (plan : Plan) → IsPlanOf p (by a settings) plan
    → IsPlanOf p (by b settings) plan
same_plan p settings a b plan is = record { bucket = is.bucket; cells = is.cells; units = is.units; common = is.common }
