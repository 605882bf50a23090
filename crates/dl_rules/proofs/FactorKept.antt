-- Units that are not too large for a factor can share it in a valid plan.
use Rattle.dl_rules.proofs.Common.{arith, ◌≡◌, ◌∙◌, ℕ, ◌≤◌, Bool, true, false, not, List, map, Option, Some, None, refl, sym, ap, ap₂, subst, All, not-false, most_shape, most_weights, Fraction, whole, ◌+ℚ◌, ◌/ℚ◌, ◌<ℚ◌, ◌≤ℚ◌, le_plus, le_trans, lt_of_lt_of_le, HasPartsOf48Bits, FitsFrac, pos_num, is_some, Span, at_if, not_at, Ok, IfSome, Settings, Program, AnswersUnits, shape_of, breaks, ◌else◌, flat_map, leb-true, or_parts, most_expected, UnitOfPlan, CanShare, HasCommonFactor, expected_of, thinned_of, raised, unit_share, shared_probabilities, expected_count, IsFineTo40Bits, common_denominator, thinned_mean, is_fine, is_zero, is_admitted, is_held, not_above, zero_above, Part, part_of, passes_bounds, passes_with, has_no_next, is_too_large, IsVariation, Numeral, PortHead, value, is_bad_numeral, within, IsSharedShape, IsWrittenShape, has_bad_shape, has_common, common_shape, common_size, parts_in, fault_of_port, bounds_asked, bounds_within, Bounds}
use Rattle.dl_rules.specs.declared.rule.Rule.TheVariants as rules
use Rattle.dl_rules.proofs.Shapes.{admitted_is, held_is, shape_above}
use Rattle.dl_rules.proofs.RuleLists.{both, only}
use Rattle.dl_rules.proofs.FactorParts.{all_can_share, size_span}
use Rattle.dl_rules.proofs.RunningSums.{sum_is, first_admitted}
use Rattle.dl_rules.proofs.FactorBounds.{claims_of_units, above_of_units, bounds_are, large_is}

-- both sums are there, where the bounds are not passed
both_there : (most : ℕ) (r : Fraction) (parts : List Part) (v h : Option Fraction)
    → passes_with most r v h parts ≡ false
    → (x : Fraction) × (y : Fraction) × (v ≡ Some x) × (h ≡ Some y) × (passes_bounds most r x y parts ≡ false)
both_there most r parts None h e = absurd cc
both_there most r parts (Some v) None e = absurd cc
both_there most r parts (Some v) (Some h) e = (v, h, refl, refl, e)

is_fine_list : (most : ℕ) → most ≤ most_weights → (xs : List Fraction) → is_fine most xs ≡ true → IsFineTo40Bits xs
is_fine_list most bound xs h = omega (arith, bound, leb-true (common_denominator xs) most h)

module _ (most : ℕ) (bound : most ≤ most_weights) (r : Fraction) (units : List UnitOfPlan) (above : whole 0 <ℚ r)
    (can : All CanShare units) (kept : is_too_large most r (map part_of units) ≡ false) where
  tests : (has_no_next r ≡ false)
      × (passes_with most r (claims_of_units units) (above_of_units units) (map part_of units) ≡ false)
  tests = or_parts (has_no_next r) _
      (sym (large_is most r units (claims_of_units units) (above_of_units units) refl refl) ∙ kept)

  next : (is_admitted r ≡ true) × (is_admitted (r +ℚ whole 1) ≡ true) × (r +ℚ whole 1 ≤ℚ whole most_shape)
  next =
      let all = or_parts (not (is_admitted r)) _ tests.0 in
      let more = or_parts (not (is_admitted (r +ℚ whole 1))) _ all.1 in
      (not-false _ all.0, not-false _ more.0, not_above (r +ℚ whole 1) (whole most_shape) more.1)

  pub factor_kept : HasCommonFactor r units
  factor_kept =
      let (v, h, claims, those, bounds) = both_there most r (map part_of units) (claims_of_units units)
      (above_of_units units) tests.1 in
      let products = or_parts _ _ (sym (bounds_are most r v h units) ∙ bounds) in
      let shares = or_parts _ _ products.0 in
      let large = or_parts _ _ shares.0 in
      let coarse = or_parts _ _ large.0 in
      let none = or_parts _ _ coarse.0 in
      let over = or_parts (not (is_held (v /ℚ r))) _ none.1 in
      let thin = or_parts (not (is_held (h /ℚ r))) _ coarse.1 in
      let all : v ≡ expected_of units = sum_is (λ (u : UnitOfPlan). expected_count u.freq) units v claims in
      let thinned : h ≡ thinned_of units = sum_is thinned_mean units h those in
      record {
        shape = record {
          above = above;
          few = le_trans r (r +ℚ whole 1) (whole most_shape) (le_plus r (whole 1)) next.2;
          admitted = admitted_is r next.0;
        };
        next_shape = record {
          above = lt_of_lt_of_le (whole 0) r (r +ℚ whole 1) above (le_plus r (whole 1));
          few = next.2;
          admitted = admitted_is (r +ℚ whole 1) next.1;
        };
        can_share = can;
        some = subst (λ x. whole 0 <ℚ x) all (pos_num v (zero_above v.num none.0));
        expected = λ k _ _. first_admitted (λ (u : UnitOfPlan). expected_count u.freq) units v claims k;
        thinned = λ k _ _. first_admitted thinned_mean units h those k;
        expected_beta = subst (λ x. FitsFrac (x /ℚ r)) all (held_is (v /ℚ r) (not-false _ over.0));
        thinned_beta = subst (λ x. FitsFrac (x /ℚ r)) thinned (held_is (h /ℚ r) (not-false _ thin.0));
        raised_expected = subst (λ x. HasPartsOf48Bits (raised r x)) all
            (admitted_is (raised r v) (not-false _ over.1));
        raised_thinned = subst (λ x. HasPartsOf48Bits (raised r x)) thinned
            (admitted_is (raised r h) (not-false _ thin.1));
        few = subst (λ x. raised r x ≤ℚ whole most_expected) thinned
            (not_above (raised r h) (whole most_expected) large.1);
        shares = subst (λ x. IsFineTo40Bits (map (unit_share x) units)) all
            (is_fine_list most bound (map (unit_share v) units) (not-false _ shares.1));
        products = subst (λ x. IsFineTo40Bits (flat_map (shared_probabilities x) units)) all
            (is_fine_list most bound (flat_map (shared_probabilities v) units) (not-false _ products.1));
      }

-- ---- the shape that is written

pub good_variation : (bounds : Bounds) (c : Numeral) → has_bad_shape bounds c ≡ false → is_zero (value c) ≡ false
good_variation bounds c good = (or_parts (is_zero (value c)) _ (or_parts (is_bad_numeral c) _ good).1).0

pub no_port : (settings : Settings) (program : Program) → program.port ≡ None → fault_of_port settings program ≡ None
unfolding fault_of_port common_shape
no_port settings program e = rw e refl

pub no_common : (settings : Settings) (program : Program) (head : PortHead) → program.port ≡ Some head
    → head.common ≡ None → fault_of_port settings program ≡ None
unfolding fault_of_port common_shape
no_common settings program head is none = rw (is, none) refl

-- a portfolio with this coefficient of variation
module _ (bounds : Bounds) (port : Option PortHead) (head : PortHead) (c : Numeral) (is : port ≡ Some head)
    (common : head.common ≡ Some c) where
  pub shape_span : common_shape bounds port ≡ at_if (has_bad_shape bounds c) c.span
  unfolding common_shape
  shape_span = rw (is, common) refl

  pub common_there : has_common port ≡ true
  common_there = rw (is, common) refl

  pub common_is : (parts : List Part)
      → common_size bounds port parts ≡ at_if (is_too_large bounds.parts (shape_of (value c)) parts) head.name.span
  common_is parts = rw (is, common) refl

  pub shape_written : (r : Fraction) → r ≡ shape_of (value c) → IsSharedShape port (Some r)
  shape_written r e = rw (is, common) (ap (λ x. Some x) e)

pub shape_shared : (port : Option PortHead) (r : Fraction) → IsSharedShape port (Some r) → has_common port ≡ true
shape_shared None r h = absurd cc
shape_shared (Some head) r h = written head.common r h
  where
    written : (common : Option Numeral) (r : Fraction) → IsWrittenShape common (Some r) → is_some common ≡ true
    written None r h = absurd cc
    written (Some c) r h = refl

-- a shape that the units are not too large for
abbrev Sized : Bounds → List Part → Option Fraction → Type 0
Sized bounds parts shape = IfSome shape (λ r. (whole 0 <ℚ r) × (is_too_large bounds.parts r parts ≡ false))

module _ (settings : Settings) (program : Program) (made : List UnitOfPlan)
    (answer : AnswersUnits settings program.port program.sevs program.units (Ok made)) where
  pub factor_there : (shape : Option Fraction) → IsSharedShape program.port shape
      → Sized (bounds_asked settings) (map part_of made) shape → IfSome shape (λ r. HasCommonFactor r made)
  factor_there None is kept = tt
  factor_there (Some r) is kept =
      factor_kept (bounds_asked settings).parts (bounds_within settings.rules).parts r made kept.0
      (all_can_share settings program.port program.sevs program.units made answer (shape_shared program.port r is))
      kept.1

-- a portfolio whose units share a factor with this coefficient of variation
module _ (settings : Settings) (program : Program) (head : PortHead) (c : Numeral) (is : program.port ≡ Some head)
    (common : head.common ≡ Some c) where
  abbrev bounds : Bounds
  bounds = bounds_asked settings

  pub bad_told : has_bad_shape bounds c ≡ true
      → fault_of_port settings program ≡ Some (record { unit = 0; rule = rules.CommonShape; span = c.span })
  unfolding fault_of_port
  bad_told bad =
      ap (λ p. breaks 0 rules.CommonShape p
      else breaks 0 rules.CommonSize (common_size bounds program.port (parts_in settings program)))
      (shape_span bounds program.port head c is common ∙ ap (λ b. at_if b c.span) bad)

  module _ (x : Fraction) (variation : IsVariation bounds c x) (made : List UnitOfPlan)
      (answer : AnswersUnits settings program.port program.sevs program.units (Ok made)) where
    pub some_variation : is_zero x ≡ false
    some_variation = subst (λ y. is_zero y ≡ false) (sym variation.value) (good_variation bounds c variation.good)

    -- the size is asked of the units of the plan
    pub size_told : (large : Bool) → is_too_large bounds.parts (shape_of x) (map part_of made) ≡ large
        → fault_of_port settings program ≡ breaks 0 rules.CommonSize (at_if large head.name.span)
    unfolding fault_of_port
    size_told large e =
        ap₂ (λ s p. breaks 0 rules.CommonShape s else breaks 0 rules.CommonSize p)
        (shape_span bounds program.port head c is common ∙ ap (λ b. at_if b c.span) variation.good)
        (sym (size_span settings program made answer)
        ∙ common_is bounds program.port head c is common (map part_of made)
        ∙ ap (λ y. at_if (is_too_large bounds.parts (shape_of y) (map part_of made)) head.name.span)
        (sym variation.value)
        ∙ ap (λ b. at_if b head.name.span) e)

    module _ (r : Fraction) (shape : r ≡ shape_of x)
        (kept : is_too_large bounds.parts r (map part_of made) ≡ false) where
      pub port_kept : fault_of_port settings program ≡ None
      port_kept =
          size_told false (ap (λ s. is_too_large bounds.parts s (map part_of made)) (sym shape) ∙ kept)

      pub shape_is_written : IsSharedShape program.port (Some r)
      shape_is_written =
          shape_written bounds program.port head c is common r (shape ∙ ap shape_of variation.value)

      pub factor_is : HasCommonFactor r made
      factor_is =
          factor_there settings program made answer (Some r) shape_is_written
          (subst (λ y. whole 0 <ℚ y) (sym shape) (shape_above x some_variation), kept)

-- ---- where no rule on the portfolio is broken

sized_number : (bounds : Bounds) (common : Option Numeral) (span : Span) (parts : List Part)
    → within (λ (c : Numeral). at_if (has_bad_shape bounds c) c.span) common ≡ None
    → within (λ (c : Numeral). at_if (is_too_large bounds.parts (shape_of (value c)) parts) span) common ≡ None
    → (shape : Option Fraction) × IsWrittenShape common shape × Sized bounds parts shape
sized_number bounds None span parts bad large = (None, refl, tt)
sized_number bounds (Some c) span parts bad large = (
  Some (shape_of (value c)),
  refl,
  (shape_above (value c) (good_variation bounds c (not_at _ c.span bad)), not_at _ span large),
)

sized_shape : (bounds : Bounds) (port : Option PortHead) (parts : List Part) → common_shape bounds port ≡ None
    → common_size bounds port parts ≡ None
    → (shape : Option Fraction) × IsSharedShape port shape × Sized bounds parts shape
unfolding common_shape
sized_shape bounds None parts bad large = (None, refl, tt)
sized_shape bounds (Some head) parts bad large = sized_number bounds head.common head.name.span parts bad large

module _ (settings : Settings) (program : Program) (made : List UnitOfPlan)
    (answer : AnswersUnits settings program.port program.sevs program.units (Ok made)) where
  pub shape_there : fault_of_port settings program ≡ None
      → (shape : Option Fraction) × IsSharedShape program.port shape × IfSome shape (λ r. HasCommonFactor r made)
  unfolding fault_of_port
  shape_there none =
      let bounds = bounds_asked settings in
      let parts = both 0 rules.CommonShape (common_shape bounds program.port) _ none in
      let size = only 0 rules.CommonSize (common_size bounds program.port (parts_in settings program)) parts.1 in
      let (shape, is, sized) = sized_shape bounds program.port (map part_of made) parts.0
      (size_span settings program made answer ∙ size) in
      (shape, is, factor_there settings program made answer shape is sized)
