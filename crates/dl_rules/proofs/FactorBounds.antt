-- The bounds of units under a factor, by the units and by their parts.
use Rattle.dl_rules.proofs.Common.{◌≡◌, ◌∙◌, ℕ, ◌&&◌, ◌||◌, Bool, true, false, not, List, [], ◌∷◌, ◌++◌, map, Option, Some, None, refl, sym, ap, ap₂, Fraction, whole, ◌over◌, ◌+ℚ◌, ◌*ℚ◌, Item, most_shape, passes, flat_map, or-true, or_parts, flat_map-cons, most_expected, UnitOfPlan, raised, unit_share, shared_probabilities, expected_count, thinned_mean, is_admitted, is_fine, is_zero, Part, part_of, claim_share, amount_shares, is_coarse_under, has_no_next, passes_bounds, passes_with, running_sum, is_too_large, map-map}

abbrev pub claims_of_units : List UnitOfPlan → Option Fraction
claims_of_units units = running_sum (whole 0) (map (λ (u : UnitOfPlan). expected_count u.freq) units)

abbrev pub above_of_units : List UnitOfPlan → Option Fraction
above_of_units units = running_sum (whole 0) (map thinned_mean units)

module _ (v : Fraction) where
  pub claim_shares_are : (units : List UnitOfPlan) → map (claim_share v) (map part_of units) ≡ map (unit_share v) units
  claim_shares_are units = map-map (claim_share v) part_of units

  same_amounts : (u : UnitOfPlan) → amount_shares v (part_of u) ≡ shared_probabilities v u
  same_amounts u =
      map-map (λ p. claim_share v (part_of u) *ℚ p) (λ (item : Item). item.weight over u.sev.total) u.sev.items

  pub amount_shares_are : (units : List UnitOfPlan)
      → flat_map (amount_shares v) (map part_of units) ≡ flat_map (shared_probabilities v) units
  amount_shares_are [] = refl
  amount_shares_are (u ∷ us) =
      flat_map-cons (amount_shares v) (part_of u) (map part_of us)
      ∙ ap₂ (λ xs ys. xs ++ ys) (same_amounts u) (amount_shares_are us)
      ∙ sym (flat_map-cons (shared_probabilities v) u us)

module _ (most : ℕ) (r v h : Fraction) (units : List UnitOfPlan) where
  -- the two tests of shares, read of the units
  pub bounds_are : passes_bounds most r v h (map part_of units)
      ≡ (is_zero v || is_coarse_under r v || is_coarse_under r h || passes (raised r h) most_expected
      || not (is_fine most (map (unit_share v) units)) || not (is_fine most (flat_map (shared_probabilities v) units)))
  bounds_are =
      ap₂ (λ xs ys. is_zero v || is_coarse_under r v || is_coarse_under r h || passes (raised r h) most_expected
      || not (is_fine most xs) || not (is_fine most ys)) (claim_shares_are v units) (amount_shares_are v units)

-- the tests in the order of the code
pub last_passes : (a b d e x y : Bool) → a ≡ false → b ≡ false → (d || e) ≡ false
    → not (x && y) ≡ (a || b || d || e || not x || not y)
last_passes a b d e true y ha hb hd = rw (ha, hb, (or_parts d e hd).0, (or_parts d e hd).1) refl
last_passes a b d e false y ha hb hd = rw (ha, hb, (or_parts d e hd).0, (or_parts d e hd).1) refl

-- ---- with the sums

module _ (most : ℕ) (r : Fraction) (units : List UnitOfPlan) (v h : Option Fraction)
    (claims : v ≡ claims_of_units units) (above : h ≡ above_of_units units) where
  pub large_is : is_too_large most r (map part_of units) ≡ (has_no_next r || passes_with most r v h (map part_of units))
  unfolding is_too_large
  large_is =
      ap₂ (λ x y. has_no_next r || passes_with most r x y (map part_of units))
      (ap (running_sum (whole 0)) (map-map (λ (p : Part). p.expected) part_of units) ∙ sym claims)
      (ap (running_sum (whole 0)) (map-map (λ (p : Part). p.above) part_of units) ∙ sym above)

module _ (most : ℕ) (r : Fraction) (units : List UnitOfPlan) where
  pub no_claims : claims_of_units units ≡ None → is_too_large most r (map part_of units) ≡ true
  no_claims none = large_is most r units None (above_of_units units) (sym none) refl ∙ or-true (has_no_next r)

  pub no_above : above_of_units units ≡ None → is_too_large most r (map part_of units) ≡ true
  no_above none =
      large_is most r units (claims_of_units units) None refl (sym none)
      ∙ ap (λ t. has_no_next r || t) (passed (claims_of_units units)) ∙ or-true (has_no_next r)
    where
      passed : (v : Option Fraction) → passes_with most r v None (map part_of units) ≡ true
      passed None = refl
      passed (Some v) = refl

pub bounds_large : (most : ℕ) (r : Fraction) (units : List UnitOfPlan) (v h : Fraction) → has_no_next r ≡ false
    → claims_of_units units ≡ Some v → above_of_units units ≡ Some h
    → passes_bounds most r v h (map part_of units) ≡ is_too_large most r (map part_of units)
bounds_large most r units v h few claims above =
    sym (large_is most r units (Some v) (Some h) (sym claims) (sym above)
    ∙ ap (λ t. t || passes_bounds most r v h (map part_of units)) few)

-- a shape with no next one
pub none_large : (most : ℕ) (r : Fraction) (parts : List Part) → has_no_next r ≡ true → is_too_large most r parts ≡ true
unfolding is_too_large
none_large most r parts none =
    ap (λ t. t || passes_with most r (running_sum (whole 0) (map (λ (p : Part). p.expected) parts))
    (running_sum (whole 0) (map (λ (p : Part). p.above) parts)) parts) none

-- or with more than 48 bits
pub coarse_large : (most : ℕ) (r : Fraction) (parts : List Part) → is_admitted r ≡ false
    → is_too_large most r parts ≡ true
coarse_large most r parts coarse = none_large most r parts
    (ap (λ b. not b || (not (is_admitted (r +ℚ whole 1)) || passes (r +ℚ whole 1) most_shape)) coarse)
