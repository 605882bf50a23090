-- What the rule on fractions says of the parts of a unit.
use Rattle.dl_rules.proofs.Common.{◌≡◌, ◌∙◌, ◌||◌, Bool, true, false, not, Option, Some, None, sym, ap, ap₂, Fraction, at_if, not_at, not-false, GridUnit, final_severity, has_severity, has_shares, fractions_too_fine, claims_above_zero, too_fine, exposed_too_fine, or_parts, or-true, has_probs, Bounds}

module _ (bounds : Bounds) (u : GridUnit) where
  abbrev others : Bool
  others = not (has_probs bounds u.count) || not (has_shares u.occ) || not (has_shares u.agr)

  pub coarse_severity : has_severity bounds u.sev ≡ false → fractions_too_fine bounds u ≡ true
  coarse_severity h = ap (λ b. others || not b) h ∙ or-true others

  pub fine_parts : has_severity bounds u.sev ≡ true → others ≡ false → fractions_too_fine bounds u ≡ false
  fine_parts h g = ap₂ (λ b d. b || not d) g h

  -- what fine fractions leave
  module _ (fine : fractions_too_fine bounds u ≡ false) where
    parts : (not (has_probs bounds u.count) ≡ false) × (not (has_shares u.occ) ≡ false)
        × (not (has_shares u.agr) ≡ false)
    parts =
        let known = or_parts others (not (has_severity bounds u.sev)) fine in
        let agr = or_parts _ (not (has_shares u.agr)) known.0 in
        let occ = or_parts _ (not (has_shares u.occ)) agr.0 in
        (occ.0, occ.1, agr.1)

    pub count_probs : has_probs bounds u.count ≡ true
    count_probs = not-false _ parts.0

    pub occ_shares : has_shares u.occ ≡ true
    occ_shares = not-false _ parts.1

    pub agr_shares : has_shares u.agr ≡ true
    agr_shares = not-false _ parts.2

    pub severity_fine : has_severity bounds u.sev ≡ true
    severity_fine = not-false _ (or_parts others (not (has_severity bounds u.sev)) fine).1

  -- the place of the rule
  module _ (n : Option Fraction) where
    abbrev exposed : Bool
    exposed = exposed_too_fine bounds u.count n (claims_above_zero (final_severity u) n)

    pub coarse_span : fractions_too_fine bounds u ≡ true → too_fine bounds u n ≡ Some u.name
    unfolding too_fine
    coarse_span h = ap (λ b. at_if (b || exposed) u.name) h

    pub fine_left : too_fine bounds u n ≡ None → (fractions_too_fine bounds u ≡ false) × (exposed ≡ false)
    unfolding too_fine
    fine_left e = or_parts _ _ (not_at _ u.name e)

    pub fine_span : (r : Bool) → fractions_too_fine bounds u ≡ false → r ≡ exposed → at_if r u.name ≡ too_fine bounds u n
    unfolding too_fine
    fine_span r h e = ap (λ b. at_if b u.name) e ∙ sym (ap (λ b. at_if (b || exposed) u.name) h)
