-- The tests in the order of the code.
use Rattle.dl_rules.proofs.Common.{◌≡◌, ◌∙◌, Bool, false, not, Option, Some, None, true, is_some, sym, ap, most_expected, raised, unit_share, shared_probabilities, is_fine, is_zero, flat_map, map, is_coarse_under, passes, ne_eqb, Fraction, SomeIff}
use Rattle.dl_rules.proofs.FactorBounds.{bounds_are, last_passes}
use Rattle.dl_rules.proofs.factor.passes_bounds.Goals as goal

there : (o : Option Fraction) (b : Bool) (x : Fraction) → SomeIff o (b ≡ false) x → is_some o ≡ true → b ≡ false
there (Some y) b x h e = h.0
there None b x h e = absurd cc

pub returns : goal.returns
returns c =
    let most = c.args.bounds.parts in
    let r = c.args.shape in
    let v = c.args.expected in
    let h = c.args.above in
    let units = c.args.units.now in
    let zero : is_zero v ≡ false = ne_eqb v.num 0 (λ e. c.if-num-eq0.false (c.num.ensures.part ∙ e)) in
    let coarse : is_coarse_under r v ≡ false =
    there c.claims_under.result (is_coarse_under r v) (raised r v) c.claims_under.ensures c.if-is_none.ensures in
    ap not c.are_shares_fine.ensures
    ∙ last_passes (is_zero v) (is_coarse_under r v) (is_coarse_under r h) (passes (raised r h) most_expected)
    (is_fine most (map (unit_share v) units)) (is_fine most (flat_map (shared_probabilities v) units)) zero coarse
    (sym c.if-is_large_under.ensures) ∙ sym (bounds_are most r v h units)
