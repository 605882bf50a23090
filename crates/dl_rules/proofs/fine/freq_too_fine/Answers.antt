-- The shape that is there is above 0.
use Rattle.dl_rules.proofs.Common.{◌≡◌, None, Fraction, whole, ◌<ℚ◌, sym, subst, or_parts, not_at, is_zero, shape_of, admitted, Some, true, false, Bounds, Span, GridFreq, Gamma, has_no_shape, no_shape_of}
use Rattle.dl_rules.proofs.Shapes.{admitted_some, shape_above}
use Rattle.dl_rules.proofs.fine.freq_too_fine.Goals as goal

above_zero : (bounds : Bounds) (f : GridFreq) (v s : Fraction) (span : Span) → f ≡ Gamma v span → no_shape_of bounds f ≡ None
    → Some s ≡ admitted true (shape_of v) → whole 0 <ℚ s
above_zero bounds f v s span is kept told =
    let some : is_zero v ≡ false = (or_parts (is_zero v) _ (not_at (has_no_shape bounds v) span
    (subst (λ g. no_shape_of bounds g ≡ None) is kept))).0 in
    subst (λ x. whole 0 <ℚ x) (sym (admitted_some (shape_of v) s told).0) (shape_above v some)

pub is_coarse_over-requires : goal.is_coarse_over-requires
is_coarse_over-requires c =
    above_zero c.args.bounds c.args.freq.now c.in-Gamma.variation c.in-Some.shape c.in-Gamma.field-1 c.in-Gamma.is
    c.requires c.in-Some.ensures

pub is_coarse_over-requires-else-is_coarse_over : goal.is_coarse_over-requires-else-is_coarse_over
is_coarse_over-requires-else-is_coarse_over c =
    above_zero c.args.bounds c.args.freq.now c.in-Gamma.variation c.in-Some.shape c.in-Gamma.field-1 c.in-Gamma.is
    c.requires c.in-Some.ensures
