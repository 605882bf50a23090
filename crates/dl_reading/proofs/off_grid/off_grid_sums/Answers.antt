-- The multiples that are tried tell of all sums.
use Rattle.dl_reading.proofs.Common.{◌≡◌, ◌∙◌, ◌↔◌, ℕ, Bool, true, false, not, refl, sym, ap, at_if, Clause, IsClause, is_off_multiples, IsTrue, true_from_ne_false, FitsStep}
use Rattle.dl_reading.proofs.PastEdges.{fits_tried, tried_fits}
use Rattle.dl_reading.proofs.off_grid.off_grid_sums.Goals as goal

off_is : (clause : Clause) (step : ℕ) (fits : Bool) → IsClause clause → (IsTrue fits ↔ FitsStep clause step)
    → not fits ≡ is_off_multiples clause step
off_is clause step true is_clause means = sym (tried_fits clause step (means.0 refl))
off_is clause step false is_clause means =
    sym (true_from_ne_false (is_off_multiples clause step)
    (λ none. absurd (cc (means.1 (fits_tried clause step is_clause none)))))

pub returns-in-Whole : goal.returns-in-Whole
returns-in-Whole c =
    let off = off_is c.in-Whole.cede c.common_amount.result c.fits.result (rw c.in-Whole.is at c.requires) c.fits.ensures in
    rw (c.in-Whole.is, ← c.common_amount.ensures) (c.span_if.ensures ∙ ap (λ b. at_if b c.in-Whole.span) off)
