-- Gamma sums whose means are in one proportion to their shapes, added up.
use Rattle.dl_model.proofs.Common.{ℕ, zero, suc, ◌<◌, arith, refl, sym, ap, ap₂, ◌∙◌, fun_ext, zero-lt-suc, Fraction, ◌+ℚ◌, ◌*ℚ◌, ◌/ℚ◌, ◌<ℚ◌, whole, whole_pos, convolve, compound, gamma, gamma_of, product, times_itself, SameCells}
use Rattle.dl_model.proofs.Itself.{count_power, count_sum}
use Rattle.dl_model.proofs.Gamma.{gamma_plus, gamma_power}
use Rattle.dl_model.proofs.GammaThin.{pos_plus, share_of}

pub ones_added : (k : ℕ) (b : Fraction) (f : ℕ → Fraction) → 0 < k
    → SameCells (times_itself (compound (gamma_of (whole 1) b) f) k) (compound (gamma_of (whole k) (whole k *ℚ b)) f)
ones_added zero b f pos = absurd (omega arith)
ones_added (suc s) b f pos = count_power (gamma_of (whole 1) b) (gamma_of (whole (suc s)) (whole (suc s) *ℚ b)) f (suc s)
    (gamma_power s _ ∙ ap (gamma (whole (suc s))) (share_of (whole (suc s)) b _ (whole_pos (suc s) (zero-lt-suc s)) refl))

pub shapes_added : (r t b : Fraction) (f : ℕ → Fraction) → whole 0 <ℚ r → whole 0 <ℚ t
    → SameCells (product (compound (gamma_of r (r *ℚ b)) f) (compound (gamma_of t (t *ℚ b)) f))
    (compound (gamma_of (r +ℚ t) ((r +ℚ t) *ℚ b)) f)
shapes_added r t b f rp tp = count_sum (gamma_of r (r *ℚ b)) (gamma_of t (t *ℚ b)) (gamma_of (r +ℚ t) ((r +ℚ t) *ℚ b)) f
    (ap₂ (λ x y. convolve (gamma r x) (gamma t y)) (sym (share_of r b _ rp refl)) (sym (share_of t b _ tp refl))
    ∙ fun_ext (λ n. sym (gamma_plus r t (b /ℚ (whole 1 +ℚ b)) n))
    ∙ ap (gamma (r +ℚ t)) (share_of (r +ℚ t) b _ (pos_plus r t rp) refl))
