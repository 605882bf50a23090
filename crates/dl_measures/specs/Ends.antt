-- What a grid that encloses a total gives for its distribution, its layers and its brackets: ends
-- in units of 1 / scale, lo and hi those of the cells.
use Rattle.std.specs.Prelude.{ℕ, suc, ◌≡◌, ◌<◌, ◌≤◌, ◌+◌, ◌-◌, min, Option, Some}
use Rattle.dl_exact.specs.Prelude.{Fraction, ◌over◌, ◌+ℚ◌, ◌-ℚ◌, count_below}
use Rattle.dl_model.specs.Prelude.{Series, AtMost, AtLeast, Quantity, One, Cdf}

-- the low end of the distribution at x: the sum of the low ends up to x
abbrev pub low_cdf : (scale : ℕ) → (lo : ℕ → ℕ) → ℕ → Fraction
low_cdf scale lo x = count_below (suc x) lo over scale

-- its high end: the sum of the high ends up to x, at most the scale
abbrev pub high_cdf : (scale : ℕ) → (hi : ℕ → ℕ) → ℕ → Fraction
high_cdf scale hi x = min scale (count_below (suc x) hi) over scale

-- the low end of a layer with a limit: the sum, over the totals in the layer, of 1 less the high
-- end of the distribution
abbrev pub low_layer : (scale : ℕ) → (hi : ℕ → ℕ) → (limit attachment : ℕ) → Fraction
low_layer scale hi limit attachment =
    count_below limit (λ i. scale - min scale (count_below (suc (attachment + i)) hi)) over scale

-- its high end: the same sum of 1 less the low end
abbrev pub high_layer : (scale : ℕ) → (lo : ℕ → ℕ) → (limit attachment : ℕ) → Fraction
high_layer scale lo limit attachment =
    count_below limit (λ i. scale - count_below (suc (attachment + i)) lo) over scale

-- inside the bracket and the first cells the distribution is within d of p
abbrev pub IsTight : (Quantity → Series) → (cells lo : ℕ) → Option ℕ → (p d : Fraction) → Type 0
IsTight declares cells lo hi p d = (x : ℕ) → lo ≤ x → x < cells
    → ((y : ℕ) → hi ≡ Some y → x < y)
    → AtMost (declares (Cdf x)) (declares One) (p +ℚ d) × AtLeast (declares (Cdf x)) (declares One)
    (p -ℚ d)
