-- How wide the share of a unit in the tail mean may be.
use Rattle.std.specs.Prelude.{ℕ, ◌+◌, ◌-◌, ◌*◌}
use Rattle.dl_limits.specs.Limits.{rarest_parts}
use Rattle.dl_exact.specs.Fraction.{Fraction, ◌over◌}
use Rattle.dl_grid.specs.Width.{up, convolution_spread}

-- a joint mean of the unit, on so many cells, from the spreads of its grid and of the others'
abbrev pub beside_width : (S cells unit others : ℕ) → ℕ
beside_width S cells unit others = cells * convolution_spread S cells unit others

-- its mean outcome at a total that is not too rare, from the width of its joint mean there
abbrev pub conditional_width : (cells joint total : ℕ) → ℕ
conditional_width cells joint total = rarest_parts * (cells * total + joint) + 2

-- its share in the tail mean at p, from the widths of its mean and of its joint means
abbrev pub share_width : (p : Fraction) (mean cells joint total : ℕ) → ℕ
share_width p mean cells joint total = up
    (((mean + joint + 2 * cells + cells * (total + 2) + conditional_width cells joint total + 4) * p.den)
    over (p.den - p.num)) + 4

-- its share at every quantile, from the same
abbrev pub whole_share_width : (p : Fraction) (mean cells joint total : ℕ) → ℕ
whole_share_width p mean cells joint total = up
    (((mean + 4 * joint + 6 * (cells * total) + 4 * cells + 4) * p.den) over (p.den - p.num)) + 4
