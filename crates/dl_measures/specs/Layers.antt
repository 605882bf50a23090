-- How large the mean of a layer may be.
use Rattle.std.specs.Prelude.{ℕ, ◌*◌, Option, Some, None}

-- how large the mean of a layer may be, with `one` units in 1: at most its limit, or at most the
-- mean of the total
abbrev pub layer_most : (limit : Option ℕ) (one mean : ℕ) → ℕ
layer_most None one mean = mean
layer_most (Some limit) one mean = limit * one
