-- What a whole read takes from a source and a whole write adds to a sink, where their bytes are
-- known.
use Rattle.std.specs.Prelude.{◌≡◌, ℕ, ◌<◌, ◌≤◌, List, length, take, drop, Option, None, Some, ⊤}
use Rattle.std.specs.Io.KnownBytes.{Appends}

-- the first n of the bytes that were left are gone
abbrev pub Takes : Option (List ℕ) → Option (List ℕ) → ℕ → Type 0
Takes None after n = ⊤
Takes (Some left) None n = ⊥
Takes (Some left) (Some rest) n = (n ≤ length left) × (rest ≡ drop n left)

-- some of the bytes that were left are gone, from the first on, and no more than this many
abbrev pub TakesAtMost : Option (List ℕ) → Option (List ℕ) → ℕ → Type 0
TakesAtMost before after most = (n : ℕ) × (n ≤ most) × Takes before after n

-- a proper prefix of these bytes was appended
abbrev pub AppendsPartOf : Option (List ℕ) → Option (List ℕ) → List ℕ → Type 0
AppendsPartOf before after bytes = (n : ℕ) × (n < length bytes)
    × Appends before after (take n bytes)
