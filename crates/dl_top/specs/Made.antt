-- A portfolio of eight units from a number, the same at each run.
use Rattle.std.specs.Prelude.{ℕ, zero, suc, ◌+◌, ◌*◌, ◌/◌, ◌%◌, ◌^◌, ◌==◌, List, [], ◌++◌, codes, if◌then◌else◌}
use Rattle.std.specs.Fmt.{decimal}

-- a linear congruential generator of 32 bits: the value behind this one
abbrev pub next_value : ℕ → ℕ
next_value value = (1664525 * value + 1013904223) % 2 ^ 32

-- its value after this many draws from the first one
unfoldable pub value_after : ℕ → ℕ → ℕ
value_after first zero = first
value_after first (suc n) = next_value (value_after first n)

-- the number below m that is drawn by a value: the remainder of its upper half
abbrev pub drawn_below : ℕ → ℕ → ℕ
drawn_below m value = value / 65536 % m

-- the claim count's distribution of unit i, counted from 1
unfoldable pub frequency : ℕ → List ℕ
frequency i =
    if i % 4 == 1 then codes "poisson"
    else if i % 4 == 2 then codes "mixed gamma 0.5"
    else if i % 4 == 3 then codes "binomial 0.5"
    else codes "fixed"

-- the beginning of the line of unit i, up to its expected count
abbrev pub claims_text : ℕ → ℕ → List ℕ
claims_text i claims = codes "agg U" ++ decimal i ++ codes " " ++ decimal claims ++ codes " claims "

-- the line of unit i: so many claims, each from 1 to `greatest` alike
abbrev pub unit_text : ℕ → ℕ → ℕ → List ℕ
unit_text i claims greatest =
    claims_text i claims ++ codes "dsev [1:" ++ decimal greatest ++ codes "] " ++ frequency i
    ++ codes "\n"

-- the line of the unit behind k others: of its two draws the first is for the claims
abbrev pub unit_line : ℕ → ℕ → List ℕ
unit_line first k = unit_text (k + 1) (20 + drawn_below 21 (value_after first (2 * k + 1)))
    (5 + drawn_below 6 (value_after first (2 * k + 2)))

-- the lines of the first units
unfoldable pub unit_lines : ℕ → ℕ → List ℕ
unit_lines first zero = []
unit_lines first (suc k) = unit_lines first k ++ unit_line first k

-- the text of the portfolio by this number
unfoldable pub made_of : ℕ → List ℕ
made_of first = codes "port Made\n" ++ unit_lines first 8
