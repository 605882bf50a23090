-- How an end is written.
use Rattle.std.specs.Prelude.{ℕ, zero, suc, ◌+◌, ◌/◌, ◌%◌, ◌^◌, List, [], ◌∷◌, ◌++◌, codes}
use Rattle.std.specs.Fmt.{decimal}
use Rattle.dl_report.specs.declared.report.End.{End}
use Rattle.dl_report.specs.declared.report.End.TheVariants.{Number, Whole, Beyond, Absent}

-- the last d decimal digits of n, the highest first; 48 is `0`
unfoldable pub last_digits : ℕ → ℕ → List ℕ
last_digits zero n = []
last_digits (suc d) n = (48 + n / 10 ^ d % 10) ∷ last_digits d n

-- n over 10^d: the whole part, a point, and d digits
abbrev pub with_digits : ℕ → ℕ → List ℕ
with_digits d n = decimal (n / 10 ^ d) ++ codes "." ++ last_digits d n

-- an end, its number with d digits behind the point
unfoldable pub end_text : ℕ → End → List ℕ
end_text d (Number n) = with_digits d n
end_text d (Whole x) = decimal x
end_text d Beyond = codes "beyond"
end_text d Absent = codes "-"
