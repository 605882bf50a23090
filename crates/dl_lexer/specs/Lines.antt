-- The line and the column of a place of a text.
use Rattle.std.specs.Prelude.{ℕ, Bool, ◌+◌, ◌==◌, not, List, take, reverse, count_by}
use Rattle.std.specs.List.{prefix_len}

-- the byte that ends a line
abbrev pub is_newline : ℕ → Bool
is_newline b = b == 10

-- 1 plus the newlines before the place
abbrev pub line_of : List ℕ → ℕ → ℕ
line_of bytes at = 1 + count_by is_newline (take at bytes)

-- 1 plus the bytes before the place and behind the last newline there
abbrev pub column_of : List ℕ → ℕ → ℕ
column_of bytes at = 1 + prefix_len (λ b. not (is_newline b)) (reverse (take at bytes))
