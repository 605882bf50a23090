-- How the numbers and the cells of a step are spelled.
use Rattle.std.specs.Prelude.{ℕ, ◌≡◌, ◌==◌, ◌≤◌, Bool, IsTrue, List}
use Rattle.std.specs.List.{list_any, before_first, after_first}
use Rattle.std.specs.Str.Parse.{digits_value}
use Rattle.dl_bytes.specs.Digits.{is_number_of}
use Rattle.dl_iv.specs.declared.interval.Iv.{Iv}
use Rattle.dl_cert.specs.Numbers.{one}

-- 1 to `most` digits that write n
pub record IsNumber (most : ℕ) (text : List ℕ) (n : ℕ) : Type 0 where
  pub digits : IsTrue (is_number_of most text)
  pub value : digits_value 10 text ≡ n

abbrev pub is_comma : ℕ → Bool
is_comma byte = byte == 44

-- the ends of a cell: two numbers of 1 to 17 digits with a comma between, the second at most 1
pub record IsCell (text : List ℕ) (cell : Iv 56) : Type 0 where
  pub comma : IsTrue (list_any is_comma text)
  pub low : IsNumber 17 (before_first is_comma text) cell.lo
  pub high : IsNumber 17 (after_first is_comma text) cell.hi
  pub small : cell.hi ≤ one
