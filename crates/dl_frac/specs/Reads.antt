-- The state of reading a numeral, after some of its bytes.
use Rattle.std.specs.Prelude.{ℕ, ◌≡◌, ◌≤◌, List}
use Rattle.std.specs.List.{list_any}
use Rattle.dl_frac.specs.declared.reading.Reading.{Reading}
use Rattle.dl_bytes.specs.Numerals.{is_point, is_percent}
use Rattle.dl_frac.specs.Numerals.{digit_count, number_in, decimals_in}

-- r is what a text of at most so many digits shows
pub record IsReadingOf (limit : ℕ) (text : List ℕ) (r : Reading) : Type 0 where
  pub number : r.number ≡ number_in text
  pub digits : r.digits ≡ digit_count text
  pub places : r.places ≡ decimals_in text
  pub pointed : r.pointed ≡ list_any is_point text
  pub percent : r.percent ≡ list_any is_percent text
  pub within : digit_count text ≤ limit
