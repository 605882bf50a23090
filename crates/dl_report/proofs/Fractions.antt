-- How a fraction is written.
use Rattle.dl_report.proofs.Common.{◌≡◌, ◌≢◌, ◌++◌, ℕ, List, refl, codes, ne_eqb, arith, append_assoc, IsAscii-append, decimal, IsAscii, Fraction, fraction_text}
use Rattle.dl_report.proofs.Ascii.{one_ascii}

pub whole_text : (x : Fraction) → x.den ≡ 1 → fraction_text x ≡ decimal x.num
unfolding fraction_text
whole_text x h = rw h refl

parts_text : (x : Fraction) → x.den ≢ 1 → fraction_text x ≡ decimal x.num ++ codes "/" ++ decimal x.den
unfolding fraction_text
parts_text x h = rw (ne_eqb x.den 1 h) refl

-- behind what was there before
pub parts_behind : (x : Fraction) (front : List ℕ) → x.den ≢ 1
    → front ++ decimal x.num ++ codes "/" ++ decimal x.den ≡ front ++ fraction_text x
parts_behind x front h = rw (parts_text x h) (behind front (decimal x.num) (codes "/") (decimal x.den))
  where
    behind : (a b c d : List ℕ) → a ++ b ++ c ++ d ≡ a ++ (b ++ c ++ d)
    behind a b c d = simp append_assoc

pub parts_ascii : (x : Fraction) → x.den ≢ 1 → IsAscii (decimal x.num) → IsAscii (decimal x.den)
    → IsAscii (fraction_text x)
parts_ascii x h first second =
    rw (parts_text x h) (IsAscii-append (decimal x.num ++ codes "/") (decimal x.den)
    (IsAscii-append (decimal x.num) (codes "/") first (one_ascii 47 (omega arith))) second)
