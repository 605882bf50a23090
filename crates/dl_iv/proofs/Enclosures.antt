-- Laws of intervals and the fractions that lie in them.
use Rattle.dl_iv.proofs.Common.{ℕ, ◌≤◌, ◌^◌, pow_pos, Fraction, ◌over◌, Iv, LiesIn, over_le_over}
use Rattle.dl_exact.proofs.Laws.{le_trans}

-- an interval holds what a narrower one holds
pub lies_in_wider : {B : ℕ} (x : Fraction) (narrow wide : Iv B) → wide.lo ≤ narrow.lo → narrow.hi ≤ wide.hi
    → LiesIn x narrow → LiesIn x wide
lies_in_wider {B = B} x narrow wide low high p = record {
  low = le_trans _ _ _ (over_le_over _ _ _ (pow_pos B) low) p.low;
  high = le_trans _ _ _ p.high (over_le_over _ _ _ (pow_pos B) high);
}

-- an interval holds each whole number of units between its ends
pub lies_between : {B : ℕ} (n : ℕ) (interval : Iv B) → interval.lo ≤ n → n ≤ interval.hi
    → LiesIn (n over 2 ^ B) interval
lies_between {B = B} n interval low high = record {
  low = over_le_over _ _ _ (pow_pos B) low;
  high = over_le_over _ _ _ (pow_pos B) high;
}
