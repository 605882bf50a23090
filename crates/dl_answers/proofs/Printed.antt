-- Numbers that are printed from an interval.
use Rattle.dl_answers.proofs.Common.{ℕ, ◌+◌, ◌*◌, ◌^◌, ◌<◌, ◌≤◌, arith, div_ceil, mul-le-mul_right, pow_pos, div_ceil_times, Fraction, ◌over◌, ◌≤ℚ◌, div_ceil_least, up_quotient, One, Tail, at_least_wider, at_most_wider, Plan, Row, in_digits, Declares, DeclaresGiven, DeclaresTail, Prints, ◌/◌, le_of_mul-le-mul_right, one-le-pow, over_le, Quantity, AreRowEnds}

floor_least : (l S : ℕ) → 0 < S → l < (l / S + 1) * S
floor_least l S pos = grind arith

floor_below : (l S : ℕ) → 0 < S → l / S * S ≤ l
floor_below l S pos = grind arith

ceiling_apart : (S l h b : ℕ) → 0 < S → h ≤ l + b → div_ceil h S ≤ l / S + (1 + div_ceil b S)
ceiling_apart S l h b pos apart = div_ceil_least h S (l / S + (1 + div_ceil b S)) pos
    (omega (arith, apart, floor_least l S pos, (div_ceil_times b S pos).0))

floor_ceiling : (S l h : ℕ) → 0 < S → l ≤ h → l / S ≤ div_ceil h S
floor_ceiling S l h pos order =
    let scaled : l / S * S ≤ div_ceil h S * S = omega (arith, order, floor_below l S pos, (div_ceil_times h S pos).0) in
    le_of_mul-le-mul_right {k = S} scaled pos

printed_apart : (S lo hi budget d : ℕ) → 0 < S → hi ≤ lo + budget
    → div_ceil (hi * 10 ^ d) S ≤ lo * 10 ^ d / S + in_digits S budget d
unfolding in_digits
printed_apart S lo hi budget d pos apart =
    omega (
      arith,
      up_quotient (budget * 10 ^ d) S pos,
      ceiling_apart S (lo * 10 ^ d) (hi * 10 ^ d) (budget * 10 ^ d) pos
          (omega (arith, mul-le-mul_right (10 ^ d) apart)),
    )

floor_over : (S l d : ℕ) → 0 < S → (l * 10 ^ d / S) over 10 ^ d ≤ℚ l over S
floor_over S l d pos =
    over_le (l * 10 ^ d / S) (10 ^ d) l S (one-le-pow d 10 (omega arith)) pos (floor_below (l * 10 ^ d) S pos)

ceiling_over : (S h d : ℕ) → 0 < S → h over S ≤ℚ div_ceil (h * 10 ^ d) S over 10 ^ d
ceiling_over S h d pos =
    over_le h S (div_ceil (h * 10 ^ d) S) (10 ^ d) pos (one-le-pow d 10 (omega arith))
    (div_ceil_times (h * 10 ^ d) S pos).0

-- what lies between two numbers lies between any that are farther apart
abbrev pub Widens : (Fraction → Fraction → Type 0) → Type 0
Widens LiesBetween = (l m h k : Fraction) → m ≤ℚ l → h ≤ℚ k → LiesBetween l h → LiesBetween m k

pub given_widens : (plan : Plan) (given quantity : Quantity) → Widens (DeclaresGiven plan given quantity)
given_widens plan given quantity l m h k low high holds =
    (at_least_wider _ _ _ _ holds.0 low, at_most_wider _ _ _ _ holds.1 high)

pub tail_widens : (plan : Plan) (p : Fraction) → Widens (DeclaresTail plan p)
tail_widens plan p l m h k low high holds = λ q is. given_widens plan One (Tail p q) l m h k low high (holds q is)

-- what is printed holds what lies between the ends
pub are_ends : (B : ℕ) (LiesBetween : Fraction → Fraction → Type 0) (lo hi d budget : ℕ) (row : Row)
    → Widens LiesBetween
    → Prints (2 ^ B) lo hi d row
    → LiesBetween (lo over 2 ^ B) (hi over 2 ^ B) → hi ≤ lo + budget
    → AreRowEnds LiesBetween d (in_digits (2 ^ B) budget d) row
are_ends B LiesBetween lo hi d budget row widens printed holds apart = record {
  low = lo * 10 ^ d / 2 ^ B;
  high = div_ceil (hi * 10 ^ d) (2 ^ B);
  is_low = printed.is_low;
  is_high = printed.is_high;
  order = floor_ceiling (2 ^ B) (lo * 10 ^ d) (hi * 10 ^ d) (pow_pos B) (mul-le-mul_right (10 ^ d) printed.ordered);
  narrow = printed_apart (2 ^ B) lo hi budget d (pow_pos B) apart;
  holds = widens _ _ _ _ (floor_over (2 ^ B) lo d (pow_pos B)) (ceiling_over (2 ^ B) hi d (pow_pos B)) holds;
}

pub declared_ends : (B : ℕ) (plan : Plan) (quantity : Quantity) (lo hi d budget : ℕ) (row : Row)
    → Prints (2 ^ B) lo hi d row
    → Declares plan quantity (lo over 2 ^ B) (hi over 2 ^ B)
    → hi ≤ lo + budget → AreRowEnds (Declares plan quantity) d (in_digits (2 ^ B) budget d) row
declared_ends B plan quantity lo hi d budget row printed holds apart =
    are_ends B (Declares plan quantity) lo hi d budget row (given_widens plan One quantity) printed holds apart
