-- At most 1 where the numerator is at most the denominator.
use Rattle.dl_plan.proofs.Common.{ℕ, ◌≤◌, IsTrue, arith, Fraction, whole, ◌≤ℚ◌, over_self, over_le, leb-true, nat_le}
use Rattle.dl_plan.proofs.Clauses.{num_le_den}
use Rattle.dl_plan.proofs.layers.is_at_most_one.Goals as goal

is_test : (a b : ℕ) → a ≤ b → IsTrue (nat_le a b)
is_test a b e = grind arith

within : (x : Fraction) → x.num ≤ x.den → x ≤ℚ whole 1
within x h = grind (arith, over_self x, over_le x.num x.den 1 1 x.positive (omega arith) (omega (arith, h)))

pub returns : goal.returns
returns c = grind (arith, within, leb-true, is_test, num_le_den)
