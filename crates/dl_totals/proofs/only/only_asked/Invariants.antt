use Rattle.std.proofs.Common.{ℕ, false}
use Rattle.dl_totals.proofs.Common.{◌≡◌, ◌<◌, ◌≤◌, length, get_or, IsTrue, IfSome, IsSome}
use Rattle.dl_totals.proofs.only.only_asked.Given as goal

abbrev pub invariant-loop-at : goal.invariant-loop-at
invariant-loop-at l = record {
  inside : l.at ≤ length l.asked;
  seen : (k : ℕ) → k < l.at → IsTrue (get_or l.asked k false) → IfSome l.only (λ i. k ≡ i);
  there : IfSome l.only (λ i. (i < length l.asked) × IsTrue (get_or l.asked i false));
  some : (k : ℕ) → k < l.at → IsTrue (get_or l.asked k false) → IsSome l.only;
}
