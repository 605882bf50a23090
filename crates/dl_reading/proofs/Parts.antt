-- What a unit in whole buckets keeps of its lists.
use Rattle.dl_reading.proofs.Common.{◌≡◌, ℕ, ◌<◌, ◌==◌, length, not, Option, Some, None, arith, IfSome, eqb-true, ◌over◌, Shares, at_if, within, not_at, not-false, GridUnit, probs_among, IsSevWeighted, length-replicate, weights_differ, IsWeighted}

-- a list of so many probabilities has one for each number below
pub among_inside : (o : Option Shares) (n i : ℕ) → length (probs_among n o) ≡ n → i < n
    → IfSome o (λ l. i < length l.values)
among_inside None n i same h = tt
among_inside (Some l) n i same h = omega (arith, same, h)

-- one weight for each atom
one_each : (o : Option Shares) (n : ℕ)
    → within (λ (l : Shares). at_if (not (length l.values == n)) l.span) o ≡ None → length (probs_among n o) ≡ n
one_each None n e = length-replicate n (1 over n)
one_each (Some l) n e = eqb-true (length l.values) n (not-false _ (not_at _ l.span e))

pub sev_weighted : (u : GridUnit) → IsWeighted u → IsSevWeighted u.sev
unfolding weights_differ
sev_weighted u weighted = record {
  grid = weighted.grid.sev;
  each = one_each u.sev.weights (length u.sev.atoms) weighted.weights;
}
