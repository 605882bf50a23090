use Rattle.dl_claims.proofs.Common.{ℕ, ◌≡◌, ◌+◌, ◌≤◌, length, All, Fraction, IsWithinOne, Between, ArePowers}
use Rattle.dl_claims.proofs.blocks.powers_to.Given as goal

abbrev pub invariant-loop-claims : goal.invariant-loop-claims
invariant-loop-claims g l = record {
  many : length l.powers.items ≡ l.claims + 1;
  few : All (λ t. length t ≤ l.cells) l.powers.items;
  powers : (f : ℕ → Fraction) → IsWithinOne f → Between l.cells l.base f → ArePowers l.cells f l.powers.items;
}
