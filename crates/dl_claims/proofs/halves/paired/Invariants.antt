use Rattle.dl_claims.proofs.Common.{ℕ, suc, ◌+◌, Fraction, AreParts, ArePairable}
use Rattle.dl_claims.proofs.PowerGrids.{AreShort}
use Rattle.dl_claims.proofs.halves.paired.Given as goal

abbrev pub invariant-loop-i : goal.invariant-loop-i
invariant-loop-i g l = record {
  short : AreShort l.cells l.i l.pairs.items;
  parts : (w f : ℕ → Fraction) (m : ℕ) → ArePairable l.cells w f m l.parts l.step
      → AreParts l.cells w f (suc m + m) l.pairs.items;
}
