use Rattle.dl_claims.proofs.Common.{ℕ, ◌-◌, length, Fraction, IsWithinOne, probability_at, ArePowers, AreParts}
use Rattle.dl_claims.proofs.PowerGrids.{AreShort}
use Rattle.dl_claims.proofs.blocks.blocks_of.Given as goal

abbrev pub invariant-loop-i : goal.invariant-loop-i
invariant-loop-i g l = record {
  short : AreShort l.cells l.i l.list.items;
  parts : (f : ℕ → Fraction) → IsWithinOne f → ArePowers l.cells f l.powers
      → AreParts l.cells (probability_at l.table) f (length l.powers - 1) l.list.items;
}
