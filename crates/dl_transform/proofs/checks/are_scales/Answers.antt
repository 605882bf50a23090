use Rattle.dl_transform.proofs.Common.{arith, rules}
use Rattle.dl_transform.proofs.checks.are_scales.Goals as goal

pub returns : goal.returns
returns c e k b = let h = c.holds_below.ensures e k (omega (arith, b, c.len.ensures)) in search rules
