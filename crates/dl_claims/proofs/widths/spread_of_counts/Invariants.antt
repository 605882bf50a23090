use Rattle.dl_claims.proofs.Common.{◌≡◌, ◌^◌, mixed_spread}
use Rattle.dl_claims.proofs.widths.spread_of_counts.Given as goal

abbrev pub invariant-loop : goal.invariant-loop
invariant-loop g l = l.most ≡ mixed_spread (2 ^ g.row.B) l.cells l.base l.counter
