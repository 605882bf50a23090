-- What the clauses of a unit keep.
use Rattle.dl_reading.proofs.Common.{◌≡◌, Option, Some, None, IfSome, Span, within, ◌else◌, else_first, else_second, GridClause, GridUnit, IsGridClause, overlap_in, overlap, share_above_one_in, share_above_one, IsClauseLayered, IsLayered}

both_none : (x y : Option Span) → (x else y) ≡ None → (x ≡ None) × (y ≡ None)
both_none x y none = (else_first x y none, else_second x y none)

clause_layered : (o : Option GridClause) → IfSome o IsGridClause → within overlap_in o ≡ None
    → within share_above_one_in o ≡ None → IfSome o IsClauseLayered
clause_layered None grid apart below = tt
clause_layered (Some c) grid apart below = record { grid = grid; apart = apart; within = below }

pub clauses_layered : (u : GridUnit) → IsLayered u → IfSome u.occ IsClauseLayered × IfSome u.agr IsClauseLayered
unfolding overlap share_above_one
clauses_layered u layered =
    let apart = both_none (within overlap_in u.occ) (within overlap_in u.agr) layered.apart in
    let below = both_none (within share_above_one_in u.occ) (within share_above_one_in u.agr) layered.within in (
      clause_layered u.occ layered.weighted.grid.occ apart.0 below.0,
      clause_layered u.agr layered.weighted.grid.agr apart.1 below.1,
    )
