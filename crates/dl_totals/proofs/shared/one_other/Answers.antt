use Rattle.dl_totals.proofs.Common.{List, length, arith, ap, Option, Iv, None, length-replicate}
use Rattle.dl_totals.proofs.shared.one_other.Goals as goal

pub index_mut-requires : goal.index_mut-requires
index_mut-requires g c = omega (
  arith,
  ap (λ (t : List (Option (List (Iv g.row.B)))). length t) c.in_ok-others.ensures,
  length-replicate {A = Option (List (Iv g.row.B))} c.args.many None,
)
