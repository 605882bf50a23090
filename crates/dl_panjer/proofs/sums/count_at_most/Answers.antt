use Rattle.dl_panjer.proofs.Common.{arith, leb, leb-true, rules, leb-false, IsPartitionPoint-from_clause, IsPartitionedBy-leb}
use Rattle.dl_panjer.proofs.Reading.{amounts_rise}
use Rattle.dl_panjer.proofs.sums.count_at_most.Goals as goal

pub returns-clause-before : goal.returns-clause-before
returns-clause-before c =
    let parted = IsPartitionedBy-leb (λ item. item.amount) _ c.args.most (amounts_rise _ c.requires.rising) in
    let point = IsPartitionPoint-from_clause
    (λ item. leb item.amount c.args.most) _ _ c.partition_point.ensures.partitioned parted (λ a r q k. search rules) in
    λ k d h. leb-true _ _ (point.0 k d (omega arith) h)

pub returns-clause-after : goal.returns-clause-after
returns-clause-after c =
    let parted = IsPartitionedBy-leb (λ item. item.amount) _ c.args.most (amounts_rise _ c.requires.rising) in
    let point = IsPartitionPoint-from_clause
    (λ item. leb item.amount c.args.most) _ _ c.partition_point.ensures.partitioned parted (λ a r q k. search rules) in
    λ k d from inside. leb-false _ _ (point.1 k d from inside)
