use Rattle.dl_measures.proofs.Common.{suc, ◌-◌, arith, below_grows, count_below, end_at}
use Rattle.dl_measures.proofs.MarkLaws.{sum_between}
use Rattle.dl_measures.proofs.marks.Running.layer.Goals as goal

pub overflow_sub-result : goal.overflow_sub-result
overflow_sub-result c = omega (arith, c.at.ensures.rest, c.at-2.ensures.rest, below_grows c.args.first c.args.last (λ x. c.args.self.one - count_below (suc x) (end_at c.args.self.ends.now)) c.requires.order)

pub returns : goal.returns
returns c = omega (arith, c.at.ensures.rest, c.at-2.ensures.rest, sum_between c.args.first c.args.last (λ x. c.args.self.one - count_below (suc x) (end_at c.args.self.ends.now)) c.requires.order)
