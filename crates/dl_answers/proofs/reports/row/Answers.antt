use Rattle.dl_answers.proofs.Common.{[], ◌+◌, ◌^◌, arith, ap, subst, All-head, facts_of, IsLevel, ◌also◌, IsPastAbove, reach_of}
use Rattle.dl_answers.proofs.GoodRows.{point_answer, cdf_answer, mean_answer, layer_answer}
use Rattle.dl_answers.proofs.Grounds.{total_is, total_read, total_there, unit_reached}
use Rattle.dl_answers.proofs.Named.{index_named}
use Rattle.dl_answers.proofs.PriceRows.{price_asked}
use Rattle.dl_answers.proofs.ShareLaws.{joint_asked, share_asked, tail_share_asked, whole_share_asked}
use Rattle.dl_answers.proofs.Tails.{past_above, tail_asked}
use Rattle.dl_answers.proofs.reports.row.Goals as goal

-- ---- what is asked of the total

pub returns-in-Pmf-clause-answer : goal.returns-in-Pmf-clause-answer
returns-in-Pmf-clause-answer g c =
    let t = total_there c.requires.ground c.index-ground-0.result in
    rw c.in-Pmf.is (point_answer c.in-Pmf.x c.at.ensures.low c.at.ensures.high
    (omega (arith, rw c.in-Pmf.is at c.requires.ask.of.inside, t.cells)) t c.ends_row.ensures.ends)

pub returns-in-Cdf-clause-answer : goal.returns-in-Cdf-clause-answer
returns-in-Cdf-clause-answer g c =
    let t = total_there c.requires.ground c.index-ground-0.result in
    rw c.in-Cdf.is (cdf_answer c.in-Cdf.x c.cdf.ensures.low c.cdf.ensures.high
    (omega (arith, rw c.in-Cdf.is at c.requires.ask.of.inside, t.cells)) c.requires.ground.plan.valid t
    c.ends_row-in-Cdf.ensures.ends)

pub returns-in-Mean-clause-answer : goal.returns-in-Mean-clause-answer
returns-in-Mean-clause-answer g c =
    rw c.in-Mean.is (mean_answer c.requires.ground.drawn.means.mean c.ends_row-in-Mean.ensures.ends)

pub returns-in-LayerMean-clause-answer : goal.returns-in-LayerMean-clause-answer
returns-in-LayerMean-clause-answer g c =
    let t = total_there c.requires.ground c.index-ground-0.result in
    rw c.in-LayerMean.is (layer_answer c.in-LayerMean.attach c.in-LayerMean.limit c.layer_mean.ensures.holds
    c.layer_mean.ensures.width c.requires.ground.plan.valid t c.requires.ground.drawn.means.mean
    c.ends_row-in-LayerMean.ensures.ends)

pub returns-in-Tail-clause-answer : goal.returns-in-Tail-clause-answer
returns-in-Tail-clause-answer g c =
    rw c.in-Tail.is (tail_asked (2 ^ g.row.B) (c.tail_row.ensures.tail c.args.ground.now.plan.now
    c.requires.ground.plan.valid
    (total_there c.requires.ground c.index-ground-0.result) c.requires.ground.drawn.means.mean))

pub returns-in-Price-clause-answer : goal.returns-in-Price-clause-answer
returns-in-Price-clause-answer g c =
    rw c.in-Price.is (price_asked (2 ^ g.row.B) c.as_slice.ensures (c.price_row.ensures.price c.args.ground.now.plan.now
    c.requires.ground.plan.valid (total_there c.requires.ground c.index-ground-0.result)
    c.requires.ground.drawn.means.mean))

pub returns-in-Quantile-clause-answer : goal.returns-in-Quantile-clause-answer
returns-in-Quantile-clause-answer g c =
    rw c.in-Quantile.is (c.quantile_row.ensures.bracket c.args.ground.now.plan.now c.requires.ground.plan.valid
    (total_there c.requires.ground c.index-ground-0.result))

-- ---- what is past the grid

pub returns-in-Quantile-clause-past : goal.returns-in-Quantile-clause-past
returns-in-Quantile-clause-past g c =
    let is = c.requires.ground in
    subst (λ t. IsPastAbove (reach_of t) c.args.ask.now c.quantile_row.result) (total_read is c.index-ground-0.result)
    (rw c.in-Quantile.is (past_above is.plan.valid (total_there is c.index-ground-0.result)
    c.quantile_row.ensures.past))

pub returns-in-Tail-clause-past : goal.returns-in-Tail-clause-past
returns-in-Tail-clause-past g c =
    let is = c.requires.ground in
    subst (λ t. IsPastAbove (reach_of t) c.args.ask.now c.tail_row.result) (total_read is c.index-ground-0.result)
    (rw c.in-Tail.is (past_above is.plan.valid (total_there is c.index-ground-0.result) c.tail_row.ensures.past))

pub returns-in-Share-clause-past : goal.returns-in-Share-clause-past
returns-in-Share-clause-past g c =
    rw c.in-Share.is (past_above c.requires.ground.plan.valid (total_is c.requires.ground)
    (rw c.part_of-in-Share.ensures.total at c.whole_share_row.ensures.past))

pub returns-in-Pmf-clause-past : goal.returns-in-Pmf-clause-past
returns-in-Pmf-clause-past g c = rw c.in-Pmf.is tt

pub returns-in-Cdf-clause-past : goal.returns-in-Cdf-clause-past
returns-in-Cdf-clause-past g c = rw c.in-Cdf.is tt

pub returns-in-Mean-clause-past : goal.returns-in-Mean-clause-past
returns-in-Mean-clause-past g c = rw c.in-Mean.is tt

pub returns-in-LayerMean-clause-past : goal.returns-in-LayerMean-clause-past
returns-in-LayerMean-clause-past g c = rw c.in-LayerMean.is tt

pub returns-in-Price-clause-past : goal.returns-in-Price-clause-past
returns-in-Price-clause-past g c = rw c.in-Price.is tt

pub returns-in-Joint-clause-past : goal.returns-in-Joint-clause-past
returns-in-Joint-clause-past g c = rw c.in-Joint.is tt

pub returns-in-Kappa-clause-past : goal.returns-in-Kappa-clause-past
returns-in-Kappa-clause-past g c = rw c.in-Kappa.is tt

pub returns-in-Cotail-clause-past : goal.returns-in-Cotail-clause-past
returns-in-Cotail-clause-past g c = rw c.in-Cotail.is tt

-- ---- what is asked of a unit

pub joint_of-requires : goal.joint_of-requires
joint_of-requires g c =
    let far = c.part_of.ensures.reach (c.in-Joint.at + 1) (unit_reached c.requires.ground c.args.ask.now _
    c.requires.reached
    c.unwrap.ensures (rw c.in-Joint.is (omega arith))) in
    (omega arith) also (omega arith) also c.part_of.ensures.part also (omega (arith, far))

pub share_row-requires : goal.share_row-requires
share_row-requires g c =
    let far = c.part_of-in-Kappa.ensures.reach (c.in-Kappa.at + 1) (unit_reached c.requires.ground c.args.ask.now _
    c.requires.reached c.unwrap-in-Kappa.ensures (rw c.in-Kappa.is (omega arith))) in
    (omega arith) also c.requires.digits also c.part_of-in-Kappa.ensures.part also (omega (arith, far))

pub tail_share_row-requires : goal.tail_share_row-requires
tail_share_row-requires g c =
    let made = c.part_of-in-Cotail.ensures in
    (omega arith) also c.requires.digits also made.part also rw made.plan (rw c.in-Cotail.is at c.requires.ask.share)
    also rw made.plan (made.reach c.args.ground.now.plan.now.cells (unit_reached c.requires.ground c.args.ask.now _
    c.requires.reached c.unwrap-in-Cotail.ensures (rw c.in-Cotail.is (omega arith))))
    also All-head IsLevel c.in-Cotail.p [] (rw c.in-Cotail.is at c.requires.ask.of.values.levels)
    also rw c.in-Cotail.is at c.requires.ask.of.values.share

pub whole_share_row-requires : goal.whole_share_row-requires
whole_share_row-requires g c =
    let made = c.part_of-in-Share.ensures in
    (omega arith) also c.requires.digits also made.part
    also rw made.plan (made.reach c.args.ground.now.plan.now.cells (unit_reached c.requires.ground c.args.ask.now _
    c.requires.reached c.unwrap-in-Share.ensures (rw c.in-Share.is (omega arith))))
    also All-head IsLevel c.in-Share.p [] (rw c.in-Share.is at c.requires.ask.of.values.levels)

pub returns-in-Joint-clause-answer : goal.returns-in-Joint-clause-answer
returns-in-Joint-clause-answer g c =
    let named = index_named c.args.ground.now.plan.now.units c.args.ask.now
    (ap (λ a. (facts_of a).unit) c.in-Joint.is) c.requires.ask.number c.unwrap.ensures in
    rw c.in-Joint.is (joint_asked c.in-Joint.unit named
    (rw (c.part_of.ensures.plan, c.part_of.ensures.unit) at c.joint_of.ensures.joint) c.ends_row-in-Joint.ensures.ends)

pub returns-in-Kappa-clause-answer : goal.returns-in-Kappa-clause-answer
returns-in-Kappa-clause-answer g c =
    let made = c.part_of-in-Kappa.ensures in
    let named = index_named c.args.ground.now.plan.now.units c.args.ask.now
    (ap (λ a. (facts_of a).unit) c.in-Kappa.is) c.requires.ask.number c.unwrap-in-Kappa.ensures in
    rw c.in-Kappa.is (share_asked (2 ^ g.row.B) c.in-Kappa.unit c.in-Kappa.at named
    (rw (made.plan, made.unit) at c.share_row.ensures.share))

pub returns-in-Cotail-clause-answer : goal.returns-in-Cotail-clause-answer
returns-in-Cotail-clause-answer g c =
    let made = c.part_of-in-Cotail.ensures in
    let named = index_named c.args.ground.now.plan.now.units c.args.ask.now
    (ap (λ a. (facts_of a).unit) c.in-Cotail.is) c.requires.ask.number c.unwrap-in-Cotail.ensures in
    rw c.in-Cotail.is (tail_share_asked (2 ^ g.row.B) c.in-Cotail.unit named
    (rw (made.plan, made.unit) at c.tail_share_row.ensures.share))

pub returns-in-Share-clause-answer : goal.returns-in-Share-clause-answer
returns-in-Share-clause-answer g c =
    let made = c.part_of-in-Share.ensures in
    let named = index_named c.args.ground.now.plan.now.units c.args.ask.now
    (ap (λ a. (facts_of a).unit) c.in-Share.is) c.requires.ask.number c.unwrap-in-Share.ensures in
    rw c.in-Share.is (whole_share_asked (2 ^ g.row.B) c.in-Share.unit named
    (rw (made.plan, made.unit) at c.whole_share_row.ensures.share))
