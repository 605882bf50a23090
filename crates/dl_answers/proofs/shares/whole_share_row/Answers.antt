use Rattle.dl_answers.proofs.Common.{inl, inr, refl}
use Rattle.dl_answers.proofs.GoodRows.{ends_below}
use Rattle.dl_answers.proofs.Tails.{tail_reached}
use Rattle.dl_answers.proofs.ShareLaws.{share_told, shared, whole_share}
use Rattle.dl_answers.proofs.shares.whole_share_row.Goals as goal

pub returns-in-Some-clause-share : goal.returns-in-Some-clause-share
returns-in-Some-clause-share g c =
    let is = c.requires.part in
    let part = c.args.part.now in
    let from = shared is (λ j v l h. c.law_plan_unit_mean.ensures j v l h) in
    let share = whole_share c.args.p c.share.result is c.requires.level.below
    (c.share.ensures.holds part.plan.now part.i is.unit.at.valid is.unit.unit from)
    (c.share.ensures.width part.plan.now part.i is.unit.at.valid is.unit.unit from) in
    inl (share_told (rw c.in-Some.is at share)
    (tail_reached c.args.p (λ past. let some = c.in-Some.ensures.none.1 past in cc) is.unit.at.valid is.total)
    c.ends_row.ensures.ends)

pub returns-in-None-clause-share : goal.returns-in-None-clause-share
returns-in-None-clause-share g c =
    let is = c.requires.part in inr (record {
      past = c.beyond_row.ensures.ends;
      below = ends_below (c.in-None.ensures.none.0 refl) is.unit.at.valid is.total;
    })
