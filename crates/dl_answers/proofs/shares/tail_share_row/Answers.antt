use Rattle.dl_answers.proofs.Common.{ℕ, ◌^◌, length, inl, inr, refl, subst, Option, low_at, low_cdf, IsFirstFound}
use Rattle.dl_answers.proofs.GoodRows.{ends_below}
use Rattle.dl_answers.proofs.ShareLaws.{share_absent, share_reached, share_told, shared, tail_share}
use Rattle.dl_answers.proofs.shares.tail_share_row.Goals as goal

pub returns-in-Some-clause-share : goal.returns-in-Some-clause-share
returns-in-Some-clause-share g c =
    let is = c.requires.part in
    let share = tail_share is c.requires.independent c.args.p c.tail_share.result
    (shared is (λ j v l h. c.law_plan_unit_mean.ensures j v l h)) c.requires.level.below c.tail_share.ensures.holds
    c.tail_share.ensures.width in
    let reached = share_reached c.tail_share.result c.tail_share.ensures.none is.unit.at.valid is.total in
    inl (share_told (rw c.in-Some.is at share) (rw c.in-Some.is at reached) c.ends_row.ensures.ends)

pub returns-in-None-clause-share : goal.returns-in-None-clause-share
returns-in-None-clause-share g c =
    let is = c.requires.part in
    let total = c.args.part.now.total.now in inr (inl (record {
      past = c.beyond_row.ensures.ends;
      below = ends_below
          (subst (λ (hi : Option ℕ). IsFirstFound (low_cdf (2 ^ g.row.B) (low_at total)) c.args.p (length total) hi)
          c.in-None.is c.quantile.ensures.hi) is.unit.at.valid is.total;
    }))

-- inside the grid there is none only where the quantile is not settled, or too rare
pub returns-in-Some-hi-clause-share : goal.returns-in-Some-hi-clause-share
returns-in-Some-hi-clause-share g c =
    let is = c.requires.part in inr (inr (record {
      is_low = c.absent_row.ensures.low;
      is_high = c.absent_row.ensures.high;
      why = share_absent is c.requires.independent c.args.p c.tail_share.result c.tail_share.ensures.absent
          c.in-Some-hi.field-0
          (rw c.in_default.is refl) (rw (is.total.cells, c.in-Some-hi.is) at c.quantile.ensures.hi);
    }))
