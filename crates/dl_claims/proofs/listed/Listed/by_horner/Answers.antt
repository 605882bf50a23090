use Rattle.dl_claims.proofs.Common.{ℕ, ◌≡◌, ◌+◌, ◌-◌, ◌^◌, ◌≤◌, mass_low, arith, refl, ap, ◌∙◌, add-one, sub-zero, pow_pos, low_at, high_at, spread, scale_of, size_of, size_within, high_joined, mixed_none, at_zero_small, ltb-true}
use Rattle.dl_claims.proofs.WeightLists.{shares_below, shares_next, shares_fit}
use Rattle.dl_claims.proofs.HornerGrids.{starts_at, goes_on_at, one_between, ends}
use Rattle.dl_claims.proofs.Spreads.{mixed_more}
use Rattle.dl_claims.proofs.listed.Listed.by_horner.Goals as goal

pub empty_grid-requires : goal.empty_grid-requires
empty_grid-requires g c =
    let size = size_of c.args.self.base.now c.cells.ensures.grid in
    (ltb-true _ _ refl, size_within size c.args.self.some c.args.self.within)

pub share_of-requires : goal.share_of-requires
share_of-requires g c =
    let scale = scale_of c.args.self.base.now c.cells.ensures.grid.some in
    (ltb-true _ _ refl, (scale.0, (scale.1, (c.args.self.sum, c.args.self.positive))))

pub share_of-share-requires : goal.share_of-share-requires
share_of-share-requires g c =
    let scale = scale_of c.args.self.base.now c.cells.ensures.grid.some in
    (ltb-true _ _ refl, (scale.0, (scale.1, (c.args.self.sum, c.args.self.positive))))

pub loop-step-init : goal.loop-step-init
loop-step-init g c =
    let S : ℕ = 2 ^ g.row.B in
    let k : ℕ = c.greatest_of-greatest.result in
    let share = c.share_of.ensures in
    record {
      inside = omega arith;
      cells = c.add_at_zero.ensures.cells ∙ c.in_ok-grid.ensures.cells;
      mass = omega (
        arith,
        c.add_at_zero.ensures.mass,
        c.in_ok-grid.ensures.mass,
        share.low,
        shares_next S c.args.self.total c.args.self.table.now k (k + 1) refl,
        shares_fit S c.args.self.total c.args.self.table.now (k + 1) c.args.self.positive c.args.self.sum,
        ap (shares_below S c.args.self.total c.args.self.table.now) (sub-zero k),
      );
      spread = omega (
        arith,
        c.add_at_zero.ensures.spread,
        c.in_ok-grid.ensures.spread,
        share.low,
        share.high,
        mixed_none S c.args.self.cells (spread c.args.self.base.now),
      );
      between = λ f q of_f. starts_at S c.args.self.cells c.args.self.total c.args.self.table.now
          (pow_pos g.row.B) c.args.self.positive c.args.self.sum
          f (low_at c.add_at_zero.new.grid) (high_at c.add_at_zero.new.grid) c.share_of.result.lo c.share_of.result.hi k
          (k - 0) (sub-zero k) share.low share.high
          (λ s. omega (arith, c.add_at_zero.ensures.low s, c.in_ok-grid.ensures.low s))
          (λ s. omega (
            arith,
            high_joined (high_at c.in_ok-grid.grid) (high_at c.add_at_zero.new.grid) c.share_of.result.hi S
                c.add_at_zero.ensures.high c.add_at_zero.ensures.others s (omega (arith, c.in_ok-grid.ensures.high s)),
            c.in_ok-grid.ensures.high s,
            at_zero_small c.share_of.result.hi s,
            share.small,
          ));
    }

at_least : {n k : ℕ} → n ≡ k → k ≤ n
at_least e = omega (arith, e)

room_left : (m before : ℕ) {S now w lo : ℕ} → m + now ≤ S → now ≡ before + w → lo ≡ w → m + lo ≤ S
room_left m before fits next is = omega (arith, fits, next, is)

pub one_claim_more-requires : goal.one_claim_more-requires
one_claim_more-requires g c =
    let left : ℕ = c.greatest_of-greatest.result - c.loop-step.step in
    let next = shares_next (2 ^ g.row.B) c.args.self.total c.args.self.table.now (left - 1) left (omega arith) in
    let s = c.args.self in
    let share = c.share_of-share.ensures in
    let room = room_left (mass_low c.loop-step.grid) _ c.loop-step.invariant.mass next share.low in
    let long = at_least c.loop-step.invariant.cells in
    (ltb-true _ _ refl, (ltb-true _ _ refl, (s.some, (s.within, (long, (share.small, room))))))

pub loop-step-preserved : goal.loop-step-preserved
loop-step-preserved g c =
    let S : ℕ = 2 ^ g.row.B in
    let k : ℕ = c.greatest_of-greatest.result - c.loop-step.step - 1 in
    let next : c.greatest_of-greatest.result - (c.loop-step.step + 1) ≡ k = omega arith in
    let share = c.share_of-share.ensures in
    let more = shares_next S c.args.self.total c.args.self.table.now k (c.greatest_of-greatest.result - c.loop-step.step)
    (omega arith) in
    record {
      inside = omega arith;
      cells = c.in_ok-grid-2.ensures.cells;
      mass = omega (
        arith,
        c.loop-step.invariant.mass,
        c.in_ok-grid-2.ensures.mass,
        share.low,
        more,
        ap (shares_below S c.args.self.total c.args.self.table.now) next,
      );
      spread = rw add-one (mixed_more S c.args.self.cells (spread c.args.self.base.now) c.loop-step.step _ _ _
          (pow_pos g.row.B) c.in_ok-grid-2.ensures.spread (omega (arith, share.low, share.high))
          c.loop-step.invariant.spread);
      between = λ f q of_f. goes_on_at S c.args.self.cells c.args.self.total c.args.self.table.now
          (pow_pos g.row.B) c.args.self.positive c.args.self.sum
          f (low_at c.args.self.base.now) (high_at c.args.self.base.now) (low_at c.loop-step.grid) (high_at c.loop-step.grid)
          (low_at c.in_ok-grid-2.grid) (high_at c.in_ok-grid-2.grid)
          c.share_of-share.result.lo c.share_of-share.result.hi k
          (c.greatest_of-greatest.result - c.loop-step.step) c.loop-step.step _ _ q of_f
          (omega arith) next (add-one c.loop-step.step) share.low share.high
          (c.loop-step.invariant.between f q of_f) c.in_ok-grid-2.ensures.low c.in_ok-grid-2.ensures.high;
    }

pub returns-clause-encloses : goal.returns-clause-encloses
returns-clause-encloses g c f q of_base =
    ends c.loop-step.grid c.args.self.table.now c.args.self.total f c.args.self.cells
    (c.greatest_of-greatest.result - c.loop-step.step) c.loop-step.step c.args.self.positive c.args.self.sum
    (omega arith) (omega (arith, c.greatest_of-greatest.ensures)) c.loop-step.invariant.cells
    (c.loop-step.invariant.between f q (one_between c.args.self.base.now c.args.self.cells f c.args.self.within of_base))
