use Rattle.std.proofs.Math.Nat.{le_trans}
use Rattle.dl_claims.proofs.Common.{refl, sym, subst, length, ◌<◌, ℕ, ◌≡◌, ◌+◌, ◌*◌, ◌/◌, ◌^◌, ◌≤◌, List, take, arith, ◌∙◌, get_or, div_ceil, sum_by_more, mass_low, Item, weight_sum, take_all, sum_by_more_le, ltb-true}
use Rattle.dl_claims.proofs.WeightLists.{next_cell, mass_next, mass_room}
use Rattle.dl_claims.proofs.Enclosing.{listed_claim}
use Rattle.dl_claims.proofs.claims.claim_grid.Goals as goal

item_within : (items : List Item) (i total : ℕ) (d : Item) → i < length items → weight_sum items ≡ total
    → weight_sum (take i items) + (get_or items i d).weight ≤ total
item_within items i total d inside e = omega (arith, sum_by_more_le (λ (t : Item). t.weight) items i d inside, e)

item_small : (items : List Item) (i total : ℕ) (d : Item) → i < length items → weight_sum items ≡ total
    → (get_or items i d).weight ≤ total
item_small items i total d inside e = omega (arith, item_within items i total d inside e)

abbrev none : Item
none = record { amount = 0; weight = 0 }

pub share-requires : goal.share-requires
share-requires g c =
    let small = item_small c.args.amounts.now c.loop-item.item-index c.args.total none c.loop-item-test.true c.requires.sum in
    (ltb-true _ _ refl, (c.requires.size.scale_above, (c.requires.size.scale_below, (c.requires.positive, small))))

pub set_if_inside-requires : goal.set_if_inside-requires
set_if_inside-requires g c =
    let i : ℕ = c.loop-item.item-index in
    let items : List Item = c.args.amounts.now in
    let room = mass_room (2 ^ g.row.B) c.args.total (mass_low c.loop-item.grid) c.share.result.lo (weight_sum (take i items))
    (get_or items i none).weight c.requires.positive c.loop-item.invariant.mass c.share.ensures.low
    (item_within items i c.args.total none c.loop-item-test.true c.requires.sum) in
    (ltb-true _ _ refl, (ltb-true _ _ refl, (c.share.ensures.small, room)))

pub loop-item-preserved : goal.loop-item-preserved
loop-item-preserved g c =
    let i : ℕ = c.loop-item.item-index in
    let items : List Item = c.args.amounts.now in
    let S : ℕ = 2 ^ g.row.B in
    record {
      cells = c.set_if_inside.ensures.cells ∙ c.loop-item.invariant.cells;
      low = λ y inside. next_cell (λ w. S * w / c.args.total) items i none y _ _
          c.share.result.lo c.requires.rising c.loop-item-test.true
          (c.loop-item.invariant.low y inside) c.share.ensures.low
          (c.set_if_inside.ensures.low y (subst (λ n. y < n) (sym c.loop-item.invariant.cells) inside));
      high = λ y inside. next_cell (λ w. div_ceil (S * w) c.args.total) items i none y _ _
          c.share.result.hi c.requires.rising c.loop-item-test.true
          (c.loop-item.invariant.high y inside) c.share.ensures.high
          (c.set_if_inside.ensures.high y (subst (λ n. y < n) (sym c.loop-item.invariant.cells) inside));
      mass = mass_next S c.args.total (mass_low c.loop-item.grid) c.share.result.lo
          (weight_sum (take i items)) _ _ _ c.requires.positive c.loop-item.invariant.mass c.share.ensures.low
          c.set_if_inside.ensures.mass (sum_by_more (λ (t : Item). t.weight) items i none
          c.loop-item-test.true);
      spread = omega arith;
    }

pub returns-clause-low : goal.returns-clause-low
returns-clause-low g c = rw (take_all c.loop-item.item-index c.args.amounts.now c.loop-item-test.false) at c.loop-item.invariant.low

pub returns-clause-high : goal.returns-clause-high
returns-clause-high g c = rw (take_all c.loop-item.item-index c.args.amounts.now c.loop-item-test.false) at c.loop-item.invariant.high

pub returns-clause-encloses : goal.returns-clause-encloses
returns-clause-encloses g c =
    listed_claim c.loop-item.grid c.args.amounts.now c.args.total c.requires.sum c.requires.positive
    (λ y h. returns-clause-low g c y (rw c.loop-item.invariant.cells at h))
    (λ y h. returns-clause-high g c y (rw c.loop-item.invariant.cells at h))

pub returns-clause-spread : goal.returns-clause-spread
returns-clause-spread g c = le_trans c.loop-item.invariant.spread c.loop-item.auto.item-index-end
