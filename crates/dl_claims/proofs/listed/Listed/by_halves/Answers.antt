use Rattle.dl_claims.proofs.Common.{ℕ, suc, ◌≡◌, ◌+◌, ◌-◌, ◌*◌, ◌^◌, ◌<◌, ◌≤◌, length, arith, refl, ap, sym, ◌∙◌, sub-zero, zero-mul, subst, IfOk-weaker, size_of, size_within, probability_at, ltb-true, ◌%◌, if_ok_three}
use Rattle.dl_claims.proofs.WeightLists.{probabilities_within}
use Rattle.dl_claims.proofs.PowerGrids.{own, own_within, own_between, few_in}
use Rattle.dl_claims.proofs.HornerGrids.{one_between, ends}
use Rattle.dl_claims.proofs.Neighbours.{few_at, powers_in, pairable_in, pairable_same, pairable_blocks, neighbours, joined_pairs, same_between, blocks_are, blocks_some, blocks_few, counts_few, counts_near, half_left, two_left, twice_as_many, all_joined, some_suc, two_powers, last_power, powers_many}
use Rattle.dl_claims.proofs.SingleCount.{single_count}
use Rattle.dl_claims.proofs.listed.Listed.by_halves.Goals as goal

pub returns-then-self-eq1-clause-encloses : goal.returns-then-self-eq1-clause-encloses
returns-then-self-eq1-clause-encloses g c =
    IfOk-weaker c.power.result _ _ (λ grid powers f q of_base.
    single_count c.args.self.base.now c.args.self.table.now (record { amount = 0; weight = 0 }) c.args.self.total grid
    c.if-self-eq1.true c.args.self.sum c.args.self.positive powers f q of_base)
    c.power.ensures.encloses

pub next_power-requires : goal.next_power-requires
next_power-requires g c =
    let size = size_within (size_of c.args.self.base.now c.cells.ensures.grid) c.args.self.some c.args.self.within in
    let two = two_powers _ (ap length c.as_slice.ensures.value ∙ c.in_ok-powers.ensures.many) c.max-most.ensures in
    (ltb-true _ _ refl, (size, (two, few_in c.as_slice.ensures.value c.in_ok-powers.ensures.few)))

pub blocks_of-requires : goal.blocks_of-requires
blocks_of-requires g c =
    let l : ℕ = c.levels_of-levels.result in
    let a : ℕ = c.greatest_of-greatest.result in
    let b : ℕ = 2 * 2 ^ l % 2 ^ 32 in
    let m : ℕ = c.max-most.result in
    let e : b ≡ 2 * 2 ^ l = blocks_are l c.levels_of-levels.ensures in
    let size = size_within (size_of c.args.self.base.now c.cells.ensures.grid) c.args.self.some c.args.self.within in
    let all : length c.as_slice-2.result.now ≡ suc m = ap length c.as_slice-2.ensures.value ∙ c.in_ok-powers.ensures.many in
    let one : 1 ≤ length c.as_slice-2.result.now = rw all (some_suc m) in
    let most : length c.as_slice-2.result.now < 2 ^ 32 =
    rw all (counts_few a b m c.greatest_of-greatest.type_inv (blocks_some l b e) c.max-most.ensures) in
    let near : b * length c.as_slice-2.result.now < 2 ^ 33 =
    rw all (counts_near a b m
    c.greatest_of-greatest.type_inv (blocks_few l b c.levels_of-levels.ensures e) c.max-most.ensures) in
    let few = few_in c.as_slice-2.ensures.value c.in_ok-powers.ensures.few in
    let f = own c.args.self.base.now in
    let within = own_within c.args.self.base.now c.cells.ensures.grid.mass in
    let powers = powers_in c.args.self.cells f c.as_slice-2.ensures.value
    (c.in_ok-powers.ensures.powers f within (own_between c.args.self.base.now c.args.self.cells)) in
    let s = c.args.self in
    (ltb-true _ _ refl, (size, (s.sum, (s.positive, (s.most, (one, (most, (near, (few, (f, within, powers))))))))))

pub loop-init : goal.loop-init
loop-init g c =
    let l : ℕ = c.levels_of-levels.result in
    let m : ℕ = c.max-most.result in
    let all : length c.as_slice.result.now ≡ suc m = ap length c.as_slice.ensures.value ∙ c.in_ok-powers.ensures.many in
    let all-2 : length c.as_slice-2.result.now ≡ suc m = ap length c.as_slice-2.ensures.value
    ∙ c.in_ok-powers.ensures.many in
    record {
      many = c.in_ok-parts.ensures.many ∙ blocks_are l c.levels_of-levels.ensures
          ∙ ap (λ t. 2 * 2 ^ t) (sym (sub-zero l));
      few = c.in_ok-parts.ensures.few;
      in_step = c.in_ok-step.ensures.few;
      pairable = λ f q of_f.
          let of_powers = c.in_ok-powers.ensures.powers f q of_f in
          pairable_blocks c.args.self.cells (probability_at c.args.self.table.now) f c.in_ok-parts.parts.items c.in_ok-step.step
          (length c.as_slice-2.result.now - 1) (length c.as_slice.result.now) (suc m * 1 - 1) (last_power all-2)
          (powers_many all) (probabilities_within c.args.self.table.now c.args.self.total c.args.self.sum c.args.self.positive) q
          (c.in_ok-parts.ensures.parts f q (powers_in c.args.self.cells f c.as_slice-2.ensures.value of_powers))
          (c.in_ok-step.ensures.between f q (powers_in c.args.self.cells f c.as_slice.ensures.value of_powers));
    }

pub paired-requires : goal.paired-requires
paired-requires g c =
    let size = size_within (size_of c.args.self.base.now c.cells.ensures.grid) c.args.self.some c.args.self.within in
    let p = c.loop.invariant.pairable (own c.args.self.base.now) (own_within c.args.self.base.now c.cells.ensures.grid.mass)
    (own_between c.args.self.base.now c.args.self.cells) in
    let few = few_in c.as_slice-in-loop.ensures.value c.loop.invariant.few in
    (ltb-true _ _ refl, (size, (few, (c.loop.invariant.in_step, (_, _, _, pairable_in c.as_slice-in-loop.ensures.value p)))))

pub short_square-requires : goal.short_square-requires
short_square-requires g c =
    let size = size_within (size_of c.args.self.base.now c.cells.ensures.grid) c.args.self.some c.args.self.within in
    (ltb-true _ _ refl, (size, c.loop.invariant.in_step))

pub loop-preserved : goal.loop-preserved
loop-preserved g c =
    let l : ℕ = c.levels_of-levels.result in
    let i : ℕ = c.loop.counter in
    let m : ℕ = suc c.max-most.result * 2 ^ i - 1 in
    record {
      many = half_left l i (length c.as_slice-in-loop.result.now) _ c.loop-test.true
          (ap length c.as_slice-in-loop.ensures.value ∙ c.loop.invariant.many) c.in_ok-parts-2.ensures.many;
      few = c.in_ok-parts-2.ensures.few;
      in_step = c.in_ok-step-2.ensures.few;
      pairable = λ f q of_f.
          let p = pairable_in c.as_slice-in-loop.ensures.value (c.loop.invariant.pairable f q of_f) in
          pairable_same (twice_as_many (suc c.max-most.result) i (some_suc c.max-most.result))
          (joined_pairs c.args.self.cells m (probability_at c.args.self.table.now) f p c.in_ok-step-2.ensures.convolution
          (c.in_ok-parts-2.ensures.parts (probability_at c.args.self.table.now) f m p));
    }

pub index-requires : goal.index-requires
index-requires g c =
    let two : length c.loop.parts.items ≡ 2 =
    two_left c.levels_of-levels.result c.loop.counter _ c.loop-test.false c.loop.invariant.many in
    omega (arith, two)

pub block_with_later-requires : goal.block_with_later-requires
block_with_later-requires g c =
    let l : ℕ = c.levels_of-levels.result in
    let i : ℕ = c.loop.counter in
    let m : ℕ = suc c.max-most.result * 2 ^ i - 1 in
    let two : length c.loop.parts.items ≡ 2 = two_left l i _ c.loop-test.false c.loop.invariant.many in
    let size = size_within (size_of c.args.self.base.now c.cells.ensures.grid) c.args.self.some c.args.self.within in
    let p = c.loop.invariant.pairable (own c.args.self.base.now) (own_within c.args.self.base.now c.cells.ensures.grid.mass)
    (own_between c.args.self.base.now c.args.self.cells) in
    let few = few_at c.args.self.cells 0 _ c.index.result.now (rw two (ltb-true _ _ refl)) c.index.ensures c.loop.invariant.few in
    let few-2 = few_at c.args.self.cells 1 _ c.index-2.result.now (rw two (ltb-true _ _ refl)) c.index-2.ensures c.loop.invariant.few in
    let near = neighbours c.args.self.cells (probability_at c.args.self.table.now) (own c.args.self.base.now) m
    c.loop.parts.items c.loop.step c.index.result.now c.index-2.result.now 0 0 1 p refl refl (rw two (ltb-true _ _ refl))
    c.index.ensures c.index-2.ensures in
    (ltb-true _ _ refl, (size, (few, (c.loop.invariant.in_step, (few-2, (_, _, _, _, _, near))))))

pub extended-requires : goal.extended-requires
extended-requires g c =
    let size = size_within (size_of c.args.self.base.now c.cells.ensures.grid) c.args.self.some c.args.self.within in
    (ltb-true _ _ refl, (size, c.in_ok-whole.ensures.few))

pub returns-clause-encloses : goal.returns-clause-encloses
returns-clause-encloses g c =
    let l : ℕ = c.levels_of-levels.result in
    let i : ℕ = c.loop.counter in
    let m : ℕ = suc c.max-most.result * 2 ^ i - 1 in
    let a : ℕ = c.greatest_of-greatest.result in
    let two : length c.loop.parts.items ≡ 2 = two_left l i _ c.loop-test.false c.loop.invariant.many in
    let all : a ≤ suc m + m = all_joined a l i (2 * 2 ^ l % 2 ^ 32) c.max-most.result c.loop-test.false
    c.loop.auto.counter-end (blocks_are l c.levels_of-levels.ensures) c.max-most.ensures in
    if_ok_three c.extended.result _ _ _ _ (λ grid cells low high f q of_base.
    let p = c.loop.invariant.pairable f q (one_between c.args.self.base.now c.args.self.cells f c.args.self.within of_base) in
    ends grid c.args.self.table.now c.args.self.total f c.args.self.cells (0 * suc (suc m + m)) (suc m + m) c.args.self.positive
    c.args.self.sum (zero-mul _)
    (subst (λ n. n ≤ suc m + m) c.greatest_of-greatest.ensures all) cells
    (same_between c.in_ok-whole.whole grid c.args.self.cells _ low high
    (c.in_ok-whole.ensures.between (probability_at c.args.self.table.now) f (0 * suc (suc m + m)) m m
    (neighbours c.args.self.cells (probability_at c.args.self.table.now) f m c.loop.parts.items c.loop.step c.index.result.now
    c.index-2.result.now 0 0 1 p refl refl (rw two (ltb-true _ _ refl)) c.index.ensures c.index-2.ensures))))
    c.extended.ensures.cells c.extended.ensures.low c.extended.ensures.high
