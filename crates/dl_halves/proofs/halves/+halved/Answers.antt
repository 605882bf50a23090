use Rattle.dl_halves.proofs.Common.{ℕ, ◌+◌, ◌*◌, ◌/◌, ◌≡◌, ◌≤◌, arith, length, subst, sym, refl, ◌∙◌, IsHalvable, one-le-pow}
use Rattle.dl_halves.proofs.Halving.{twice, front_half, back_half, three_of, small_remainder, values_small, halved_value}
use Rattle.dl_halves.proofs.halves.+halved.Goals as goal

-- what is left of twice n
rest_of : (n m k : ℕ) → k + n ≡ m → m ≡ 2 * n → k ≡ n
rest_of n m k rest room = omega arith

pub halved-requires : goal.halved-requires
halved-requires g t c κs within =
    let n = twice (length c.args.a.now) c.requires.halvable c.if-a-eq-BLOCK.false in
    let front = front_half (length c.args.a.now / 2) c.args.a.now n.even in
    let beside = front_half (length c.args.a.now / 2) c.args.b.now (c.requires.paired ∙ n.even) in (
      omega (arith, front, n.less, c.decreases),
      (
        within.0,
        (
          within.1,
          (
            subst IsHalvable (sym front) n.half,
            omega (arith, front, beside, n.even, c.split_at_mut-low.ensures.front_len, c.requires.work),
          ),
        ),
      ),
    )

pub halved-requires-2 : goal.halved-requires-2
halved-requires-2 g t c κs within =
    let n = twice (length c.args.a.now) c.requires.halvable c.if-a-eq-BLOCK.false in
    let half : ℕ = length c.args.a.now / 2 in
    let back = back_half half c.args.a.now n.even in
    let other = back_half half c.args.b.now (c.requires.paired ∙ n.even) in
    let high : length c.split_at_mut-low.result.1.now ≡ 2 * half =
    omega (arith, n.even, c.split_at_mut-low.ensures.back_len, c.requires.room) in
    let work : 4 * half ≤ length c.halved.new.work = omega (arith, n.even, c.requires.work, c.halved.auto.work) in (
      omega (arith, back, n.less, c.decreases),
      (within.0, (within.1, (subst IsHalvable (sym back) n.half, omega (arith, back, other, high, work)))),
    )

pub halved-requires-3 : goal.halved-requires-3
halved-requires-3 g t c κs within =
    let n = twice (length c.args.a.now) c.requires.halvable c.if-a-eq-BLOCK.false in
    let half : ℕ = length c.args.a.now / 2 in
    let front : length c.add_halves.new.out ≡ half = c.add_halves.auto.out ∙ c.split_at_mut-left.ensures.front_len in
    let beside : length c.add_halves-2.new.out ≡ half =
    c.add_halves-2.auto.out ∙ c.split_at_mut-right.ensures.front_len in
    let middle = c.split_at_mut-middle.ensures.front_len in
    let spare : 4 * half ≤ length c.split_at_mut-middle.result.1.now =
    omega (
      arith,
      n.even,
      c.split_at_mut-middle.ensures.back_len,
      c.split_at_mut-right.ensures.back_len,
      c.split_at_mut-left.ensures.back_len,
      c.halved-2.auto.work,
      c.halved.auto.work,
      c.requires.work,
    ) in (
      omega (arith, front, n.less, c.decreases),
      (within.0, (within.1, (subst IsHalvable (sym front) n.half, omega (arith, front, beside, middle, spare)))),
    )

pub returns-then-a-eq-BLOCK-clause-products : goal.returns-then-a-eq-BLOCK-clause-products
returns-then-a-eq-BLOCK-clause-products g t c k e =
    omega (arith, c.block.ensures.products, one-le-pow k 3 (omega arith))

pub returns-then-a-eq-BLOCK-clause-value : goal.returns-then-a-eq-BLOCK-clause-value
returns-then-a-eq-BLOCK-clause-value g t c s inside =
    small_remainder _ _ (values_small g.R.Ring.value c.block.new.out s g.met.R.Ring.small)
    (c.block.ensures.value s inside)

pub returns-clause-products : goal.returns-clause-products
returns-clause-products g t c k e =
    let n = length c.args.a.now in
    let even = (twice (length c.args.a.now) c.requires.halvable c.if-a-eq-BLOCK.false).even in
    let front = front_half (n / 2) c.args.a.now even in
    let back = back_half (n / 2) c.args.a.now even in
    let left : length c.add_halves.new.out ≡ n / 2 = c.add_halves.auto.out ∙ c.split_at_mut-left.ensures.front_len in
    let all = three_of n k (g.R.Ring.products c.args.ring.now) (g.R.Ring.products c.halved.new.ring)
    (g.R.Ring.products c.halved-2.new.ring)
    (g.R.Ring.products c.halved-3.new.ring) e c.if-a-eq-BLOCK.false (λ j h. c.halved.ensures.products j (front ∙ h))
    (λ j h. c.halved-2.ensures.products j (back ∙ h))
    (λ j h. omega (
      arith,
      c.halved-3.ensures.products j (left ∙ h),
      c.add_halves.ensures.products,
      c.add_halves-2.ensures.products,
    )) in
    omega (arith, all, c.take_off.ensures.products, c.add_middle.ensures.products)

pub returns-clause-value : goal.returns-clause-value
returns-clause-value g t c s inside =
    let n = length c.args.a.now in
    let even = (twice (length c.args.a.now) c.requires.halvable c.if-a-eq-BLOCK.false).even in
    let low = c.split_at_mut-low.ensures.front_len in
    let high : length c.split_at_mut-low.result.1.now ≡ 2 * (n / 2) =
    omega (arith, even, c.split_at_mut-low.ensures.back_len, c.requires.room) in
    let left = c.split_at_mut-left.ensures.front_len in
    let right = c.split_at_mut-right.ensures.front_len in
    let middle = c.split_at_mut-middle.ensures.front_len in
    let whole = c.halved-3.auto.out ∙ middle in
    let rest = c.take_off.auto.middle ∙ whole in
    small_remainder _ _ (values_small g.R.Ring.value c.add_middle.new.out s g.met.R.Ring.small)
    (halved_value g.R.Ring.value (n / 2) c.args.a.now c.args.b.now c.halved.new.out c.halved-2.new.out
    c.add_halves.new.out c.add_halves-2.new.out c.halved-3.new.out
    c.take_off.new.middle _ c.add_middle.new.out even (c.requires.paired ∙ even) (c.halved.auto.out ∙ low ∙ even)
    (c.halved-2.auto.out ∙ high) (c.add_halves.auto.out ∙ left) (c.add_halves-2.auto.out ∙ right)
    (length c.split_at_mut-left.result.0.now) (length c.split_at_mut-right.result.0.now) left right
    (λ s h. c.halved.ensures.value s (rw (low ∙ even) h))
    (λ s h. c.halved-2.ensures.value s (rw high h))
    (λ i h. c.add_halves.ensures.value i (rw left h))
    (λ i h. c.add_halves-2.ensures.value i (rw right h))
    (λ s h. c.halved-3.ensures.value s (rw (middle ∙ even) h))
    (λ t h. c.take_off.ensures.value t (rw (whole ∙ even) h))
    refl (λ t h. c.add_middle.ensures.value t (rw (rest ∙ even) h))
    (λ s h. c.add_middle.ensures.first s h) (λ s h. c.add_middle.ensures.last s (rw (rest ∙ even) h))
    s (omega (arith, inside, even, c.requires.room)))

pub add_halves-requires : goal.add_halves-requires
add_halves-requires g t c =
    let n = twice (length c.args.a.now) c.requires.halvable c.if-a-eq-BLOCK.false in omega arith

pub add_halves-requires-2 : goal.add_halves-requires-2
add_halves-requires-2 g t c =
    let n = twice (length c.args.a.now) c.requires.halvable c.if-a-eq-BLOCK.false in omega arith

pub take_off-requires-clause-low : goal.take_off-requires-clause-low
take_off-requires-clause-low g t c =
    c.halved.auto.out ∙ c.split_at_mut-low.ensures.front_len
    ∙ sym (c.halved-3.auto.out ∙ c.split_at_mut-middle.ensures.front_len)

pub take_off-requires-clause-high : goal.take_off-requires-clause-high
take_off-requires-clause-high g t c =
    c.halved-2.auto.out
    ∙ rest_of (length c.args.a.now) _ _ c.split_at_mut-low.ensures.back_len c.requires.room
    ∙ sym (c.halved-3.auto.out ∙ c.split_at_mut-middle.ensures.front_len)
