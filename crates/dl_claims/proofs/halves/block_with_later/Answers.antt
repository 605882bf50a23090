use Rattle.dl_claims.proofs.Common.{ℕ, ◌≡◌, ◌+◌, ◌^◌, ◌<◌, ◌≤◌, length, get_or, arith, refl, subst, ap₂, ◌∙◌, max, min, low_at, high_at, size_within, ltb-true, low_ends_long}
use Rattle.dl_claims.proofs.BlockGrids.{as_made}
use Rattle.dl_claims.proofs.StepGrids.{step_between, step_ends}
use Rattle.dl_claims.proofs.halves.block_with_later.Goals as goal

sum_at : {v one p q S a b : ℕ} → v ≡ min one (p + q) → one ≡ S → p ≡ a → q ≡ b → v ≡ min S (a + b)
sum_at e is of_p of_q = e ∙ ap₂ (λ s t. min s t) is (ap₂ (λ s t. s + t) of_p of_q)

-- a list as long as the longer of two
within_both : (n p q : ℕ) {a b k : ℕ} → n ≡ max p q → p ≡ a → q ≡ b → a ≤ k → b ≤ k → n ≤ k
within_both n p q e of_a of_b first second = omega (arith, e, of_a, of_b, first, second)

same_long : (n m p q r s : ℕ) {a b : ℕ} → n ≡ max p q → m ≡ max r s → p ≡ a → q ≡ b → r ≡ a → s ≡ b → m ≡ n
same_long n m p q r s e h of_p of_q of_r of_s = omega (arith, e, h, of_p, of_q, of_r, of_s)

some_of : (n p q : ℕ) {a : ℕ} → n ≡ max p q → p ≡ a → 1 ≤ a → 1 ≤ n
some_of n p q e of_a some = omega (arith, e, of_a, some)

pub from_ends-requires : goal.from_ends-requires
from_ends-requires g c =
    let one = c.units_of_one-one.ensures in
    let low : (x : ℕ) → x < c.args.cells → get_or c.in_ok-lows.lows.items x 0
    ≡ min (2 ^ g.row.B) (low_at c.in_ok-moved.moved x + low_at c.args.block.now x) =
    λ x b. sum_at (c.in_ok-lows.ensures.each x) one (c.lows.ensures.each x) (c.lows-2.ensures.each x) in
    let high : (x : ℕ) → x < c.args.cells → get_or c.in_ok-highs.highs.items x 0
    ≡ min (2 ^ g.row.B) (high_at c.in_ok-moved.moved x + high_at c.args.block.now x) =
    λ x b. sum_at (c.in_ok-highs.ensures.each x) one (c.highs.ensures.each x) (c.highs-2.ensures.each x) in
    let within = within_both _ _ _ c.in_ok-lows.ensures.many c.lows.ensures.cells c.lows-2.ensures.cells
    c.in_ok-moved.ensures.few c.requires.in_block in
    let some = some_of _ _ _ c.in_ok-lows.ensures.many c.lows.ensures.cells c.lows.ensures.grid.some in
    let long = same_long _ _ _ _ _ _ c.in_ok-lows.ensures.many c.in_ok-highs.ensures.many c.lows.ensures.cells
    c.lows-2.ensures.cells c.highs.ensures.cells c.highs-2.ensures.cells in
    let s = c.requires.step in (
      ltb-true _ _ refl,
      step_ends c.args.block.now c.args.step.now c.args.later.now c.in_ok-moved.moved c.in_ok-lows.lows.items
          c.in_ok-highs.highs.items c.args.cells
          c.in_ok-moved.ensures.convolution.low c.in_ok-moved.ensures.convolution.high low high
          (length c.in_ok-lows.lows.items) within (size_within c.requires.size some within) refl long
          s.0 s.1 s.2 s.3 s.4 s.5,
    )

pub returns-clause-between : goal.returns-clause-between
returns-clause-between g c w f k m n p =
    let one = c.units_of_one-one.ensures in
    as_made c.from_ends.result c.in_ok-lows.lows.items c.in_ok-highs.highs.items c.args.cells _ c.from_ends.ensures.low
    c.from_ends.ensures.high
    (step_between c.args.block.now c.args.step.now c.args.later.now c.in_ok-moved.moved c.in_ok-lows.lows.items
    c.in_ok-highs.highs.items c.args.cells
    c.in_ok-moved.ensures.convolution.low c.in_ok-moved.ensures.convolution.high
    (λ x b. sum_at (c.in_ok-lows.ensures.each x) one (c.lows.ensures.each x) (c.lows-2.ensures.each x))
    (λ x b. sum_at (c.in_ok-highs.ensures.each x) one (c.highs.ensures.each x) (c.highs-2.ensures.each x))
    w f k m n p)

pub short_product-requires : goal.short_product-requires
short_product-requires g c =
    (ltb-true _ _ refl, (c.requires.size, (c.requires.in_step, c.requires.in_later)))

pub returns-clause-few : goal.returns-clause-few
returns-clause-few g c =
    subst (λ n. n ≤ c.args.cells) (low_ends_long c.from_ends.result) (rw c.from_ends.ensures.low (within_both _ _ _
    c.in_ok-lows.ensures.many c.lows.ensures.cells c.lows-2.ensures.cells c.in_ok-moved.ensures.few c.requires.in_block))
