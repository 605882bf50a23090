use Rattle.dl_cert.proofs.Common.{ℕ, ◌≡◌, ◌+◌, ◌-◌, arith, refl, length, true, false}
use Rattle.dl_cert.proofs.Endings.{ends_badly, no_step_ends, other_end, verified, few_steps, by_targets}
use Rattle.dl_cert.proofs.checking.last_grid.Goals as goal

pub returns-then-count-eq0 : goal.returns-then-count-eq0
returns-then-count-eq0 c =
    let none : length c.args.so_far.now.offsets.items ≡ 0 = omega (arith, c.len-count.ensures, c.if-count-eq0.true) in
    (c.requires.covered, rw none at (ends_badly c.requires.so_far (no_step_ends c.requires.so_far none)))

pub overflow_cast-result : goal.overflow_cast-result
overflow_cast-result c = omega (arith, few_steps c.args.text.now c.requires.so_far)

pub overflow_cast-count : goal.overflow_cast-count
overflow_cast-count c = omega (arith, few_steps c.args.text.now c.requires.so_far)

pub returns-then-not-is_target : goal.returns-then-not-is_target
returns-then-not-is_target c =
    let n : ℕ = c.len-count.result - 1 in
    let is : n + 1 ≡ length c.args.so_far.now.offsets.items = omega (arith, c.len-count.ensures, c.if-count-eq0.false) in
    let count : length c.args.so_far.now.offsets.items ≡ c.len-count.result = omega (arith, c.len-count.ensures) in (
      c.requires.covered,
      rw count at (ends_badly c.requires.so_far (other_end c.requires.so_far n is (λ all. clash (c.if-not-is_target.ensures.1
          ((by_targets c.args.plan.now c.args.targets.now _ c.deref.result.now n c.requires.targets c.deref.ensures.value).1
          all))))),
    )
  where
    clash : false ≡ true → ⊥
    clash e = cc

pub returns : goal.returns
returns c =
    let n : ℕ = c.len-count.result - 1 in
    let is : n + 1 ≡ length c.args.so_far.now.offsets.items = omega (arith, c.len-count.ensures, c.if-count-eq0.false) in
    let so_far = c.requires.so_far.so_far in (
      c.requires.covered,
      verified c.requires.so_far n is (c.in_ok-grid.ensures.cells c.args.so_far.now.labels.items _ (rw c.deref-2.ensures.value so_far))
          ((by_targets c.args.plan.now c.args.targets.now _ c.deref.result.now n c.requires.targets c.deref.ensures.value).0
          (c.if-not-is_target.ensures.0 refl)),
    )
