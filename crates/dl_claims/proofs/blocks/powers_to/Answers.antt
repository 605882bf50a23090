use Rattle.std.proofs.Math.Nat.{le_trans}
use Rattle.dl_claims.proofs.Common.{ℕ, suc, ◌≡◌, ◌≤◌, ◌+◌, length, arith, refl, ap, power, size_of, size_within, leb-true, ltb-true}
use Rattle.dl_claims.proofs.EndLists.{one_longer}
use Rattle.dl_claims.proofs.PowerGrids.{none_between, no_grids, all_more, more_between, few_in, no_claim, next_at}
use Rattle.dl_claims.proofs.blocks.powers_to.Goals as goal

two_of : {n m i : ℕ} → n ≡ m → m ≡ i + 1 → 1 ≤ i → 2 ≤ n
two_of same many some = omega (arith, same, many, some)

all_of : {n i m : ℕ} → n ≡ i + 1 → m ≤ i → i ≤ m → n ≡ suc m
all_of many past inside = omega (arith, many, past, inside)

pub zero-requires : goal.zero-requires
zero-requires g c =
    let size = size_of c.args.base.now c.cells.ensures.grid in
    (ltb-true _ _ refl, size_within size (leb-true 1 1 refl) (le_trans c.requires.some c.requires.within))

pub loop-claims-init : goal.loop-claims-init
loop-claims-init g c =
    let none = c.new-powers.ensures.items in
    let one = one_longer c.new-powers.result.items _ _ c.in_ok-push.ensures.items (ap length none) in
    record {
      many = one_longer c.push.new.self.items _ _ c.in_ok-push-2.ensures.items one;
      few = all_more c.push.new.self.items c.push-2.new.self.items c.in_ok-trimmed.field-0 c.args.cells
          c.in_ok-push-2.ensures.items
          (all_more c.new-powers.result.items c.push.new.self.items c.in_ok-zero.field-0 c.args.cells
          c.in_ok-push.ensures.items (no_grids c.new-powers.result.items c.args.cells none)
          (rw c.in_ok-zero.ensures.cells c.requires.some))
          c.in_ok-trimmed.ensures.few;
      powers = λ f q of_f.
          more_between c.args.cells 1 (power f) c.push.new.self.items c.push-2.new.self.items c.in_ok-trimmed.field-0
          c.in_ok-push-2.ensures.items one
          (more_between c.args.cells 0 (power f) c.new-powers.result.items c.push.new.self.items c.in_ok-zero.field-0
          c.in_ok-push.ensures.items (ap length none)
          (none_between c.args.cells (power f) c.new-powers.result.items none)
          (no_claim c.in_ok-zero.field-0 c.args.cells f c.in_ok-zero.ensures.low c.in_ok-zero.ensures.high))
          (c.in_ok-trimmed.ensures.between f of_f);
    }

pub next_power-requires : goal.next_power-requires
next_power-requires g c =
    let size = size_within (size_of c.args.base.now c.cells.ensures.grid) c.requires.some c.requires.within in
    let two = two_of (ap length c.as_slice.ensures.value) c.loop-claims.invariant.many c.loop-claims.auto.claims in
    (ltb-true _ _ refl, (size, (two, few_in c.as_slice.ensures.value c.loop-claims.invariant.few)))

pub loop-claims-preserved : goal.loop-claims-preserved
loop-claims-preserved g c = record {
  many = one_longer c.loop-claims.powers.items _ _ c.in_ok-push-3.ensures.items c.loop-claims.invariant.many;
  few = all_more c.loop-claims.powers.items c.push-in-loop-claims.new.self.items c.in_ok-next.next c.args.cells
      c.in_ok-push-3.ensures.items c.loop-claims.invariant.few c.in_ok-next.ensures.few;
  powers = λ f q of_f.
      let before = c.loop-claims.invariant.powers f q of_f in
      more_between c.args.cells (length c.loop-claims.powers.items) (power f) c.loop-claims.powers.items
      c.push-in-loop-claims.new.self.items c.in_ok-next.next c.in_ok-push-3.ensures.items refl before
      (next_at c.args.cells f c.as_slice.result.now c.loop-claims.powers.items c.in_ok-next.next
      c.as_slice.ensures.value (c.in_ok-next.ensures.between f q) before);
}

pub returns-clause-many : goal.returns-clause-many
returns-clause-many g c =
    all_of c.loop-claims.invariant.many c.loop-claims-test.false (c.loop-claims.auto.claims-end c.requires.one)

pub trimmed-requires : goal.trimmed-requires
trimmed-requires g c = (ltb-true _ _ refl, (c.requires.some, c.requires.within))
