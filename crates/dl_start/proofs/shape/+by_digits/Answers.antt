use Rattle.dl_start.proofs.Common.{ℕ, ◌≡◌, suc, ◌+◌, ◌-◌, arith, subst, sym, ◌∙◌, whole, ◌over◌, over_le, one_pos, plus_zero, Scaled, IsWithin}
use Rattle.dl_start.proofs.Shares.{digit_none, digit_one}
use Rattle.dl_start.proofs.shape.+by_digits.Goals as goal

one_more : (ratio : ℕ → ℕ) (k m : ℕ) → suc k ≡ m → (x : Scaled) → IsWithin (ratio (suc k)) x → IsWithin (ratio m) x
one_more ratio k m e x h = subst (λ n. IsWithin (ratio n) x) e h

pub returns-then-digits-eq0-clause-holds : goal.returns-then-digits-eq0-clause-holds
returns-then-digits-eq0-clause-holds t c x one any =
    any (c.args.num over c.args.den) (over_le c.args.num c.args.den 1 1 (omega arith) one_pos (omega arith))

pub returns-then-digits-eq0-clause-narrow : goal.returns-then-digits-eq0-clause-narrow
returns-then-digits-eq0-clause-narrow t c ratio next exact any = rw c.if-digits-eq0.true any

pub returns-then-twice-den-clause-holds : goal.returns-then-twice-den-clause-holds
returns-then-twice-den-clause-holds t c x one any =
    let n = c.args.num in
    let d = c.args.den in
    c.root.ensures.holds (n over d) ((n + n) over d) (whole 0) x (sym (plus_zero _ ∙ digit_none n d (omega arith)))
    (c.by_digits-rest.ensures.holds x one any) (c.no_start.ensures.holds x)

pub returns-then-twice-den-clause-narrow : goal.returns-then-twice-den-clause-narrow
returns-then-twice-den-clause-narrow t c ratio next exact any =
    one_more ratio (c.args.digits - 1) c.args.digits (omega arith) _ (c.root.ensures.narrow (ratio (c.args.digits - 1)) _ (next (c.args.digits - 1))
    (c.by_digits-rest.ensures.narrow ratio next exact any) c.no_start.ensures.exact)

pub returns-clause-holds : goal.returns-clause-holds
returns-clause-holds t c x one any =
    let n = c.args.num in
    let d = c.args.den in
    c.root-2.ensures.holds (n over d) ((n + n - d) over d) (whole 1) x
    (sym (digit_one n d (omega arith) c.if-twice-den.false)) (c.by_digits-rest-2.ensures.holds x one any) one

pub returns-clause-narrow : goal.returns-clause-narrow
returns-clause-narrow t c ratio next exact any =
    one_more ratio (c.args.digits - 1) c.args.digits (omega arith) _ (c.root-2.ensures.narrow (ratio (c.args.digits - 1)) _ (next (c.args.digits - 1))
    (c.by_digits-rest-2.ensures.narrow ratio next exact any) exact)
