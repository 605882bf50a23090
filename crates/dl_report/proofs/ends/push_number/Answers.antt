use Rattle.dl_report.proofs.Common.{rules, ◌%◌, ◌^◌, ◌/◌, ◌∙◌, arith, subst, one-le-pow, codes, decimal, last_digits, IsAscii, ◌≤◌, pow-le-pow_right, on_ok_weaker}
use Rattle.dl_report.proofs.Ascii.{with_digits_ascii}
use Rattle.dl_report.proofs.Digits.{rest_digits}
use Rattle.dl_report.proofs.Joined.{three}
use Rattle.dl_report.proofs.ends.push_number.Goals as goal

pub nonzero_div-number : goal.nonzero_div-number
nonzero_div-number c = omega (arith, c.pow-one.ensures, one-le-pow c.args.digits 10 (omega arith))

pub nonzero_rem-number : goal.nonzero_rem-number
nonzero_rem-number c = omega (arith, c.pow-one.ensures, one-le-pow c.args.digits 10 (omega arith))

pub overflow_cast-number : goal.overflow_cast-number
overflow_cast-number c =
    let power = one-le-pow c.args.digits 10 (omega arith) in
    let most : 10 ^ c.args.digits ≤ 10 ^ 9 =
    pow-le-pow_right {n = 10} (omega arith) {i = c.args.digits} {j = 9} (omega (arith, c.requires)) in
    omega (arith, c.pow-one.ensures, power, most)

pub returns-clause-appends : goal.returns-clause-appends
returns-clause-appends c =
    on_ok_weaker c.push_digits.result (λ e. e ∙ rw (
      c.in_ok-extend_from_slice.ensures.items,
      c.in_ok-push_whole.ensures.appends,
      c.pow-one.ensures,
    ) (three c.args.text.now.items _ (codes ".")
    (last_digits c.args.digits c.args.number))) (rw (c.pow-one.ensures, rest_digits c.args.digits c.args.number) at c.push_digits.ensures)

pub returns-clause-ascii : goal.returns-clause-ascii
returns-clause-ascii c =
    let whole = with_digits_ascii c.args.digits c.args.number
    (subst (λ power. IsAscii (decimal (c.args.number / power))) c.pow-one.ensures
    c.in_ok-push_whole.ensures.ascii) in
    search rules
