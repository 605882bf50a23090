-- The number is that of the whole text, and digits that pass the limit at some byte pass it in the whole.
use Rattle.dl_frac.proofs.Common.{◌≡◌, ◌<◌, ◌+◌, ◌||◌, true, take, drop, ap, sym, subst, ◌==◌, nat_lt, take-append-drop, take_more, digit_count, number_in, IsReadingOf}
use Rattle.dl_frac.proofs.NumeralLaws.{too_many}
use Rattle.dl_frac.proofs.numerals.ratio.Goals as goal

pub bytes-init : goal.bytes-init
bytes-init c = c.new-read.ensures c.args.digits

pub returns-in_err-read-clause-bad : goal.returns-in_err-read-clause-bad
returns-in_err-read-clause-bad c =
    let text = c.args.text.now in
    let i = c.bytes.byte-index in
    let far : c.args.digits < digit_count (take (i + 1) text) =
    subst (λ t. c.args.digits < digit_count t) (sym (take_more text i 0 c.bytes-test.true))
    (c.in_err-read.ensures.err (take i text) c.bytes.invariant) in
    let many : nat_lt c.args.digits (digit_count text) ≡ true =
    subst (λ t. nat_lt c.args.digits (digit_count t) ≡ true) (take-append-drop (i + 1) text)
    (too_many c.args.digits (take (i + 1) text) (drop (i + 1) text) far) in
    (λ _. ap (λ b. b || number_in text == 0) many, λ _. c.from_residual.ensures.0)

pub bytes-preserved : goal.bytes-preserved
bytes-preserved c =
    let text = c.args.text.now in
    let i = c.bytes.byte-index in
    subst (λ t. IsReadingOf c.args.digits t c.in_ok-read.read) (sym (take_more text i 0 c.bytes-test.true))
    (c.in_ok-read.ensures.ok (take i text) c.bytes.invariant)
