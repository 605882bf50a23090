-- Up to a slash the text so far is the first part; without one it is a decimal or a percent.
use Rattle.dl_frac.proofs.Common.{◌≡◌, ◌<◌, ◌+◌, true, false, take, drop, sym, subst, refl, list_any, take-append-drop, take_more, is_slash, digit_count, is_bad, IsReadingOf}
use Rattle.std.proofs.lemmas.List.{take_all}
use Rattle.dl_frac.proofs.NumeralLaws.{early_bad, slash_value_at, slash_bad_at, plain_value, plain_bad, front_push, within_limit}
use Rattle.dl_frac.proofs.numerals.numeral.Goals as goal

pub bytes-init : goal.bytes-init
bytes-init c = record { reads = c.new-read.ensures c.args.digits; whole = refl }

pub returns-then-byte-eq47-clause-value : goal.returns-then-byte-eq47-clause-value
returns-then-byte-eq47-clause-value c =
    rw (
      ← slash_value_at c.args.text.now c.bytes.at c.bytes-test.true c.if-byte-eq47.true c.bytes.invariant.whole,
      ← c.bytes.invariant.reads.number,
    ) c.ratio.ensures.value

pub returns-then-byte-eq47-clause-bad : goal.returns-then-byte-eq47-clause-bad
returns-then-byte-eq47-clause-bad c =
    rw (
      ← slash_bad_at c.args.text.now c.bytes.at c.bytes-test.true c.if-byte-eq47.true c.bytes.invariant.whole
          c.args.digits,
      within_limit c.args.digits _ c.bytes.invariant.reads.within,
    ) c.ratio.ensures.bad

pub returns-in_err-read-clause-bad : goal.returns-in_err-read-clause-bad
returns-in_err-read-clause-bad c =
    let text = c.args.text.now in
    let i = c.bytes.at in
    let far : c.args.digits < digit_count (take (i + 1) text) =
    subst (λ t. c.args.digits < digit_count t) (sym (take_more text i 0 c.bytes-test.true))
    (c.in_err-read.ensures.err (take i text) c.bytes.invariant.reads) in
    let front : list_any is_slash (take (i + 1) text) ≡ false =
    front_push text i c.bytes-test.true c.bytes.invariant.whole c.if-byte-eq47.false in
    let bad : is_bad c.args.digits text ≡ true =
    subst (λ t. is_bad c.args.digits t ≡ true) (take-append-drop (i + 1) text)
    (early_bad c.args.digits (take (i + 1) text) (drop (i + 1) text) front far) in
    (λ _. bad, λ _. c.from_residual.ensures.0)

pub returns-clause-value : goal.returns-clause-value
returns-clause-value c =
    let text = c.args.text.now in
    let all : take c.bytes.at text ≡ text = take_all c.bytes.at text c.bytes-test.false in
    let none = rw all at c.bytes.invariant.whole in
    rw (plain_value text none) (c.decimal.ensures.ok text (rw all at c.bytes.invariant.reads))

pub returns-clause-bad : goal.returns-clause-bad
returns-clause-bad c =
    let text = c.args.text.now in
    let all : take c.bytes.at text ≡ text = take_all c.bytes.at text c.bytes-test.false in
    let none = rw all at c.bytes.invariant.whole in
    rw (plain_bad c.args.digits text none) (c.decimal.ensures.bad text (rw all at c.bytes.invariant.reads))

pub bytes-preserved : goal.bytes-preserved
bytes-preserved c =
    let text = c.args.text.now in
    let i = c.bytes.at in
    record {
      reads = subst (λ t. IsReadingOf c.args.digits t c.in_ok-read.read)
          (sym (take_more text i 0 c.bytes-test.true)) (c.in_ok-read.ensures.ok (take i text) c.bytes.invariant.reads);
      whole = front_push text i c.bytes-test.true c.bytes.invariant.whole c.if-byte-eq47.false;
    }
