-- What no ask leads to, written by hand: a comma and quote marks in an ask, and the last digits of the greatest number.
use Rattle.dl_report.proofs.Common.{◌≡◌, refl, Beyond, Absent, row_record, end_text, last_digits}
use Rattle.std.specs.Prelude.{codes}

quoted : row_record 6 (record { ask = codes "a,\"b"; low = Absent; high = Beyond }) ≡ codes "\"a,\"\"b\",-,beyond\n"
unfolding end_text
quoted = refl

greatest : last_digits 9 340282366920938463463374607431768211455 ≡ codes "768211455"
unfolding last_digits
greatest = refl
