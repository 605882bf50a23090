-- One amount more.
use Rattle.dl_reading.proofs.Common.{Fraction, Span, number_of, flaws_of_amount}
use Rattle.dl_reading.proofs.Agreeing.{read_no_part, read_next, read_end}
use Rattle.dl_reading.proofs.value_lists.grid_amounts.Goals as goal

pub spanned-init : goal.spanned-init
spanned-init c =
    read_no_part 7 (λ (pair : Fraction × Span). flaws_of_amount c.args.most c.args.bs pair.0 pair.1)
    (λ (pair : Fraction × Span). number_of c.args.bs pair.0) c.new-made.ensures.items c.none-flaws.ensures

pub spanned-preserved : goal.spanned-preserved
spanned-preserved c =
    read_next 7 (λ (pair : Fraction × Span). flaws_of_amount c.args.most c.args.bs pair.0 pair.1)
    (λ (pair : Fraction × Span). number_of c.args.bs pair.0) c.args.spanned.now c.spanned.value-index c.spanned-test.true
    c.spanned-item.is c.spanned.invariant c.grid_amount-amount.ensures c.in_ok-push.ensures.items c.or-flaws.ensures

pub returns : goal.returns
returns c =
    read_end 7 (λ (pair : Fraction × Span). flaws_of_amount c.args.most c.args.bs pair.0 pair.1)
    (λ (pair : Fraction × Span). number_of c.args.bs pair.0) c.args.spanned.now c.spanned.value-index c.spanned-test.false
    c.from_vec-part.ensures c.spanned.invariant
