-- Probabilities that do not sum to 1, which is a flaw where they are fine.
use Rattle.dl_reading.proofs.Common.{◌≡◌, ◌∙◌, List, Option, ap, ap₂, at_if, sum_at, spans, Fraction, Span, Weights, Shares, shares_at, weights_over}
use Rattle.dl_reading.proofs.Agreeing.{agree_same}
use Rattle.dl_reading.proofs.Shared.{breaks_one, other_weights}
use Rattle.dl_reading.proofs.shares.shares.Goals as goal

shares_as : (l : Shares) (xs : List Fraction) (span : Span) → l.values ≡ xs → l.weights ≡ weights_over xs → l.span ≡ span
    → l ≡ shares_at xs span
shares_as l xs span values weights at_span =
    ap₂ (λ (vs : List Fraction) (ws : Option Weights). record { values = vs; weights = ws; span = l.span }) values weights
    ∙ ap (λ (p : Span). record { values = xs; weights = weights_over xs; span = p }) at_span

pub returns-in-Err-NotOne-clause-read : goal.returns-in-Err-NotOne-clause-read
returns-in-Err-NotOne-clause-read c =
    let xs = c.args.values.items in
    let made = c.weighed-in-Err-NotOne.ensures in
    let other = (rw (c.in-Err-NotOne.field-0-is, c.deref.ensures.value) at c.in-Err-NotOne.ensures.weights).1 in
    let sum = c.span_if-sum.ensures ∙ ap (λ b. at_if b c.args.span) (rw c.deref-in-Err-NotOne.ensures.value at c.is_fine.ensures)
    ∙ breaks_one c.args.bounds.parts xs c.args.span other in
    record {
      first = rw (made.flaws ∙ ap sum_at sum) (agree_same (spans (sum_at _)));
      right = λ clean. shares_as _ xs c.args.span made.values (made.weights ∙ other_weights xs other) made.span;
    }
