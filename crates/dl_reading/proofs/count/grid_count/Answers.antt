-- Listed counts, with as many probabilities.
use Rattle.dl_reading.proofs.Common.{length, ap, length-map, Fraction, ValueList, spanned_values}
use Rattle.dl_reading.specs.declared.grid.GridCount.TheVariants.{Listed}
use Rattle.dl_reading.proofs.Beside.{beside_read}
use Rattle.dl_reading.proofs.count.grid_count.Goals as goal

pub returns-in_ok-probs-in-Listed : goal.returns-in_ok-probs-in-Listed
returns-in_ok-probs-in-Listed c =
    let each = length-map {B = Fraction} (spanned_values c.in-Listed.counts) (λ pair. pair.0) in
    rw c.in-Listed.is (rw each at (beside_read c.args.bounds (λ (v : ValueList). length v.values) Listed c.in-Listed.probs
    c.in_ok-counts-in-Listed.ensures (ap length c.as_slice.ensures) c.in_ok-probs-in-Listed.ensures c.or-flaws.ensures))
