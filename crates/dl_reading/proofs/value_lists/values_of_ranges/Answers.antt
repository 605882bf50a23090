-- One range more.
use Rattle.dl_reading.proofs.Common.{refl, ap, ◌∙◌, flat_map, spanned_in, take_all, at_item, IsRange, Range, Span}
use Rattle.dl_reading.proofs.InTurn.{joined_next}
use Rattle.dl_reading.proofs.Spanned.{too_many}
use Rattle.dl_reading.proofs.value_lists.values_of_ranges.Goals as goal

pub returns-in-Err-clause-long : goal.returns-in-Err-clause-long
returns-in-Err-clause-long c =
    too_many c.args.bounds c.args.ranges.now c.each.range-index c.each-item.result c.each.values.items c.in-Err.fault c.each-test.true
    c.each-item.is c.each.invariant.values c.in-Err.ensures.long

pub push_spanned-requires-clause-range : goal.push_spanned-requires-clause-range
push_spanned-requires-clause-range c =
    at_item (λ (pair : Range × Span). IsRange pair.0) _ _ _ _ refl c.requires.ranges c.each-test.true c.each-item.is

pub push_spanned-requires-clause-room : goal.push_spanned-requires-clause-room
push_spanned-requires-clause-room c = c.each.invariant.few

pub each-preserved : goal.each-preserved
each-preserved c = record {
  values = joined_next spanned_in _ _ _ c.each-test.true c.each-item.is c.each.invariant.values c.in_default.ensures.values;
  few = c.in_default.ensures.few;
}

pub returns-clause-values : goal.returns-clause-values
returns-clause-values c = c.each.invariant.values ∙ ap (flat_map spanned_in) (take_all _ _ c.each-test.false)

pub returns-clause-few : goal.returns-clause-few
returns-clause-few c = c.each.invariant.few
