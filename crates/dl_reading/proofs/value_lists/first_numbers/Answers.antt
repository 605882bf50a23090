-- One item more.
use Rattle.dl_reading.proofs.Common.{refl, [], ◌∷◌, at_item, All-append, All-cons, All-nil, Fraction, Span, HasPartsOf18Digits, IsFormedItem}
use Rattle.dl_reading.proofs.Agreeing.{read_no_part, read_made, read_next, read_end}
use Rattle.dl_reading.proofs.ItemRanges.{small_modest}
use Rattle.dl_reading.proofs.Single.{first_flaws, first_value}
use Rattle.dl_reading.proofs.value_lists.first_numbers.Goals as goal

pub items-init : goal.items-init
items-init c = record {
  read = read_no_part 1 first_flaws first_value c.in_ok-made.ensures.items c.none-flaws.ensures;
  modest = rw c.in_ok-made.ensures.items (All-nil (λ (pair : Fraction × Span). HasPartsOf18Digits pair.0));
}

pub number-one-requires : goal.number-one-requires
number-one-requires c = (at_item IsFormedItem _ _ _ _ refl c.requires c.items-test.true c.item-item.is).from

pub items-preserved : goal.items-preserved
items-preserved c = record {
  read = read_next 1 first_flaws first_value c.args.items.now c.items.item-index c.items-test.true c.item-item.is
      c.items.invariant.read (read_made (λ (x : Fraction). (x, c.item-item.result.span)) c.number-one.ensures.read)
      c.in_ok-push.ensures.items c.or-flaws.ensures;
  modest =
      let P : Fraction × Span → Type 0 = λ pair. HasPartsOf18Digits pair.0 in
      let x : Fraction × Span = (c.number-one.result.part, c.item-item.result.span) in
      rw c.in_ok-push.ensures.items (All-append P c.items.made.items (x ∷ []) c.items.invariant.modest
      (All-cons P x [] (small_modest c.number-one.result.part c.number-one.ensures.small) (All-nil P)));
}

pub returns-clause-read : goal.returns-clause-read
returns-clause-read c = read_end 1 _ _ _ _ c.items-test.false c.from_vec-part.ensures c.items.invariant.read
