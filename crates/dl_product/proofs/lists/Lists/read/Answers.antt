use Rattle.dl_product.proofs.Common.{◌+◌, ◌*◌, ◌∙◌, ap, arith, get_or, length, refl, LieFrom}
use Rattle.dl_product.proofs.Apart.{ceil_within, in_window, same_count, start_within}
use Rattle.dl_product.proofs.Reading.{high_from, low_from, low_window, words_alone, words_of}
use Rattle.dl_product.proofs.lists.Lists.read.Goals as goal

pub part-requires : goal.part-requires
part-requires c = low_window c.args.head.lows.now c.args.head.highs.now c.args.head.ends.paired c.args.window.start c.args.window.end
    c.args.step c.requires.window c.requires.apart

pub take_widths-requires : goal.take_widths-requires
take_widths-requires c =
    let lows = c.in_ok-take_multiples.ensures in
    let highs = c.in_ok-take_multiples-2.ensures in
    rw (c.as_slice.ensures.value, c.as_slice-2.ensures.value) (record {
      alike = same_count _ _ _ _ _ c.args.step lows.many highs.many c.part.ensures.long c.part-2.ensures.long;
      order = λ k. rw (
        lows.each k,
        highs.each k,
        c.part.ensures.each (k * c.args.step),
        c.part-2.ensures.each (k * c.args.step),
      ) (c.args.head.ends.paired.order _);
    })

pub invariant_of-result : goal.invariant_of-result
invariant_of-result c =
    let highs = c.in_ok-take_multiples-2.ensures in
    let widths = c.in_ok-take_widths.ensures in
    record {
      words = rw (c.as_slice-lows.ensures.value, c.as_slice-3.ensures.value)
          (words_of c.take_multiples.new.out.items c.take_widths.new.out.items c.take_multiples-2.new.out.items
          (widths.alike ∙ ap length c.as_slice.ensures.value)
          (rw (c.as_slice.ensures.value, c.as_slice-2.ensures.value) at widths.each)
          (λ k. rw (highs.each k, c.part-2.ensures.each (k * c.args.step))
          (c.args.head.ends.small _)));
    }

pub invariant_of-result-2 : goal.invariant_of-result-2
invariant_of-result-2 c =
    let few = c.args.head.ends.few in
    let many = ap length c.as_slice-lows.ensures.value ∙ c.in_ok-take_multiples.ensures.many in
    let within = ceil_within c.args.step (length c.part.result.now) c.requires.some in
    record {
      places = record {
        early = omega (
          arith,
          start_within c.args.step _ _ _ c.requires.some many c.window_of-inner.ensures.early,
          c.part.ensures.long,
          c.requires.window.order,
          c.requires.window.within,
          c.args.head.ends.paired.alike,
          few,
        );
        few = omega (arith, c.part-3.ensures.few, many, within, c.part.ensures.few, few);
      };
      words = words_alone _ (λ k. rw (
        c.part-3.ensures.each k,
        c.as_slice-lows.ensures.value,
        c.in_ok-take_multiples.ensures.each (c.window_of-inner.result.start + k),
        c.part.ensures.each ((c.window_of-inner.result.start + k) * c.args.step),
      ) (omega (arith, c.args.head.ends.paired.order (c.args.window.start + (c.window_of-inner.result.start + k) * c.args.step), c.args.head.ends.small (c.args.window.start + (c.window_of-inner.result.start + k) * c.args.step))));
    }

pub invariant_of-result-3 : goal.invariant_of-result-3
invariant_of-result-3 c =
    let few = c.args.head.ends.few in
    record {
      places = record {
        early = omega (arith, c.requires.window.order, c.requires.window.within, c.args.head.ends.paired.alike, few);
        few = rw (c.as_slice-4.ensures.value, c.in_ok-take_multiples-2.ensures.many) (omega (
          arith,
          ceil_within c.args.step (length c.part-2.result.now) c.requires.some,
          c.part-2.ensures.few,
          c.args.head.ends.paired.alike,
          few,
        ));
      };
      words = rw (c.as_slice-4.ensures.value) (words_alone _
          (λ k. rw (c.in_ok-take_multiples-2.ensures.each k, c.part-2.ensures.each (k * c.args.step))
          (c.args.head.ends.small _)));
    }

pub invariant_of-result-4 : goal.invariant_of-result-4
invariant_of-result-4 c = record {
  widths = rw (c.as_slice-lows.ensures.value, c.as_slice-3.ensures.value, c.as_slice-4.ensures.value)
      (rw (c.as_slice.ensures.value, c.as_slice-2.ensures.value) at c.in_ok-take_widths.ensures.each);
  some = c.requires.some;
}

pub returns : goal.returns
returns c =
    let h = c.args.head in
    let w = c.args.window in
    let step = c.args.step in
    let inner = c.window_of-inner in
    let lows : LieFrom w.start step (λ k. get_or c.as_slice-lows.result.now k 0) (λ x. get_or h.lows.now x 0) =
    rw c.as_slice-lows.ensures.value (low_from h.lows.now h.highs.now h.ends.paired w.start w.end step c.requires.window
    c.requires.apart c.take_multiples.new.out.items
    (λ k. c.in_ok-take_multiples.ensures.each k ∙ c.part.ensures.each (k * step))) in
    record {
      ends = record {
        cells = lows;
        low = in_window w.start step inner.result.start inner.result.end c.as_slice-lows.result.now c.part-3.result.now
            (λ x. get_or h.lows.now x 0) c.requires.some inner.ensures c.part-3.ensures.each lows;
        high = rw c.as_slice-4.ensures.value (high_from h.lows.now h.highs.now h.ends.paired w.start w.end step
            c.requires.window c.requires.apart c.take_multiples-2.new.out.items
            (λ k. c.in_ok-take_multiples-2.ensures.each k ∙ c.part-2.ensures.each (k * step)));
      };
      step = refl;
    }
