use Rattle.dl_recursion.proofs.Common.{◌≡◌, arith, ap, sym, length, take, ◌∙◌}
use Rattle.std.proofs.lemmas.List.{with_items_is}
use Rattle.dl_recursion.specs.Blocks.{AreWidths}
use Rattle.dl_recursion.proofs.BlockSums.{given_made}
use Rattle.dl_recursion.proofs.blocks.given_before.Goals as goal

pub invariant_of-cells : goal.invariant_of-cells
invariant_of-cells c =
    let x = c.args.x.now in
    let w : AreWidths x.low.items x.high.items c.in-Some.widths.items =
    rw (c.as_slice-2.ensures.value, c.as_slice-3.ensures.value, c.in-Some.is) at c.in_ok-widths.ensures in
    let lows : length c.in_ok-lows.lows.items ≡ length x.low.items =
    ap length (c.in_ok-lows.ensures.same ∙ c.as_slice.ensures.value) in
    rw (c.as_slice-4.ensures.value, c.as_slice-5.ensures.value) (record {
      words = record {
        within = omega (arith, w.count, lows);
        low = c.in_ok-lows.ensures.small;
        width = w.small;
      };
    })

pub returns-clause-given : goal.returns-clause-given
returns-clause-given c =
    let x = c.args.x.now in
    let F = c.args.factors.now in
    let end = c.args.end in
    let found = c.if-not-branch.false in
    let low : c.as_slice-4.result.now ≡ x.low.items =
    c.as_slice-4.ensures.value ∙ c.in_ok-lows.ensures.same ∙ c.as_slice.ensures.value in
    let wide : c.as_slice-6.result.now ≡ take end F = c.as_slice-6.ensures.value ∙ c.in_ok-wide.ensures.same in
    let w : AreWidths x.low.items x.high.items c.in-Some.widths.items =
    rw (c.as_slice-2.ensures.value, c.as_slice-3.ensures.value, c.in-Some.is) at c.in_ok-widths.ensures in
    let lows : length c.as_mut_slice-lows.result.now ≡ end =
    ap length c.as_mut_slice-lows.ensures.value ∙ sym c.in_ok-low.low.ok.0 ∙ c.in_ok-low.ensures.len in
    let highs : length c.as_mut_slice-highs.result.now ≡ end =
    ap length c.as_mut_slice-highs.ensures.value ∙ sym c.in_ok-high.high.ok.0 ∙ c.in_ok-high.ensures.len in
    let low_room : length c.product.new.lows ≡ end = c.product.auto.lows ∙ lows in
    let high_room : length c.product.new.highs ≡ end = c.product.auto.highs ∙ highs in
    given_made F x end _ c.as_slice-4.result.now c.as_slice-5.result.now c.as_slice-6.result.now c.product.new.lows c.product.new.highs
    (c.len.ensures ∙ x.low.ok.0) c.requires.alike low (rw c.as_slice-5.ensures.value w) wide
    (with_items_is c.in_ok-low.low c.product.new.lows
    (low_room ∙ sym c.in_ok-low.ensures.len)) (with_items_is c.in_ok-high.high c.product.new.highs
    (high_room ∙ sym c.in_ok-high.ensures.len)) low_room high_room
    (λ n b. c.in_ok-product.ensures.low found n (rw lows b)) (λ n b. c.in_ok-product.ensures.high found n (rw highs b))
