use Rattle.dl_recursion.proofs.Common.{◌≡◌, ◌+◌, length, arith, ap, ◌∙◌, EncloseScaled}
use Rattle.dl_recursion.proofs.Raising.{written}
use Rattle.dl_recursion.proofs.passes.raise_all.Goals as goal

pub returns-clause-round : goal.returns-clause-round
returns-clause-round c t q u r pos is raised was =
    let x = c.args.x.now in
    let low = c.pass-done.new.low in
    let high = c.pass-done.new.high in
    let low_is : c.as_mut_slice.result.now ≡ x.low.items = c.as_mut_slice.ensures.value in
    let high_is : c.as_mut_slice-2.result.now ≡ x.high.items = c.as_mut_slice-2.ensures.value in
    let given : EncloseScaled u x.shift (length c.as_mut_slice.result.now) c.as_mut_slice.result.now c.as_mut_slice-2.result.now =
    rw (low_is, high_is) was in
    let done : EncloseScaled r (x.shift + c.args.down) (length x.low.items) low high =
    rw (← low_is) (c.pass-done.ensures.round t q x.shift u r pos is raised given) in
    rw (
      c.from.ensures,
      written low x.low.items x.low.len (c.pass-done.auto.low ∙ ap length low_is) (omega (arith, x.low.ok.0)),
      written high x.high.items x.high.len (c.pass-done.auto.high ∙ ap length high_is) (omega (arith, x.high.ok.0)),
    ) done
