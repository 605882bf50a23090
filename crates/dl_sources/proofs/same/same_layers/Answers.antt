use Rattle.dl_sources.proofs.Common.{◌≡◌, length, arith, refl, same_lists}
use Rattle.dl_sources.proofs.same.same_layers.Goals as goal

pub returns : goal.returns
returns c =
    let many : length c.args.a.now ≡ length c.args.b.now = omega (arith, c.if-a-b.false) in (
      λ h. same_lists c.args.a.now c.args.b.now many (λ k d inside. c.loop-i.invariant k d (omega (arith, inside))),
      λ e. refl,
    )
