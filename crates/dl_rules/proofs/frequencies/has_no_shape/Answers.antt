-- The shape is whole where the numerator is 1.
use Rattle.dl_rules.proofs.Common.{◌≡◌, ◌∙◌, ◌==◌, ◌&&◌, ◌||◌, not, false, refl, sym, ap₂, ne_eqb}
use Rattle.dl_rules.proofs.Shapes.{no_shape}
use Rattle.dl_rules.proofs.frequencies.has_no_shape.Goals as goal

pub returns-then-bounds : goal.returns-then-bounds
returns-then-bounds c =
    let v = c.args.variation in
    let some : (v.num == 0) ≡ false = ne_eqb v.num 0 (λ e. c.if-num-eq0.false (c.num.ensures.part ∙ e)) in
    rw c.num-then-bounds.ensures.part (ap₂ (λ a b. a || (b && not (v.num == 1))) (sym some) (sym c.if-bounds.true)
    ∙ no_shape v v.num c.args.bounds.whole_shapes refl)
