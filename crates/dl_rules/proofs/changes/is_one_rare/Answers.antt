-- The parts of the shape and of the mean, multiplied out.
use Rattle.dl_rules.proofs.Common.{◌≡◌, ◌∙◌, ◌+◌, ◌*◌, ◌&&◌, nat_lt, true, false, sym, ap, arith, lt-ltb, le-ltb, num_pos}
use Rattle.dl_rules.proofs.Shapes.{one_rare}
use Rattle.dl_rules.proofs.changes.is_one_rare.Goals as goal

pub returns-then-num-den : goal.returns-then-num-den
returns-then-num-den c =
    let r = c.args.shape in
    let v = c.args.mean in
    let below : nat_lt r.num r.den ≡ true =
    lt-ltb r.num r.den (omega (arith, c.if-num-den.true, c.num-5.ensures.part, c.den-3.ensures.part)) in
    rw (
      c.num.ensures.part,
      c.num-2.ensures.part,
      c.num-3.ensures.part,
      c.den.ensures.part,
      c.num-4.ensures.part,
      c.den-2.ensures.part,
    ) (ap (λ b. b && nat_lt (r.num * v.num * 16) (r.num * v.den + v.num * r.den)) (sym below)
    ∙ one_rare r v (num_pos r c.requires.above))

pub returns-else-num-den : goal.returns-else-num-den
returns-else-num-den c =
    let r = c.args.shape in
    let v = c.args.mean in
    let not_below : nat_lt r.num r.den ≡ false =
    le-ltb r.num r.den (omega (arith, c.if-num-den.false, c.num-5.ensures.part, c.den-3.ensures.part)) in
    rw (c.num-5.ensures.part, c.den-3.ensures.part)
    (not_below ∙ sym (ap (λ b. b && nat_lt (r.num * v.num * 16) (r.num * v.den + v.num * r.den)) not_below)
    ∙ one_rare r v (num_pos r c.requires.above))
