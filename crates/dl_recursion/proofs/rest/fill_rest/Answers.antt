use Rattle.dl_recursion.proofs.Common.{◌≡◌, ◌-◌, length, arith, refl, ◌∙◌, AreFalling, AreLast}
use Rattle.dl_recursion.proofs.rest.fill_rest.Goals as goal

pub returns-clause-first : goal.returns-clause-first
returns-clause-first c t parts positive within weight first =
    let x = c.args.x.now in
    let e = c.in_ok-fill.ensures in
    let a = c.args.before in
    let b = c.args.after in
    let reach = c.args.reach in
    let n : c.len-n.result ≡ length x.low.items = c.len-n.ensures ∙ x.low.ok.0 in
    let falling : AreFalling parts a b c.args.q reach.amount (length x.low.items) = record {
      reach = within;
      falling = rw (← weight, ← n) (c.if-not-is_falling.ensures.falling refl);
    } in
    let last : AreLast x.high.items (length x.low.items - reach.amount) c.greatest_from-high.result =
    rw (c.as_slice.ensures.value, n) at c.greatest_from-high.ensures.last in
    record {
      cells = e.cells;
      shift = omega (arith, first.shift, e.shift, c.requires.few);
      sound = e.sound;
      round = λ r F.
          e.round parts a b c.args.q reach.amount r falling last positive c.requires.room.divisor F (first.round r F);
    }
