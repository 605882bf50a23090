use Rattle.dl_recursion.proofs.Common.{◌≡◌, ◌+◌, ◌≤◌, length, ◌∷◌, [], ◌++◌, arith, ◌∙◌, length-append, add-one}
use Rattle.dl_recursion.proofs.Grow.{cells_pushed}
use Rattle.dl_recursion.proofs.Falling.{rest_pushed, last_pushed}
use Rattle.dl_recursion.proofs.rest.fill.Goals as goal

pub cells-preserved : goal.cells-preserved
cells-preserved c =
    let i = c.cells.invariant in
    let x = c.cells.x in
    let h = c.args.high in
    let low_pushed : c.push.new.self.items ≡ x.low.items ++ 0 ∷ [] = c.in_ok-push.ensures.items in
    let high_pushed : c.push-in-cells.new.self.items ≡ x.high.items ++ h ∷ [] = c.in_ok-push-2.ensures.items in
    let high_n : length x.high.items ≡ c.cells.n = i.sound.alike ∙ i.count in
    let more : length (x.low.items ++ 0 ∷ []) ≡ c.cells.n + 1 = simp length-append (omega (arith, i.count)) in
    let start : length c.args.x.now.low.items ≤ c.cells.n =
    omega (arith, c.cells.auto.n, c.len-n.ensures, c.args.x.now.low.ok.0) in
    record {
      sound = rw (low_pushed, high_pushed) (cells_pushed x.low.items x.high.items x.first 0 h i.sound (omega arith)
          c.requires.small);
      count = rw low_pushed more;
      shift = i.shift;
      last = λ top l. rw high_pushed (last_pushed x.high.items c.cells.n top h high_n (i.last top l));
      round = λ parts a b q top r falling last amounts divisor follows enclosed.
          rw (low_pushed, high_pushed, add-one)
          (rest_pushed parts a b q top r (length c.args.x.now.low.items) c.cells.n h x.shift x.low.items x.high.items
          c.requires.some start falling (i.last top last) amounts divisor follows i.count high_n
          (i.round parts a b q top r falling last amounts divisor follows enclosed));
    }

pub returns-clause-round : goal.returns-clause-round
returns-clause-round c parts a b q top r falling last amounts divisor follows enclosed =
    let start : c.len-n.result ≤ c.args.cells = omega (arith, c.requires.few, c.len-n.ensures, c.args.x.now.low.ok.0) in
    let e : c.cells.n ≡ c.args.cells = omega (arith, c.cells-test.false, c.cells.auto.n-end start) in
    rw (← e) (c.cells.invariant.round parts a b q top r falling last amounts divisor follows enclosed)
