use Rattle.dl_totals.proofs.Common.{◌≡◌, ◌<◌, ◌∷◌, ◌++◌, [], length, arith, sym, ap, subst, ◌∙◌, nat_eq, All-append, All-cons, All-nil, AreSumsOfChosen}
use Rattle.std.specs.List.{All}
use Rattle.dl_totals.proofs.Added.{long_enough}
use Rattle.dl_totals.proofs.Apart.{appended}
use Rattle.dl_totals.proofs.Singles.{each_more, one_sum, seen_same}
use Rattle.dl_totals.proofs.shortest.singles.Goals as goal
use Rattle.dl_totals.proofs.shortest.singles.Goals.{then-at-skip+in_ok-truncate+in_ok-push, else-at-skip}

pub units-preserved : goal.units-preserved
units-preserved g c = elim c.if-at-skip.branch [
  | then-at-skip+in_ok-truncate+in_ok-push w ↦
      let items = ap (λ v. v.items) w.sums-is ∙ w.in_ok-push.ensures.items in
      let here : c.units.at < length c.args.units.now = omega (arith, c.units-test.true, c.units.auto.at-end) in
      let unit = one_sum c.args.cells c.args.units.now c.units.at w.index-units-at.result w.in_ok-truncate.field-0 here
      w.index-units-at.is
      (long_enough c.args.units.now c.args.cells c.units.at w.index-units-at.result here w.index-units-at.is
      c.requires.in_each) w.in_ok-truncate.ensures in
      record {
        inside = omega (arith, c.units.auto.at-end, c.units-test.true);
        long = subst (All (λ h. length h ≡ c.args.cells)) (sym items)
            (All-append (λ h. length h ≡ c.args.cells) c.units.sums.items (w.in_ok-truncate.field-0 ∷ [])
            c.units.invariant.long (All-cons (λ h. length h ≡ c.args.cells) w.in_ok-truncate.field-0 [] unit.cells
            (All-nil (λ h. length h ≡ c.args.cells))));
        tests = c.units.invariant.tests ++ nat_eq c.units.at ∷ [];
        are = subst (λ t. AreSumsOfChosen c.args.cells c.args.units.now t (c.units.invariant.tests ++ nat_eq c.units.at ∷ []))
            (sym items) (appended c.args.cells c.args.units.now c.units.sums.items c.units.invariant.tests
            w.in_ok-truncate.field-0 (nat_eq c.units.at) c.units.invariant.are unit);
        each = each_more c.units.invariant.tests c.units.at c.args.skip c.units.invariant.each w.if-at-skip.true;
      }
  | else-at-skip w ↦
      let items = ap (λ v. v.items) w.sums-is in
      record {
        inside = omega (arith, c.units.auto.at-end, c.units-test.true);
        long = subst (All (λ h. length h ≡ c.args.cells)) (sym items) c.units.invariant.long;
        tests = c.units.invariant.tests;
        are = subst (λ t. AreSumsOfChosen c.args.cells c.args.units.now t c.units.invariant.tests) (sym items)
            c.units.invariant.are;
        each = λ i. c.units.invariant.each i ∙ seen_same c.units.at c.args.skip i w.if-at-skip.false;
      }
]
