use Rattle.dl_totals.proofs.Common.{arith}
use Rattle.dl_totals.proofs.Apart.{keeps_next, only}
use Rattle.dl_totals.proofs.shortest.together.Goals as goal

pub sums-preserved : goal.sums-preserved
sums-preserved g c = record {
  many = omega (arith, c.in_ok-add_two.ensures.fewer, c.sums.invariant.many);
  long = c.in_ok-add_two.ensures.in_each;
  keeps = λ grids tests are apart.
      keeps_next c.args.cells grids c.sums.sums.items c.add_two.new.sums.items tests
      (c.sums.invariant.keeps grids tests are apart) (c.in_ok-add_two.ensures.sums grids) apart;
}

pub returns : goal.returns
returns g c grids tests are apart =
    only c.args.cells grids c.sums.sums.items tests c.remove.result
    (omega (arith, c.sums.invariant.many, c.sums-test.false, c.len-many.ensures, c.sums.auto.step-end))
    c.remove.ensures.value (c.sums.invariant.keeps grids tests are apart)
