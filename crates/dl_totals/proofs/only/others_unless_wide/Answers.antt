use Rattle.dl_totals.proofs.Common.{arith, subst, Some, IfSome, IsSumOfPart}
use Rattle.dl_model.specs.Measures.{without}
use Rattle.dl_totals.proofs.only.others_unless_wide.Goals as goal

pub returns-then-spread-most : goal.returns-then-spread-most
returns-then-spread-most g c =
    let part = subst (λ t. IfSome t (λ h. IsSumOfPart c.args.cells c.args.units.now (λ us. without us c.args.i) (Some h)))
    c.in-Some.is c.requires.sum in
    record {
      cells = part.cells;
      encloses = part.encloses;
      narrow = omega arith;
    }
