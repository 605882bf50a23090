use Rattle.dl_recursion.proofs.Common.{arith, one_pos, over_self, poisson, HoldsNoClaim, le_over}
use Rattle.std.proofs.lemmas.Result.{IfOk-weaker}
use Rattle.std.proofs.lemmas.Option.{IfSome_then}
use Rattle.dl_recursion.proofs.Units.{poisson_steps}
use Rattle.dl_recursion.proofs.direct.poisson_direct.Goals as goal

pub poisson_start-start-requires-clause-mean : goal.poisson_start-start-requires-clause-mean
poisson_start-start-requires-clause-mean g c = grind (arith, over_self c.args.mean, le_over, one_pos)

pub returns-clause-encloses : goal.returns-clause-encloses
returns-clause-encloses g c =
    let v = c.args.mean in
    let start = c.poisson_start-start.result in
    let holds : HoldsNoClaim (poisson v) start =
    rw (c.num.ensures.part, c.den.ensures.part, over_self v) at c.poisson_start-start.ensures.holds in
    IfOk-weaker c.compound_direct.result _ _ (λ made told. IfSome_then made told (λ grid all. all (poisson v)
    (poisson_steps v) holds))
    c.compound_direct.ensures.encloses
