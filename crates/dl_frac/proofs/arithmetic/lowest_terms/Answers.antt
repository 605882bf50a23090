-- In lowest terms the two parts are those of their fraction.
use Rattle.dl_frac.proofs.Common.{arith, inl, inr, lowest_self}
use Rattle.dl_exact.proofs.Parts.{lowest_num, lowest_den}
use Rattle.dl_frac.proofs.arithmetic.lowest_terms.Goals as goal

pub returns-then-den-lt-FRAC_BOUND : goal.returns-then-den-lt-FRAC_BOUND
returns-then-den-lt-FRAC_BOUND c =
    let num = lowest_num c.args.num c.args.den c.requires.positive c.requires.lowest in
    let den = lowest_den c.args.num c.args.den c.requires.positive c.requires.lowest in
    (lowest_self _ _ _ _, record { num = omega arith; den = omega arith })

pub returns-else-num-lt-FRAC_BOUND : goal.returns-else-num-lt-FRAC_BOUND
returns-else-num-lt-FRAC_BOUND c =
    let num = lowest_num c.args.num c.args.den c.requires.positive c.requires.lowest in
    let den = lowest_den c.args.num c.args.den c.requires.positive c.requires.lowest in
    elim c.else-num-lt-FRAC_BOUND.either [ inl wide ↦ inr (omega arith) | inr wide ↦ inl (omega arith) ]
