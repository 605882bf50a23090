-- The limit is above 0, and at least the part.
use Rattle.dl_reading.proofs.Common.{◌≡◌, ◌<◌, ◌^◌, false, ap, sym, subst, Fraction, pos_num, part_of, part_exceeds}
use Rattle.dl_reading.proofs.ClauseLaws.{part_tests, part_far}
use Rattle.dl_reading.proofs.made.share_of_limit.Goals as goal

pub div-requires : goal.div-requires
div-requires c =
    let within = subst (λ limit. part_exceeds c.args.part limit ≡ false) c.in-Some.is c.requires.within in
    pos_num c.in-Some.most (part_tests c.args.part c.in-Some.most within).1

pub returns-in-Err : goal.returns-in-Err
returns-in-Err c =
    let within = subst (λ limit. part_exceeds c.args.part limit ≡ false) c.in-Some.is c.requires.within in
    subst (λ (x : Fraction). 2 ^ 30 < x.den) (ap (part_of c.args.part) (sym c.in-Some.is))
    (part_far c.args.part c.in-Some.most within c.in-Err.ensures)
