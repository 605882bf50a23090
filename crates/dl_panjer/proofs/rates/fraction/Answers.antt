use Rattle.dl_panjer.proofs.Common.{◌≡◌, ◌over◌, FitsFrac, over_num_le, over_fits, given_ok}
use Rattle.dl_panjer.proofs.rates.fraction.Goals as goal

pub unwrap-requires : goal.unwrap-requires
unwrap-requires c = given_ok c.make.result (c.args.num over c.args.den)
    (rw (c.from.ensures, c.from-2.ensures) at c.make.ensures)
    (over_fits c.args.num c.args.den c.requires.positive c.requires.small_num c.requires.small_den)

pub returns-clause-num : goal.returns-clause-num
returns-clause-num c =
    let made : (c.unwrap.result ≡ c.args.num over c.args.den) × FitsFrac (c.args.num over c.args.den) =
    rw (c.from.ensures, c.from-2.ensures, c.unwrap.ensures) at c.make.ensures in
    rw made.0 (over_num_le c.args.num c.args.den c.requires.positive)
