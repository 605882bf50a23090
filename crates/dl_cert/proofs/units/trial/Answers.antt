use Rattle.dl_cert.proofs.Common.{refl, num_le_den}
use Rattle.dl_cert.proofs.units.trial.Goals as goal

pub invariant_of-result : goal.invariant_of-result
invariant_of-result c =
    record {
      within = num_le_den c.args.q c.requires.within;
      num = c.requires.admitted.num;
      den = c.requires.admitted.den;
    }

pub returns : goal.returns
returns c = (_, refl, refl)
