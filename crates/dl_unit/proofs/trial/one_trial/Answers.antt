use Rattle.dl_unit.proofs.Common.{arith, probability_of, num_le_den, if_ok_three, severity_total, within_one}
use Rattle.dl_unit.proofs.TrialGrids.{grid_encloses, trial_spread}
use Rattle.dl_unit.proofs.trial.one_trial.Goals as goal

pub returns : goal.returns
returns g c =
    let claim = c.in_ok-claim.claim in
    let told = c.in_ok-claim.ensures in
    let q = c.args.q in
    let sev = c.args.sev.now in
    let proper = num_le_den q c.requires.probability.within in
    if_ok_three c.trial_of.result _ _ _ _ (λ grid cells low high. record {
      cells = omega (arith, cells, told.cells);
      encloses = grid_encloses claim grid q (probability_of sev) proper (within_one sev) cells low high told.encloses;
      spread = trial_spread claim grid q proper c.cells.ensures.grid cells low high sev.items sev.total (severity_total sev)
          (λ y inside. told.high y (omega (arith, told.cells))) told.spread;
    }) c.trial_of.ensures.cells c.trial_of.ensures.low c.trial_of.ensures.high
