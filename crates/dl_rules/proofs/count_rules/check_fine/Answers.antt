-- The fractions are fine, and the exposure decides; or the name is the place.
use Rattle.dl_rules.proofs.Common.{◌∙◌, true, false, sym, ap, final_severity, TooFine, breaks, claims_above_zero, exposed_too_fine}
use Rattle.dl_rules.proofs.FineClaims.{coarse_span, fine_span}
use Rattle.dl_rules.proofs.count_rules.check_fine.Goals as goal

pub returns-in_default-clause-fault : goal.returns-in_default-clause-fault
returns-in_default-clause-fault c =
    let told = rw c.in_default.is at c.in_ok-severity.ensures in
    rw c.typing.ensures (ap (breaks c.args.number TooFine) (coarse_span c.args.bounds c.args.unit.now c.args.count told))

pub returns-clause-fault : goal.returns-clause-fault
returns-clause-fault c =
    let u = c.args.unit.now in
    let told = rw c.in-Some.is at c.in_ok-severity.ensures in
    let above = c.above_zero-above.ensures (final_severity u) told.1.means in
    ap (breaks c.args.number TooFine) (sym (fine_span c.args.bounds u c.args.count false told.0
    (sym (ap (exposed_too_fine c.args.bounds u.count c.args.count) (sym above) ∙ c.in-Some-fine_count.ensures.0))))

pub returns-clause-claims : goal.returns-clause-claims
returns-clause-claims c =
    let told = rw c.in-Some.is at c.in_ok-severity.ensures in
    record {
      severity = told.1;
      above = c.above_zero-above.ensures (final_severity c.args.unit.now) told.1.means
          ∙ ap (claims_above_zero (final_severity c.args.unit.now)) (sym c.in-Some-fine_count.ensures.1.number);
    }

pub returns-in_default-fine_count-clause-fault : goal.returns-in_default-fine_count-clause-fault
returns-in_default-fine_count-clause-fault c =
    let u = c.args.unit.now in
    let told = rw c.in-Some.is at c.in_ok-severity.ensures in
    let above = c.above_zero-above.ensures (final_severity u) told.1.means in
    rw c.typing-in_default-fine_count.ensures (ap (breaks c.args.number TooFine) (sym (fine_span c.args.bounds u c.args.count true told.0
    (sym (ap (exposed_too_fine c.args.bounds u.count c.args.count) (sym above) ∙ c.in_default-fine_count.ensures)))))
