use Rattle.dl_unit.proofs.Common.{◌^◌, arith, rules, ap, subst, ◌∙◌, le_trans, gamma_budget, claims_alone, gamma_thinned, thinned_mean, whole_le, IsThinnedGamma, IsThinnedTo}
use Rattle.dl_unit.proofs.Families.{grid_same, narrow_by}
use Rattle.dl_unit.proofs.CountKinds.{gamma_some}
use Rattle.dl_unit.proofs.Positive.{no_zero}
use Rattle.dl_unit.proofs.direct.gamma_grid.Goals as goal

pub gamma_direct-requires : goal.gamma_direct-requires
gamma_direct-requires g c =
    let small = rw (← c.thinned-mean.ensures) at (c.requires.valid.1.thinned (rw c.requires.count.1 tt)).0 in
    let count = rw c.requires.count.1 at c.requires.valid.1.count in
    search (rules, count.shape, small, no_zero c.args.sev.now c.in-Some.positive (c.in_ok-positive.ensures.means c.in-Some.positive c.in-Some.is))

pub returns-in-Some-kept_if_narrow : goal.returns-in-Some-kept_if_narrow
returns-in-Some-kept_if_narrow g c =
    let u = claims_alone c.args.freq.now c.args.sev.now in
    let count = rw c.requires.count.1 at c.requires.valid.1.count in
    let kept = c.in-Some-kept_if_narrow.ensures in
    let told = rw kept.kept at c.in_ok-direct.ensures.encloses in
    record {
      cells = rw kept.kept at c.in_ok-direct.ensures.cells;
      encloses = grid_same c.in-Some-kept_if_narrow.grid _ _ (gamma_thinned u c.in-Some.positive c.args.shape
          c.requires.count.0 c.requires.count.1 count.shape.above
          (c.in_ok-positive.ensures.means c.in-Some.positive c.in-Some.is)) (rw c.thinned-mean.ensures at told);
      spread = kept.narrow;
    }

pub gamma_claims-requires : goal.gamma_claims-requires
gamma_claims-requires g c =
    let count = rw c.requires.count.1 at c.requires.valid.1.count in
    let u = claims_alone c.args.freq.now c.args.sev.now in
    let of_unit : IsThinnedGamma c.args.shape (thinned_mean u) =
    subst (λ f. IsThinnedTo f (thinned_mean u)) c.requires.count.1 c.requires.valid.1.thinned_count in
    let thinned = rw (← c.thinned-mean.ensures) at of_unit in
    let few = le_trans _ _ _ thinned.few (whole_le 32768 65536 (omega arith)) in
    search (rules, count.shape, thinned.beta, few, no_zero c.args.sev.now c.in-Some.positive (c.in_ok-positive.ensures.means c.in-Some.positive c.in-Some.is))

pub returns : goal.returns
returns g c =
    let u = claims_alone c.args.freq.now c.args.sev.now in
    let count = rw c.requires.count.1 at c.requires.valid.1.count in
    let e = c.gamma_claims.ensures in
    narrow_by c.gamma_claims.result _ _ _ (λ grid claims.
    grid_same grid _ _ (gamma_thinned u c.in-Some.positive c.args.shape
    c.requires.count.0 c.requires.count.1 count.shape.above (c.in_ok-positive.ensures.means c.in-Some.positive c.in-Some.is))
    (rw c.thinned-mean.ensures at claims))
    (omega (
      arith,
      ap (gamma_budget (2 ^ g.row.B) c.args.cells c.args.shape) c.thinned-mean.ensures
          ∙ gamma_some (2 ^ g.row.B) c.args.cells u c.requires.count.1
          (c.in_ok-positive.ensures.some c.in-Some.positive c.in-Some.is),
    ))
    e.cells e.encloses e.spread
