use Rattle.dl_unit.proofs.Common.{◌^◌, arith, ap, ◌∙◌, thinned_mean, poisson_budget, halvings, claims_alone, poisson_thinned}
use Rattle.dl_unit.proofs.Families.{grid_same, narrow_by}
use Rattle.dl_unit.proofs.CountKinds.{poisson_some}
use Rattle.dl_unit.proofs.Positive.{no_zero}
use Rattle.dl_unit.proofs.Thinned.{poisson_whole}
use Rattle.dl_unit.proofs.direct.poisson_grid.Goals as goal

pub poisson_direct-requires : goal.poisson_direct-requires
poisson_direct-requires g c =
    let small = rw (← c.thinned-mean.ensures) at (c.requires.valid.1.thinned (rw c.requires.count.1 tt)) in
    let none = no_zero c.args.sev.now c.in-Some.positive (c.in_ok-positive.ensures.means c.in-Some.positive c.in-Some.is) in
    (omega arith, (c.requires.size, (none, (small.0, small.1))))

pub returns-in-Some-kept_if_narrow : goal.returns-in-Some-kept_if_narrow
returns-in-Some-kept_if_narrow g c =
    let kept = c.in-Some-kept_if_narrow.ensures in
    let told = rw kept.kept at c.in_ok-direct.ensures.encloses in
    record {
      cells = rw kept.kept at c.in_ok-direct.ensures.cells;
      encloses = grid_same c.in-Some-kept_if_narrow.grid _ _ (poisson_whole (claims_alone c.args.freq.now c.args.sev.now)
          c.in-Some.positive c.requires.count.1 (c.in_ok-positive.ensures.means c.in-Some.positive c.in-Some.is))
          (rw c.thinned-mean.ensures at told);
      spread = kept.narrow;
    }

pub poisson_claims-requires : goal.poisson_claims-requires
poisson_claims-requires g c =
    let small = rw (← c.thinned-mean.ensures) at (c.requires.valid.1.thinned (rw c.requires.count.1 tt)) in
    let none = no_zero c.args.sev.now c.in-Some.positive (c.in_ok-positive.ensures.means c.in-Some.positive c.in-Some.is) in
    (omega arith, (c.requires.size, (none, (small.0, small.1))))

pub returns : goal.returns
returns g c =
    let u = claims_alone c.args.freq.now c.args.sev.now in
    let e = c.poisson_claims.ensures in
    narrow_by c.poisson_claims.result _ _ _ (λ grid copies.
    grid_same grid _ _ (poisson_thinned u c.in-Some.positive c.requires.count.0 (halvings (thinned_mean u))
    c.requires.count.1 (c.in_ok-positive.ensures.means c.in-Some.positive c.in-Some.is))
    (rw c.thinned-mean.ensures at copies))
    (omega (
      arith,
      ap (poisson_budget (2 ^ g.row.B) c.args.cells) c.thinned-mean.ensures
          ∙ poisson_some (2 ^ g.row.B) c.args.cells u c.requires.count.1
          (c.in_ok-positive.ensures.some c.in-Some.positive c.in-Some.is),
    ))
    e.cells e.encloses e.spread
