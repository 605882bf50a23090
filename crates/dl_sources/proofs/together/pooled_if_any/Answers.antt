use Rattle.dl_sources.proofs.Common.{◌≡◌, length, arith, ap, ◌∙◌, subst, sym, All, if_ok_two, filter, lent, can_share, CanShare}
use Rattle.dl_sources.proofs.Parted.{shared_valid, is_pooled_for}
use Rattle.dl_sources.proofs.together.pooled_if_any.Goals as goal

pub pool_poisson-requires-clause-some : goal.pool_poisson-requires-clause-some
pool_poisson-requires-clause-some c = omega (arith, ap (λ t. length t) c.as_slice.ensures.value)

pub pool_poisson-requires-clause-poisson : goal.pool_poisson-requires-clause-poisson
pool_poisson-requires-clause-poisson c =
    subst (λ us. All CanShare (lent us)) (sym c.as_slice.ensures.value) c.in_ok-shared.ensures.can_share

pub pool_poisson-requires-clause-valid : goal.pool_poisson-requires-clause-valid
pool_poisson-requires-clause-valid c =
    let plan = c.args.plan.now in
    let shared = c.as_slice in (
      plan.cells,
      shared_valid c.requires.valid (lent shared.result.now) (ap lent shared.ensures.value
          ∙ c.in_ok-shared.ensures.units ∙ ap (filter can_share) c.as_slice-units.ensures),
    )

pub returns : goal.returns
returns c =
    let plan = c.args.plan.now in
    let shared = c.as_slice in
    let same : lent shared.result.now ≡ filter can_share plan.units =
    ap lent shared.ensures.value ∙ c.in_ok-shared.ensures.units ∙ ap (filter can_share) c.as_slice-units.ensures in
    if_ok_two c.pool_poisson.result _ _ _ (is_pooled_for c.requires.valid (lent shared.result.now) same)
    c.pool_poisson.ensures.sum c.pool_poisson.ensures.valid
