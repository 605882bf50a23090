-- The next shape and the raised mean are admitted, and the unit has them.
use Rattle.dl_pool.proofs.Common.{◌∙◌, ◌over◌, ap, ap₂, sym, subst, refl, FitsFrac, given_ok, given_value, Gamma, weight_at, has_factor, raised, whole, ◌+ℚ◌, ◌<ℚ◌}
use Rattle.dl_pool.proofs.Alone.{raised_valid}
use Rattle.dl_pool.proofs.Named.{gamma_shape, gamma_mean, next_fits, raised_fits}
use Rattle.dl_pool.proofs.raising.raised.Goals as goal

pub unwrap-next_shape-requires : goal.unwrap-next_shape-requires
unwrap-next_shape-requires c =
    let shape = gamma_shape _ _ _ _ _ c.in-Gamma.is c.requires.3.count in
    given_ok _ _ c.add.ensures (subst FitsFrac (sym (ap₂ (λ s t. s +ℚ t) shape c.whole.ensures))
    (next_fits c.requires.0 c.requires.1 c.requires.2))

pub raised-requires : goal.raised-requires
raised-requires c = record {
  above = subst (λ t. whole 0 <ℚ t) (sym (gamma_shape _ _ _ _ _ c.in-Gamma.is c.requires.3.count))
      (has_factor c.requires.0 c.requires.1 c.requires.2).shape.above;
}

pub unwrap-raised_mean-requires : goal.unwrap-raised_mean-requires
unwrap-raised_mean-requires c =
    let shape = gamma_shape _ _ _ _ _ c.in-Gamma.is c.requires.3.count in
    let mean = gamma_mean _ _ _ _ _ c.in-Gamma.is c.requires.3.count in
    given_ok _ _ c.raised.ensures (subst FitsFrac (sym (ap₂ raised shape mean))
    (raised_fits c.requires.0 c.requires.1 c.requires.2))

pub returns-clause-raised : goal.returns-clause-raised
returns-clause-raised c plan r shares pooled =
    let shape = gamma_shape _ _ _ _ _ c.in-Gamma.is pooled.count in
    let mean = gamma_mean _ _ _ _ _ c.in-Gamma.is pooled.count in
    record {
      name = λ default. c.in_ok-name.ensures ∙ c.as_slice.ensures ∙ pooled.name default;
      count = ap₂ Gamma
          (given_value _ _ c.unwrap-next_shape.result c.add.ensures c.unwrap-next_shape.ensures
          ∙ ap₂ (λ s t. s +ℚ t) shape c.whole.ensures)
          (given_value _ _ c.unwrap-raised_mean.result c.raised.ensures c.unwrap-raised_mean.ensures ∙ ap₂ raised shape mean);
      severity = λ x. ap₂ (λ items total. weight_at items x over total) c.in_ok-sev.ensures.items
          c.in_ok-sev.ensures.total ∙ pooled.severity x;
      clause = refl;
      zero = refl;
    }

pub returns-clause-valid : goal.returns-clause-valid
returns-clause-valid c plan r shares pooled =
    raised_valid plan r _ shares (returns-clause-raised c plan r shares pooled)
