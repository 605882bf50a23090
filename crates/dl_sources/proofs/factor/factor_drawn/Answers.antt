use Rattle.dl_sources.proofs.Common.{ap, length, length-map, ◌∙◌}
use Rattle.dl_sources.proofs.FactorLaws.{factor_drawn, factor_reached}
use Rattle.dl_sources.proofs.factor.factor_drawn.Goals as goal

pub returns-clause-drawn : goal.returns-clause-drawn
returns-clause-drawn g c =
    let grids = c.in_ok-grids.ensures in record {
      some = grids.some;
      total = grids.total;
      means = record {
        mean = c.pooled_mean.ensures.mean;
        small = c.pooled_mean.ensures.small;
        units = c.in_ok-means.ensures.means;
        units_small = c.in_ok-means.ensures.small;
      };
      as_many = ap (λ t. length t) c.in_ok-origins.ensures ∙ length-map _ _ ∙ c.requires.budgets.as_many;
      origins = factor_drawn c.args.of.now.budgets.now.of_units.items _ grids c.are_named-named.ensures.1
          c.in_ok-origins.ensures c.requires.budgets.as_many;
    }

pub returns-clause-reached : goal.returns-clause-reached
returns-clause-reached g c =
    factor_reached c.args.of.now.budgets.now.of_units.items _ c.in_ok-grids.ensures c.are_named-named.ensures.1
    c.in_ok-origins.ensures c.requires.budgets.as_many
