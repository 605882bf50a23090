use Rattle.dl_panjer.proofs.Common.{ℕ, ◌^◌, List, length, Fraction, ◌over◌, Iv, low_at, high_at, weight_at, FollowsOutward, total_pos, StandsByRecursion}
use Rattle.dl_panjer.proofs.Base.{low_below, high_above}
use Rattle.dl_panjer.proofs.Outward.{poisson_outward, geometric_outward}
use Rattle.dl_panjer.proofs.laws.law_stands.Goals as goal

stands : {B : ℕ} (a b : Fraction) (f : ℕ → Fraction) (grid : List (Iv B))
    → FollowsOutward (2 ^ B) (length grid) a b f (low_at grid) (high_at grid) → StandsByRecursion a b f grid
stands {B} a b f grid F = record {
  low = low_below (2 ^ B) (length grid) a b f (low_at grid) (high_at grid) F;
  high = high_above (2 ^ B) (length grid) a b f (low_at grid) (high_at grid) F;
}

pub returns-clause-poisson : goal.returns-clause-poisson
returns-clause-poisson c B sev v grid base =
    stands _ v (λ j. weight_at sev.items j over sev.total) grid
    (poisson_outward sev.items sev.total v (total_pos sev.items sev.total sev.weighted) grid base)

pub returns-clause-geometric : goal.returns-clause-geometric
returns-clause-geometric c B sev beta grid base =
    stands _ _ (λ j. weight_at sev.items j over sev.total) grid
    (geometric_outward sev.items sev.total beta (total_pos sev.items sev.total sev.weighted) grid base)
