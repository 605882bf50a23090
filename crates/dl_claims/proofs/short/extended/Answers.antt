use Rattle.dl_claims.proofs.Common.{arith, sym, ap, ◌∙◌, get_or, low_at_ends, high_at_ends}
use Rattle.dl_claims.proofs.ShortGrids.{padded_ends}
use Rattle.dl_claims.proofs.short.extended.Goals as goal

pub from_ends-requires : goal.from_ends-requires
from_ends-requires g c = (
  omega arith,
  padded_ends c.args.grid.now c.in_ok-lows.lows.items c.in_ok-highs.highs.items c.args.cells c.lows.ensures.grid
      c.requires.size c.in_ok-lows.ensures.many c.in_ok-highs.ensures.many
      (λ x. c.in_ok-lows.ensures.each x ∙ c.lows.ensures.each x)
      (λ x. c.in_ok-highs.ensures.each x ∙ c.highs.ensures.each x),
)

pub returns-clause-low : goal.returns-clause-low
returns-clause-low g c x =
    sym (low_at_ends c.from_ends.result x) ∙ ap (λ t. get_or t x 0) c.from_ends.ensures.low
    ∙ c.in_ok-lows.ensures.each x ∙ c.lows.ensures.each x

pub returns-clause-high : goal.returns-clause-high
returns-clause-high g c x =
    sym (high_at_ends c.from_ends.result x) ∙ ap (λ t. get_or t x 0) c.from_ends.ensures.high
    ∙ c.in_ok-highs.ensures.each x ∙ c.highs.ensures.each x
