use Rattle.dl_transform.proofs.Common.{◌∙◌, sym}
use Rattle.dl_transform.proofs.multiply.product.Goals as goal

pub returns-then-not-are_sums_small-clause-found : goal.returns-then-not-are_sums_small-clause-found
returns-then-not-are_sums_small-clause-found c _ below =
    sym c.if-not-are_sums_small.true ∙ c.are_sums_small.ensures.found (rw c.unwrap_or-second.ensures below)
