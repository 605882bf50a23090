use Rattle.dl_arguments.proofs.Common.{both_ways}
use Rattle.dl_arguments.proofs.Prices.{price_refused, price_told}
use Rattle.dl_arguments.proofs.asks.price.Goals as goal

pub returns-then-branch : goal.returns-then-branch
returns-then-branch c =
    price_told c.args.text.now c.in-Some.terms.items (rw c.in-Some.is at c.in_ok-terms.ensures)
    (rw c.as_slice.ensures.value at (c.in_ok-are_priced.ensures.0 c.if-branch.true))

pub returns : goal.returns
returns c =
    price_refused c.args.text.now c.in-Some.terms.items (rw c.in-Some.is at c.in_ok-terms.ensures)
    (λ priced. both_ways _ c.if-branch.false (c.in_ok-are_priced.ensures.1 (rw c.as_slice.ensures.value priced)))
