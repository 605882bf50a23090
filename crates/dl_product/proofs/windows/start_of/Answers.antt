use Rattle.dl_product.proofs.windows.start_of.Goals as goal

pub returns-then-xs-i-ne0-clause-zeros : goal.returns-then-xs-i-ne0-clause-zeros
returns-then-xs-i-ne0-clause-zeros c = c.loop-i.invariant
