use Rattle.dl_transform.proofs.passes.+to_items.Given as goal

abbrev pub decreases-to_items : goal.decreases-to_items
decreases-to_items l = l.levels
