-- The first clause that maps an amount to no whole number.
use Rattle.dl_reading.proofs.Common.{refl, ◌∙◌, ap, map, kept, rules, off_grid_sums}
use Rattle.dl_reading.proofs.off_grid.off_grid_cession.Goals as goal

pub returns-in-Missing : goal.returns-in-Missing
returns-in-Missing c = rw c.in-Missing.is c.off_grid_sums.ensures

pub returns-in-TooFine : goal.returns-in-TooFine
returns-in-TooFine c = rw c.in-TooFine.is refl

pub is_any_off-requires : goal.is_any_off-requires
is_any_off-requires c = rw c.in-Whole.is at c.requires.occ

pub returns-then-is_any_off : goal.returns-then-is_any_off
returns-then-is_any_off c = rw (c.in-Whole.is, ← c.is_any_off.ensures, c.if-is_any_off.true) refl

pub kept_amounts-kept-requires-clause-is_clause : goal.kept_amounts-kept-requires-clause-is_clause
kept_amounts-kept-requires-clause-is_clause c = rw c.in-Whole.is at c.requires.occ

pub kept_amounts-kept-requires-clause-whole : goal.kept_amounts-kept-requires-clause-whole
kept_amounts-kept-requires-clause-whole c =
    rw (c.in_ok-to_vec-in-Whole.ensures.items_if_clones_equal (search rules), ← c.is_any_off.ensures) c.if-is_any_off.false

pub returns-in_ok-to_vec-in-Whole : goal.returns-in_ok-to_vec-in-Whole
returns-in_ok-to_vec-in-Whole c =
    rw (c.in-Whole.is, ← c.is_any_off.ensures, c.if-is_any_off.false) (c.off_grid_sums-in-Whole.ensures
    ∙ ap (off_grid_sums c.args.clauses.now.agr) (c.deref.ensures.value ∙ c.kept_amounts-kept.ensures
    ∙ ap (map (λ x. (kept c.in-Whole.cede x).num)) (c.in_ok-to_vec-in-Whole.ensures.items_if_clones_equal (search rules))))
