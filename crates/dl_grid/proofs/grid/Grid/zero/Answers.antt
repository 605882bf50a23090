use Rattle.dl_grid.proofs.Common.{◌^◌, ◌∙◌, length-set, length-replicate}
use Rattle.dl_grid.proofs.EndLists.{cells_long, low_of, high_of, zero_at, zero_ends}
use Rattle.dl_grid.proofs.grid.Grid.zero.Goals as goal

pub returns : goal.returns
returns g c =
    let made = zero_ends g.row.B c.args.cells c.requires in
    rw (
      c.in_ok-lows.ensures.items_if_clones_equal (λ y same. same),
      c.in_ok-highs.ensures.items_if_clones_equal (λ y same. same),
      c.units_of_one.ensures,
      c.units_of_one-2.ensures,
    )
    (record {
      cells = cells_long made ∙ rw (length-set, length-replicate);
      low = λ x. low_of x made ∙ zero_at c.args.cells (2 ^ g.row.B) x c.requires.some;
      high = λ x. high_of x made ∙ zero_at c.args.cells (2 ^ g.row.B) x c.requires.some;
    })

pub invariant_of-result : goal.invariant_of-result
invariant_of-result g c =
    rw (
      c.in_ok-lows.ensures.items_if_clones_equal (λ y same. same),
      c.in_ok-highs.ensures.items_if_clones_equal (λ y same. same),
      c.units_of_one.ensures,
      c.units_of_one-2.ensures,
    )
    (zero_ends g.row.B c.args.cells c.requires)
