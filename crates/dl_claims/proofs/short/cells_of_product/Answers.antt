use Rattle.dl_claims.proofs.Common.{arith, size_of, size_few}
use Rattle.dl_claims.proofs.short.cells_of_product.Goals as goal

pub overflow_add-cells : goal.overflow_add-cells
overflow_add-cells g c =
    omega (
      arith,
      size_few (size_of c.args.a.now c.cells.ensures.grid),
      size_few (size_of c.args.b.now c.cells-2.ensures.grid),
    )
