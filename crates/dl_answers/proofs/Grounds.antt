-- What rows are drawn from.
use Rattle.dl_answers.proofs.Common.{[], ℕ, ◌≡◌, ◌≤◌, List, length, get_or, get_or_default, arith, sym, ap, subst, Option, Some, IfSome, Iv, IsTotalOf, Ask, Reaches, reaches_less, IsGround, cells_read, total_of, Ground}

module _ {B : ℕ} {ground : Ground B} (is : IsGround ground) where
  -- the first grid is that of the total
  pub total_is : IsTotalOf ground.plan.now (total_of ground)
  total_is = subst (λ grids. IsTotalOf ground.plan.now (get_or grids 0 [])) (sym is.sums) is.drawn.total

  pub total_read : (d : List (Iv B)) → get_or ground.sums.now 0 d ≡ total_of ground
  total_read d = get_or_default ground.sums.now 0 d [] (omega (arith, is.drawn.some, ap length is.sums))

  pub total_there : (d : List (Iv B)) → IsTotalOf ground.plan.now (get_or ground.sums.now 0 d)
  total_there d = subst (IsTotalOf ground.plan.now) (sym (total_read d)) total_is

  -- what the joint means of the unit that an ask names come from reaches all totals that it looks at
  pub unit_reached : {unit : Option ℕ} (ask : Ask) {i : ℕ} (n : ℕ)
      → IfSome unit (λ k. Reaches ground.drawn.now k (cells_read ground.plan.now.cells ask)) → unit ≡ Some i
      → n ≤ cells_read ground.plan.now.cells ask → Reaches ground.drawn.now i n
  unit_reached ask {i} n reached some few = reaches_less ground.drawn.now i n _
      (subst (λ u. IfSome u (λ k. Reaches ground.drawn.now k (cells_read ground.plan.now.cells ask))) some reached) few
