use Rattle.dl_recursion.proofs.Common.{◌≡◌, ◌+◌, arith, sum_by-append, flat_map, Part, part_sum, run_parts, all_parts}
use Rattle.dl_recursion.specs.declared.parts.Amounts.{Amounts}
use Rattle.dl_recursion.proofs.rest.reach_of.Goals as goal

both : (amounts : Amounts)
    → part_sum (all_parts amounts) ≡ part_sum amounts.parts.items + part_sum (flat_map run_parts amounts.runs.items)
both amounts = sum_by-append (λ (p : Part). p.weight) amounts.parts.items (flat_map run_parts amounts.runs.items)

pub reach_alone-alone-requires : goal.reach_alone-alone-requires
reach_alone-alone-requires c = record {
  room = rw c.deref.ensures.value (omega (arith, c.requires.room, both c.args.amounts.now));
}

pub reach_together-together-requires-clause-room : goal.reach_together-together-requires-clause-room
reach_together-together-requires-clause-room c =
    rw c.deref-2.ensures.value (omega (arith, c.requires.room, both c.args.amounts.now))

pub overflow_add-result : goal.overflow_add-result
overflow_add-result c = omega (
  arith,
  c.requires.room,
  both c.args.amounts.now,
  rw c.deref.ensures.value at c.reach_alone-alone.ensures.weight,
  rw c.deref-2.ensures.value at c.reach_together-together.ensures.weight,
)

pub returns-clause-weight : goal.returns-clause-weight
returns-clause-weight c = omega (
  arith,
  both c.args.amounts.now,
  rw c.deref.ensures.value at c.reach_alone-alone.ensures.weight,
  rw c.deref-2.ensures.value at c.reach_together-together.ensures.weight,
)
