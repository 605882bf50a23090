use Rattle.dl_totals.proofs.Common.{◌≡◌, ◌≤◌, List, ◌++◌, ◌∷◌, [], length, arith, ap, sym, subst, subst₂, ◌∙◌, Option, Some, Iv, length-append, ReachDown}
use Rattle.dl_totals.proofs.TreeLaws.{less, one_fewer}
use Rattle.dl_totals.proofs.tree.one_node_down.Goals as goal

pub returns-in_default-pop-clause-down : goal.returns-in_default-pop-clause-down
returns-in_default-pop-clause-down g c =
    let old = c.args.nodes.now.items in
    let left = c.pop.new.self.items in
    let node = c.in-Some.node in
    let outer = c.args.outer.now.items in
    let rest = c.pop-2.new.self.items in
    let cut : old ≡ left ++ node ∷ [] = c.in-Some.ensures.items in
    let some : 1 ≤ length outer = omega (arith, c.requires.down.as_many, ap length cut, length-append left (node ∷ [])) in
    less c.args.cells c.args.units.now old left node outer rest c.pop-2.result cut c.pop-2.ensures.items
    (one_fewer _ outer rest c.pop-2.ensures.rest (omega (arith, c.args.outer.now.ok)) some) c.requires.down

pub parts_down-requires : goal.parts_down-requires
parts_down-requires g c =
    let left = c.pop.new.self.items in
    let node = c.in-Some.node in
    let rest = c.pop-2.new.self.items in
    let split = c.in-Some-Some.ensures.items
    ∙ ap (λ (t : Option (List (Iv g.row.B))). rest ++ t ∷ []) c.in-Some-Some.field-0-is in (
      omega arith,
      (
        omega arith,
        (
          c.requires.cells,
          (
            c.requires.asked,
            subst (λ t. ReachDown c.args.cells c.args.units.now (t ++ node ∷ []) (rest ++ Some c.in-Some-Some.sum ∷ []))
                (sym c.as_slice.ensures.value)
                (subst₂ (λ n r. ReachDown c.args.cells c.args.units.now n r) c.in-Some.ensures.items split c.requires.down),
          ),
        ),
      ),
    )
