use Rattle.dl_totals.proofs.Common.{◌≡◌, ◌+◌, ◌<◌, ◌∷◌, ◌++◌, [], length, get_or, arith, sym, ap, ap₂, subst, subst₂, ◌∙◌, remove, IsConvolution, ℕ, IsForest, sum_at}
use Rattle.dl_totals.proofs.TreeLaws.{joined, two_places}
use Rattle.dl_totals.proofs.tree.join_two.Goals as goal

pub returns-clause-forest : goal.returns-clause-forest
returns-clause-forest g c =
    let old = c.args.roots.now.items in
    let nodes = c.args.nodes.now.items in
    let units = c.args.units.now in
    let a : ℕ = c.shortest_root.result in
    let b : ℕ = c.shortest_root-2.result in
    let x : ℕ = c.remove-first.result in
    let y : ℕ = c.remove-second.result in
    let in_a : a < length old = omega (arith, c.shortest_root.ensures, ap length c.as_slice-2.ensures.value) in
    let in_b : b < length (remove old a) = omega (
      arith,
      c.shortest_root-2.ensures,
      ap length c.as_slice-4.ensures.value,
      ap length c.remove-first.ensures.items,
    ) in
    let is_y : y ≡ get_or (remove old a) b y = subst (λ t. y ≡ get_or t b y) c.remove-first.ensures.items
    c.remove-second.ensures.value in
    let node = c.in_ok-node.node in
    let conv : IsConvolution c.args.cells (sum_at units nodes x) (sum_at units nodes y) node.grid =
    subst (λ t. IsConvolution c.args.cells (sum_at units t x) (sum_at units t y) node.grid) c.as_slice-5.ensures.value
    c.in_ok-node.ensures.convolution in
    let roots = c.in_ok-push.ensures.items
    ∙ ap₂ (λ t (v : ℕ). t ++ v ∷ [])
    (c.remove-second.ensures.items ∙ ap (λ t. remove t b) c.remove-first.ensures.items) (omega (arith, c.len.ensures)) in
    subst₂ (λ n r. IsForest c.args.cells units n r) (sym c.in_ok-push-2.ensures.items) (sym roots)
    (joined old a b x y in_a in_b c.remove-first.ensures.value is_y c.args.cells units nodes node
    c.in_ok-node.ensures.first c.in_ok-node.ensures.second c.in_ok-node.ensures.cells conv c.requires.forest)

pub node_of-requires : goal.node_of-requires
node_of-requires g c =
    let inside = two_places _ _ _ _ _ _ _ _ (length c.args.units.now + length c.args.nodes.now.items) c.as_slice-2.ensures.value
    c.shortest_root.ensures c.remove-first.ensures.value c.remove-first.ensures.items c.as_slice-4.ensures.value
    c.shortest_root-2.ensures c.remove-second.ensures.value c.requires.forest.inside in
    rw c.as_slice-5.ensures.value (
      omega arith,
      (
        omega arith,
        (
          c.requires.cells,
          (
            c.requires.asked,
            (
              inside.0,
              (inside.1, λ at h. (c.requires.forest.are.sums at h).long),
            ),
          ),
        ),
      ),
    )
