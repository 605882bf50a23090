use Rattle.dl_totals.proofs.Common.{◌≡◌, ◌<◌, ◌∷◌, ◌++◌, [], length, length-append, get_or, arith, sym, ap, subst, ◌∙◌, remove, length-remove, All-append, All-cons, All-nil, KeepsChosen}
use Rattle.std.specs.List.{All}
use Rattle.dl_totals.proofs.Apart.{all_removed, sum_of_two}
use Rattle.dl_totals.proofs.shortest.add_two.Goals as goal

pub returns : goal.returns
returns g c =
    let old = c.args.sums.now.items in
    let a = c.shortest.result in
    let b = c.shortest-2.result in
    let in_a : a < length old = omega (arith, c.shortest.ensures, ap length c.as_slice.ensures.value) in
    let in_b : b < length (remove old a) = omega (
      arith,
      c.shortest-2.ensures,
      ap length c.as_slice-2.ensures.value,
      ap length c.remove-first.ensures.items,
    ) in
    let left = remove (remove old a) b in
    let items = c.in_ok-push.ensures.items
    ∙ ap (λ t. t ++ c.in_ok-sum.sum ∷ []) (c.remove-second.ensures.items ∙ ap (λ t. remove t b) c.remove-first.ensures.items) in
    record {
      fewer = omega (
        arith,
        ap length items,
        length-append left (c.in_ok-sum.sum ∷ []),
        length-remove old a in_a,
        length-remove (remove old a) b in_b,
      );
      in_each = subst (All (λ h. length h ≡ c.args.cells)) (sym items)
          (All-append (λ h. length h ≡ c.args.cells) left (c.in_ok-sum.sum ∷ [])
          (all_removed (λ h. length h ≡ c.args.cells) (remove old a) b in_b
          (all_removed (λ h. length h ≡ c.args.cells) old a in_a c.requires.in_each))
          (All-cons (λ h. length h ≡ c.args.cells) c.in_ok-sum.sum [] c.in_ok-sum.ensures.cells
          (All-nil (λ h. length h ≡ c.args.cells))));
      sums = λ grids tests are apart. subst (λ t. KeepsChosen c.args.cells grids t tests) (sym items)
          (sum_of_two c.args.cells grids old tests a b c.remove-first.result c.remove-second.result c.in_ok-sum.sum in_a
          in_b c.remove-first.ensures.value
          (subst (λ t. c.remove-second.result ≡ get_or t b c.remove-second.result) c.remove-first.ensures.items
          c.remove-second.ensures.value)
          c.requires.in_each c.in_ok-sum.ensures.cells c.in_ok-sum.ensures.convolution are apart);
    }
