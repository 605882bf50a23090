use Rattle.dl_recursion.proofs.Common.{◌≡◌, ◌+◌, ◌<◌, ◌∷◌, [], ◌++◌, arith, sym, ap, subst, ◌∙◌, add-one, All, sum_by, flat_map, Part, in_a_row, run_parts, All-push}
use Rattle.dl_recursion.proofs.Runs.{row_more, part_pushed}
use Rattle.dl_recursion.proofs.parts.add.Goals as goal

pub each-preserved : goal.each-preserved
each-preserved c =
    let i = c.each.invariant in
    let m = c.args.run.amount in
    let w = c.args.run.weight in
    let k = c.each.k in
    let parts = c.each.amounts.parts.items in
    let rest = flat_map run_parts c.each.amounts.runs.items in
    let p : Part = record { amount = m + k; weight = w } in
    let e : c.push-in-each.new.self.items ≡ parts ++ p ∷ [] = c.in_ok-push-2.ensures.items in
    record {
      sound = record {
        parts = subst (All (λ (p : Part). 0 < p.amount)) (sym e)
            (All-push (λ (p : Part). 0 < p.amount) parts p i.sound.parts (omega (arith, c.requires.amount)));
        runs = i.sound.runs;
      };
      parts = λ f.
          let row : sum_by f (in_a_row m (k + 1) w) ≡ sum_by f (in_a_row m k w) + f p =
          ap (λ t. sum_by f (in_a_row m t w)) (add-one k) ∙ row_more f m k w in
          let more : sum_by f (c.push-in-each.new.self.items ++ rest) ≡ sum_by f (parts ++ rest) + f p =
          ap (λ l. sum_by f (l ++ rest)) e ∙ part_pushed f parts rest p in
          omega (arith, row, more, i.parts f);
    }
