use Rattle.dl_sources.proofs.Common.{◌≡◌, ◌∷◌, [], ◌++◌, List, arith, ap, ◌∙◌, Option, Iv, ◌also◌, option_to_list}
use Rattle.dl_sources.proofs.Alone.{only_one, one_beside, one_others, one_total}
use Rattle.dl_sources.proofs.totals.drawn_of_one.Goals as goal

pub sources_of-requires : goal.sources_of-requires
sources_of-requires g c =
    let at = c.requires.of.at in
    let grids = c.requires.made.grids in
    let only : c.args.made.grids.items ≡ c.unwrap.result ∷ [] =
    only_one c.args.made.grids.items c.pop.new.self.items c.unwrap.result
    (c.pop.ensures.items ∙ ap (λ (top : Option (List (Iv g.row.B))). c.pop.new.self.items ++ option_to_list top)
    c.unwrap.ensures) (omega (arith, grids.as_many, c.requires.one)) in
    (omega arith) also (omega arith) also c.requires.of
    also one_total at.at.valid grids only at.independent c.in_ok-sums.ensures.total
    also one_others at.at.valid grids only c.in_ok-sums.ensures.others

pub drawn_with-requires : goal.drawn_with-requires
drawn_with-requires g c =
    let sources = c.in_ok-sources.ensures in
    (omega arith) also (omega arith) also (omega arith) also (omega arith) also c.requires.of
    also (λ i is. absurd (one_beside c.in_ok-sums.ensures.others i ((rw c.in-Some.is at sources.beside) i is)))
    also c.requires.made.means
    also rw c.in-Some.is at sources.sources
