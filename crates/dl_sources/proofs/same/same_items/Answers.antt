use Rattle.dl_sources.proofs.Common.{Decides-eqb, rules, slice_eq-Decides}
use Rattle.dl_sources.proofs.same.same_items.Goals as goal

pub returns : goal.returns
returns c = slice_eq-Decides (λ x y. search (rules, Decides-eqb)) c.args.a.now c.args.b.now c.eq.result c.eq.ensures
