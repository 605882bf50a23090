use Rattle.dl_sources.proofs.Common.{arith, IfSome_then, IfOk-weaker, ◌also◌}
use Rattle.dl_sources.proofs.Found.{no_others, none_there}
use Rattle.dl_sources.proofs.together.sources_from.Goals as goal

pub sources_of-requires : goal.sources_of-requires
sources_of-requires g c =
    (omega arith) also (omega arith) also c.requires.of
    also c.requires.total (omega (arith, c.if-spread-of.false, c.spread.ensures, c.requires.of.budgets.total.total))
    also no_others (rw c.as_slice.ensures at c.in_ok-others.ensures)

pub returns-clause-beside : goal.returns-clause-beside
returns-clause-beside g c =
    IfOk-weaker c.sources_of.result _ _ (λ made beside. IfSome_then made beside (λ sources only i is.
    none_there _ i _ c.in_ok-others.ensures (only i is))) c.sources_of.ensures.beside
