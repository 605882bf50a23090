-- Fine shares make a clause.
use Rattle.dl_reading.proofs.Common.{◌≡◌, ◌∙◌, List, true, sym, ap, subst, CedeLayer, IsClause, clause_of}
use Rattle.dl_reading.proofs.ClauseLaws.{no_clause}
use Rattle.dl_reading.proofs.made.clause.Goals as goal

pub returns-clause-value : goal.returns-clause-value
returns-clause-value c =
    let a = c.args.written.now in
    no_clause a c.requires.layered (λ written.
    let made = rw c.in-Some.is at c.in_ok-layers.ensures in
    let same : c.in_ok-clause.clause ≡ clause_of a = c.in_ok-clause.ensures
    ∙ ap (λ (ls : List CedeLayer). (a.net, ls)) (c.deref.ensures.value ∙ made) in
    let is : c.is_clause.result ≡ true = c.is_clause.ensures.1 (subst IsClause (sym same) written) in
    absurd (cc (is, c.if-is_clause.false)))
