use Rattle.dl_outcomes.proofs.Common.{◌≡◌, arith, sym, ap, ◌∙◌, Fraction, kept, whole_den}
use Rattle.dl_outcomes.proofs.Ceded.{same_whole}
use Rattle.dl_outcomes.proofs.clause_grid.kept_past.Goals as goal

pub returns-in_default : goal.returns-in_default
returns-in_default c y inside e =
    let same : c.in-Some.y ≡ y = same_whole c.in-Some.y y
    (sym c.in-Some.ensures.value ∙ ap (kept c.args.cede.now) c.from.ensures ∙ e) in
    omega arith

pub returns-in_default-2 : goal.returns-in_default-2
returns-in_default-2 c y inside e =
    c.in_default.ensures.value (ap (λ (q : Fraction). q.den) (ap (kept c.args.cede.now) c.from.ensures ∙ e)
    ∙ whole_den y)
