use Rattle.dl_shares.proofs.Common.{ap₂, subst, ◌∙◌, ◌over◌, over_self, LiesIn}
use Rattle.dl_shares.proofs.shares.above.Goals as goal

pub returns-clause-holds : goal.returns-clause-holds
returns-clause-holds g c x inside =
    let same = ap₂ (λ n d. n over d) (c.from.ensures ∙ c.num.ensures.part) (c.from-2.ensures ∙ c.den.ensures.part)
    ∙ over_self c.args.p in
    c.sub_floor0.ensures.holds x c.args.p inside (subst (λ y. LiesIn y c.enclose.result) same c.enclose.ensures.holds)
