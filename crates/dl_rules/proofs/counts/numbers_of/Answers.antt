use Rattle.dl_rules.proofs.Common.{◌∙◌, ap, ap₂, [], ◌∷◌, ◌++◌, map, take_all, take_more, map-append, Fraction}
use Rattle.dl_rules.proofs.counts.numbers_of.Goals as goal

pub values-preserved : goal.values-preserved
values-preserved c =
    rw (take_more c.args.values.now _ c.value-item.result c.values-test.true, ← c.value-item.is, map-append)
    (c.in_ok-push.ensures.items ∙ ap₂ (λ front x. front ++ x ∷ []) c.values.invariant c.num.ensures.part)

pub returns : goal.returns
returns c = c.values.invariant ∙ ap (map (λ (x : Fraction). x.num)) (take_all _ _ c.values-test.false)
