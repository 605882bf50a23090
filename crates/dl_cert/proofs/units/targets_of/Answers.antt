use Rattle.dl_cert.proofs.Common.{◌∙◌, ap, ap₂, [], ◌∷◌, ◌++◌, map, take_all, take_more, unit_parts, map-append}
use Rattle.dl_cert.proofs.units.targets_of.Goals as goal

pub loop-unit-preserved : goal.loop-unit-preserved
loop-unit-preserved c =
    rw (take_more c.args.units.now _ c.unit-item.result c.loop-unit-test.true, ← c.unit-item.is, map-append)
    (c.in_ok-push.ensures.items ∙ ap₂ (λ front x. front ++ x ∷ []) c.loop-unit.invariant c.parts.ensures.value)

pub returns : goal.returns
returns c = c.loop-unit.invariant ∙ ap (map unit_parts) (take_all _ _ c.loop-unit-test.false)
