-- The layer takes its part of each amount of the mixture.
use Rattle.dl_reading.proofs.Common.{◌≡◌, ◌∙◌, cond, map, filter, nat_lt, layer, if_ok}
use Rattle.dl_reading.proofs.Positive.{taken_support}
use Rattle.dl_reading.proofs.support.support_in_layer.Goals as goal

pub returns-in-Some : goal.returns-in-Some
returns-in-Some c =
    let xs = c.deref.result.now in
    let l = c.in-Some.layer in
    if_ok c.in_layer.result (λ made. made.items ≡ map (layer l.limit l.attach)
    (cond c.is_conditioned-large.result (filter (nat_lt l.attach) xs) xs)) _
    (λ made. taken_support c.args.unit.now.layer l c.args.unit.now.bang c.args.unit.now.sev xs made.items
    c.is_conditioned-large.result c.in-Some.is (c.deref.ensures.value ∙ c.requires.mixed) c.is_conditioned-large.ensures)
    c.in_layer.ensures
