-- The steps of the layer, where it is conditioned and where it is not.
use Rattle.dl_reading.proofs.Common.{◌∙◌, sym, subst, conditioned, pairs_of, HasDistribution, layer, layered, if_ok, mixed_pairs, some_since}
use Rattle.dl_reading.proofs.Meaning.{conditioned_means, mapped_means}
use Rattle.dl_reading.proofs.Positive.{in_layer_is, reached}
use Rattle.dl_reading.proofs.Items.{support_within}
use Rattle.dl_reading.proofs.severity.severity_in_layer.Goals as goal

pub unwrap-large-requires : goal.unwrap-large-requires
unwrap-large-requires c =
    some_since c.in_ok-exceeding-in-Some.field-0 _ _ c.in_ok-exceeding-in-Some.ensures
    (λ all. reached c.args.unit.now c.in-Some.layer c.in-Some.is
    (sym c.is_conditioned.ensures ∙ c.if-is_conditioned.true) c.requires.reached
    (support_within c.args.mixed (mixed_pairs c.args.unit.now.sev) c.requires.mixed c.in-Some.layer.attach all))

pub returns-then-is_conditioned : goal.returns-then-is_conditioned
returns-then-is_conditioned c =
    let l = c.in-Some.layer in
    let mixed = mixed_pairs c.args.unit.now.sev in
    let large = c.unwrap-large.result in
    let is = in_layer_is c.args.unit.now.layer l c.args.unit.now.bang c.args.unit.now.sev _ c.in-Some.is
    (sym c.is_conditioned.ensures ∙ c.if-is_conditioned.true) in
    if_ok c.cut.result (λ sev. HasDistribution sev (layered l.limit l.attach (pairs_of large))) _
    (λ sev means. subst (HasDistribution sev) is (mapped_means large sev (conditioned l.attach mixed) (layer l.limit l.attach)
    (conditioned_means c.args.mixed large mixed l.attach c.requires.mixed
    (rw c.unwrap-large.ensures at c.in_ok-exceeding-in-Some.ensures)) means))
    c.cut.ensures

pub returns-in-Some : goal.returns-in-Some
returns-in-Some c =
    let l = c.in-Some.layer in
    let mixed = mixed_pairs c.args.unit.now.sev in
    let is = in_layer_is c.args.unit.now.layer l c.args.unit.now.bang c.args.unit.now.sev _ c.in-Some.is
    (sym c.is_conditioned.ensures ∙ c.if-is_conditioned.false) in
    if_ok c.cut-else-is_conditioned.result (λ sev. HasDistribution sev (layered l.limit l.attach (pairs_of c.args.mixed))) _
    (λ sev means. subst (HasDistribution sev) is (mapped_means c.args.mixed sev mixed (layer l.limit l.attach) c.requires.mixed
    means))
    c.cut-else-is_conditioned.ensures
