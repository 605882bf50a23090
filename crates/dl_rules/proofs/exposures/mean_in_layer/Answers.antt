-- The mean of what the severity means, which is above 0.
use Rattle.dl_rules.proofs.Common.{◌≡◌, ◌∙◌, sym, subst, whole, ◌<ℚ◌, mean_amount, severity_in_layer, not-false, most_amount, pairs_of, in_layer_near, items_near, scored_alike, alike_own}
use Rattle.dl_rules.proofs.Exposed.{mean_above}
use Rattle.dl_rules.proofs.exposures.mean_in_layer.Goals as goal

pub mean-requires : goal.mean-requires
mean-requires c =
    let u = c.args.unit.now in
    items_near most_amount c.args.layered.now (severity_in_layer u) c.requires.layered
    (in_layer_near u.layer u.bang u.sev most_amount (λ k d h. (c.requires.grid.sev.atoms k d h).near))

pub returns-clause-mean : goal.returns-clause-mean
returns-clause-mean c =
    let ps = severity_in_layer c.args.unit.now in
    c.mean.ensures ∙ scored_alike whole (pairs_of c.args.layered.now) ps
    (alike_own c.args.layered.now ps c.requires.layered)

pub returns-clause-above : goal.returns-clause-above
returns-clause-above c =
    let ps = severity_in_layer c.args.unit.now in
    let same : c.mean.result ≡ mean_amount ps =
    c.mean.ensures ∙ scored_alike whole (pairs_of c.args.layered.now) ps
    (alike_own c.args.layered.now ps c.requires.layered) in
    subst (λ t. whole 0 <ℚ t) (sym same) (mean_above ps (not-false _ c.requires.loss))
