use Rattle.dl_sources.proofs.Common.{ap, sym, ◌∙◌, ◌++◌, ◌∷◌, [], append_assoc, append-nil, replicate-append-replicate}
use Rattle.dl_sources.proofs.halves.add_means.Goals as goal

pub units-init : goal.units-init
units-init g c = sym (append-nil c.args.means.now.items)

pub units-preserved : goal.units-preserved
units-preserved g c =
    c.in_ok-push.ensures.items ∙ ap (λ t. t ++ c.args.mean ∷ []) c.units.invariant
    ∙ append_assoc c.args.means.now.items _ _ ∙ ap (λ t. c.args.means.now.items ++ t) (replicate-append-replicate _ 1 c.args.mean)
