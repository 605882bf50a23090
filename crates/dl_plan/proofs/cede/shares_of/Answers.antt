use Rattle.dl_plan.proofs.Common.{layer_shares, CedeLayer}
use Rattle.dl_plan.proofs.Passed.{made_of_all, mapped_more}
use Rattle.dl_plan.proofs.cede.shares_of.Goals as goal

pub layers-preserved : goal.layers-preserved
layers-preserved c =
    mapped_more (λ (layer : CedeLayer). layer.share) c.args.layers.now c.layers.shares.items _ c.layers.layer-index
    c.layer-item.result c.layers-test.true c.layer-item.is c.layers.invariant c.in_ok-push.ensures.items

pub returns : goal.returns
returns c = made_of_all layer_shares c.args.layers.now _ c.layers.layer-index c.layers-test.false c.layers.invariant
