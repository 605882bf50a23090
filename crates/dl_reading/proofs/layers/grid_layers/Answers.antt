-- One layer more.
use Rattle.dl_reading.proofs.Common.{refl, grid_ceded, IsFormedCeded, flaws_of_ceded}
use Rattle.dl_reading.proofs.Agreeing.{read_no_part, read_next, read_end}
use Rattle.dl_reading.proofs.Firsts.{at_item}
use Rattle.dl_reading.proofs.LayersRead.{ceded_read}
use Rattle.dl_reading.proofs.layers.grid_layers.Goals as goal

pub layers-init : goal.layers-init
layers-init c = read_no_part 7 (flaws_of_ceded c.args.most c.args.bs) (grid_ceded c.args.bs) c.new-made.ensures.items
    c.none-flaws.ensures

pub grid_layer-layer-requires-clause-formed : goal.grid_layer-layer-requires-clause-formed
grid_layer-layer-requires-clause-formed c =
    (at_item IsFormedCeded _ _ _ _ refl c.requires.formed c.layers-test.true c.ceded-item.is).layer

pub layers-preserved : goal.layers-preserved
layers-preserved c =
    read_next 7 (flaws_of_ceded c.args.most c.args.bs) (grid_ceded c.args.bs) c.args.layers.now c.layers.ceded-index
    c.layers-test.true c.ceded-item.is c.layers.invariant
    (ceded_read c.args.most c.args.bs c.ceded-item.result c.limit_number-limit.ensures.read c.share_number-share.ensures
    c.grid_layer-layer.ensures c.or.ensures) c.in_ok-push.ensures.items c.or-flaws.ensures

pub returns : goal.returns
returns c = read_end 7 _ _ _ _ c.layers-test.false c.from_vec-part.ensures c.layers.invariant
