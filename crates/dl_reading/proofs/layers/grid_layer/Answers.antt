-- The limit and the attachment.
use Rattle.dl_reading.proofs.LayersRead.{layer_read}
use Rattle.dl_reading.proofs.layers.grid_layer.Goals as goal

pub returns : goal.returns
returns c = layer_read c.args.most c.args.bs c.args.layer.now c.requires.limit c.grid_limit-most_paid.ensures
    c.money-attach.ensures c.or-limits.ensures c.or.ensures
