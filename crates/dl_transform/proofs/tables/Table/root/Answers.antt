use Rattle.dl_transform.proofs.Common.{◌≡◌, slice_index, get_or_read}
use Rattle.dl_transform.proofs.tables.Table.root.Goals as goal

pub returns : goal.returns
returns c =
    let known = c.requires.table in
    let w : c.index.result.now ≡ slice_index c.args.self.now.roots.items c.args.node =
    get_or_read c.args.self.now.roots.items _ _ (c.requires.inside) c.index.ensures 0 in
    let q : c.index-2.result.now ≡ slice_index c.args.self.now.quotients.items c.args.node =
    get_or_read c.args.self.now.quotients.items _ _ (rw known.quotients_alike c.requires.inside) c.index-2.ensures 0 in
    record { value = w; factor = rw (w, q) (known.root _ c.requires.inside).factor }
