use Rattle.dl_transform.proofs.Common.{◌≡◌, slice_index, get_or_read}
use Rattle.dl_transform.proofs.tables.Table.inverse.Goals as goal

pub returns : goal.returns
returns c =
    let known = c.requires.table in
    let w : c.index.result.now ≡ slice_index c.args.self.now.inverses.items c.args.node =
    get_or_read c.args.self.now.inverses.items _ _ (rw known.inverses_alike c.requires.inside) c.index.ensures 0 in
    let q : c.index-2.result.now ≡ slice_index c.args.self.now.inverse_quotients.items c.args.node =
    get_or_read c.args.self.now.inverse_quotients.items _ _ (rw known.inverse_quotients_alike c.requires.inside) c.index-2.ensures 0 in
    record { value = w; factor = rw (w, q) (known.root _ c.requires.inside).inverse_factor }
