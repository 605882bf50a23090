use Rattle.dl_claims.proofs.Common.{◌*◌, ◌/◌, ◌^◌, rules, ap, ◌∙◌, div_ceil, weight_at, weight_within}
use Rattle.dl_claims.proofs.counts.share_of.Goals as goal

pub share-requires : goal.share-requires
share-requires g c =
    let weight = c.weight_of.ensures ∙ ap (weight_at c.args.table.now) c.from.ensures in
    search (rules, weight, weight_within c.args.table.now c.args.count)

pub returns : goal.returns
returns g c =
    let weight = c.weight_of.ensures ∙ ap (weight_at c.args.table.now) c.from.ensures in
    record {
      low = c.share.ensures.low ∙ ap (λ w. 2 ^ g.row.B * w / c.args.total) weight;
      high = c.share.ensures.high ∙ ap (λ w. div_ceil (2 ^ g.row.B * w) c.args.total) weight;
      small = c.share.ensures.small;
    }
