-- Each layer with its share.
use Rattle.dl_reading.proofs.Common.{ℕ, Option, refl, ◌≡◌, [], take_all, ceded_layer, ◌∙◌, false, map, get_or, sym, ap, subst, ◌<◌, ◌^◌, arith, get_or-map, length-map, Fraction, CedeLayer, GridCeded, share_of, shares_of, share_exceeds, at_item}
use Rattle.dl_reading.proofs.InTurn.{mapped_next}
use Rattle.dl_reading.proofs.ClauseLaws.{shares_kept, one_too_fine}
use Rattle.dl_reading.proofs.made.parts_of.Goals as goal

pub share_of-requires : goal.share_of-requires
share_of-requires c =
    at_item (λ (l : GridCeded). share_exceeds l.share ≡ false) c.args.written.now.layers
    c.as_slice-ceded-items.result.now c.layers.ceded-index c.ceded-item.result c.as_slice-ceded-items.ensures
    (shares_kept c.args.written.now c.requires.layered.within) c.layers-test.true c.ceded-item.is

pub returns-in_default : goal.returns-in_default
returns-in_default c =
    let layers = c.args.written.now.layers in
    let i = c.layers.ceded-index in
    let lt = rw c.as_slice-ceded-items.ensures at c.layers-test.true in
    let is = rw c.as_slice-ceded-items.ensures at c.ceded-item.is in
    let share = λ (l : GridCeded). share_of l.share in
    let d = share c.ceded-item.result in
    let at : get_or (map share layers) i d ≡ d = get_or-map share layers i c.ceded-item.result d lt
    ∙ ap share (sym is) in
    one_too_fine (shares_of c.args.written.now) i d (omega (arith, lt, length-map layers share))
    (subst (λ (x : Fraction). 2 ^ 30 < x.den) (sym at) c.in_default.ensures)

abbrev with_share : Fraction → Option ℕ → ℕ → CedeLayer
with_share share limit attach = record { share = share; limit = limit; attach = attach }

ceded_is : (l : CedeLayer) (g : GridCeded) {share : Fraction} → l.share ≡ share → l.limit ≡ g.layer.limit
    → l.attach ≡ g.layer.attach → share ≡ share_of g.share → with_share l.share l.limit l.attach ≡ ceded_layer g
ceded_is l g e limit attach is = rw (e, is, limit, attach) refl

pub layers-preserved : goal.layers-preserved
layers-preserved c =
    mapped_next [] ceded_layer _ _ _ c.layers-test.true c.ceded-item.is c.layers.invariant c.in_ok-push.ensures.items
    (ceded_is c.part_of.result c.ceded-item.result c.part_of.ensures.share c.part_of.ensures.limit
    c.part_of.ensures.attach c.in-Some.ensures)

pub returns : goal.returns
returns c = c.layers.invariant ∙ ap (map ceded_layer) (take_all _ _ c.layers-test.false ∙ c.as_slice-ceded-items.ensures)
