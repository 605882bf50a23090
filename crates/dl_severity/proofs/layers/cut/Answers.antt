-- The layer changes no weight.
use Rattle.dl_severity.proofs.Common.{ℕ, ◌≡◌, ◌∙◌, ◌<◌, map, ap, sym, subst, ◌over◌, Sev, weight_sum, weight_at, probability_of, layer, with_amount, severity_total}
use Rattle.dl_severity.proofs.Mapped.{mapped_sum, mapped_means, if_ok}
use Rattle.dl_severity.proofs.layers.cut.Goals as goal

pub gathered-requires-clause-some : goal.gathered-requires-clause-some
gathered-requires-clause-some c =
    let items = c.in_ok-items_cut.ensures ∙ ap
    (map (with_amount (layer c.args.limit c.args.attach))) c.as_slice.ensures in
    subst (λ n. 0 < n) (sym (mapped_sum c.args.sev.now (layer c.args.limit c.args.attach) _ items))
    (severity_total c.args.sev.now)

pub returns : goal.returns
returns c =
    let items = c.in_ok-items_cut.ensures ∙ ap
    (map (with_amount (layer c.args.limit c.args.attach))) c.as_slice.ensures in
    if_ok c.gathered.result (λ (sev : Sev). (x : ℕ)
    → probability_of sev x ≡ weight_at c.in_ok-items_cut.field-0.items x over weight_sum
    c.in_ok-items_cut.field-0.items) _
    (λ sev means y. means y ∙ mapped_means c.args.sev.now
    (layer c.args.limit c.args.attach) _ y items) c.gathered.ensures
