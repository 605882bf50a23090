-- The clause changes no weight.
use Rattle.dl_severity.proofs.Common.{ℕ, ◌≡◌, ◌∙◌, ◌<◌, map, ap, sym, subst, kept, with_amount, severity_total, ◌over◌, Sev, weight_sum, weight_at, probability_of}
use Rattle.dl_severity.proofs.Mapped.{mapped_sum, mapped_means, if_ok}
use Rattle.dl_severity.proofs.kept_whole.cede_whole.Goals as goal

pub gathered-requires-clause-some : goal.gathered-requires-clause-some
gathered-requires-clause-some c =
    let f : ℕ → ℕ = λ x. (kept c.args.cede.now x).num in
    let items = c.in_ok-items_whole.ensures ∙ ap (map (with_amount f)) c.as_slice.ensures in
    subst (λ n. 0 < n) (sym (mapped_sum c.args.sev.now f _ items)) (severity_total c.args.sev.now)

pub returns : goal.returns
returns c =
    let f : ℕ → ℕ = λ x. (kept c.args.cede.now x).num in
    let items = c.in_ok-items_whole.ensures ∙ ap (map (with_amount f)) c.as_slice.ensures in
    if_ok c.gathered.result (λ (sev : Sev). (x : ℕ)
    → probability_of sev x ≡ weight_at c.in_ok-items_whole.field-0.items x over weight_sum
    c.in_ok-items_whole.field-0.items) _
    (λ sev means y. means y ∙ mapped_means c.args.sev.now f _ y items) c.gathered.ensures
