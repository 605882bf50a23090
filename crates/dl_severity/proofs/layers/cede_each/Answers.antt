-- The clause changes no weight.
use Rattle.dl_severity.proofs.Common.{ℕ, ◌∙◌, ◌<◌, map, ap, sym, subst, kept, with_amount, severity_total}
use Rattle.dl_severity.proofs.Mapped.{mapped_sum, mapped_means}
use Rattle.dl_severity.proofs.layers.cede_each.Goals as goal

pub gathered-requires-clause-some : goal.gathered-requires-clause-some
gathered-requires-clause-some c =
    let f : ℕ → ℕ = λ x. (kept c.args.cede.now x).num in
    let items = c.in_ok-items.ensures.step ∙ ap (map (with_amount f)) c.as_slice.ensures in
    subst (λ n. 0 < n) (sym (mapped_sum c.args.sev.now f _ items)) (severity_total c.args.sev.now)

pub returns-clause-step : goal.returns-clause-step
returns-clause-step c = λ y.
    let f : ℕ → ℕ = λ x. (kept c.args.cede.now x).num in
    let items = c.in_ok-items.ensures.step ∙ ap (map (with_amount f)) c.as_slice.ensures in
    c.in_ok-gathered.ensures y ∙ mapped_means c.args.sev.now f _ y items
