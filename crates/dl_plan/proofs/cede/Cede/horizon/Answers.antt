-- Up to the last edge, or on the line past it.
use Rattle.dl_plan.proofs.Common.{ℕ, ◌≡◌, ◌∙◌, ◌+◌, ◌-◌, ◌*◌, ◌≤◌, arith, ap, ap₂, sym, subst, div_ceil, Clause, IsClause, last_edge, IsHorizon, parts_in_bucket}
use Rattle.dl_plan.proofs.Horizons.{parts_of, horizon_flat, horizon_line}
use Rattle.dl_plan.proofs.Apart.{kept_rises}
use Rattle.dl_plan.proofs.cede.Cede.horizon.Goals as goal

module _ (clause : Clause) (h e kept next : ℕ) (accepted : IsClause clause)
    (edge : e ≡ last_edge clause.1) (here : kept ≡ parts_of clause e) (after : next ≡ parts_of clause (e + 1)) where
  rises : kept ≤ next
  rises = omega (arith, here, after, kept_rises clause (parts_in_bucket clause) e 1 accepted)

  kept_is : kept ≡ parts_of clause (last_edge clause.1)
  kept_is = here ∙ ap (λ k. parts_of clause k) edge

  rise_is : next - kept ≡ parts_of clause (last_edge clause.1 + 1) - parts_of clause (last_edge clause.1)
  rise_is = ap₂ (λ a b. a - b) (after ∙ ap (λ k. parts_of clause (k + 1)) edge) kept_is

  flat : next - kept ≡ 0 → IsHorizon clause h e
  flat none = subst (λ k. IsHorizon clause h k) (sym edge) (horizon_flat clause h accepted (sym rise_is ∙ none))

  line : (c missing steps : ℕ) → c ≡ parts_in_bucket clause → missing ≡ h * c - kept
      → steps ≡ div_ceil missing (next - kept) → (next - kept ≡ 0 → ⊥) → IsHorizon clause h (e + steps)
  line c missing steps bucket lack quotient some =
      grind (arith, horizon_line clause h (next - kept) accepted rise_is (omega (arith, some)), kept_is)

pub overflow_sub-rise : goal.overflow_sub-rise
overflow_sub-rise c = grind (arith, rises)

pub returns-then-rise-eq0 : goal.returns-then-rise-eq0
returns-then-rise-eq0 c =
    let edge = c.last_edge-edge.ensures.value ∙ ap last_edge c.layers.ensures in
    flat c.args.self.now c.args.cells c.last_edge-edge.result c.parts-kept.result c.parts.result c.requires edge
    c.parts-kept.ensures.value c.parts.ensures.value c.if-rise-eq0.true

pub returns-else-rise-eq0 : goal.returns-else-rise-eq0
returns-else-rise-eq0 c =
    let edge = c.last_edge-edge.ensures.value ∙ ap last_edge c.layers.ensures in
    line c.args.self.now c.args.cells c.last_edge-edge.result c.parts-kept.result c.parts.result c.requires edge
    c.parts-kept.ensures.value c.parts.ensures.value
    c.common.result c.saturating_sub-missing.result c.div_ceil.result c.common.ensures.value
    c.saturating_sub-missing.ensures c.div_ceil.ensures c.if-rise-eq0.false
