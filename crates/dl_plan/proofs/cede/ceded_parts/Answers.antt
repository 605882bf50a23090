use Rattle.dl_plan.proofs.Common.{ℕ, ◌≡◌, ◌∙◌, ◌+◌, ◌*◌, ◌^◌, ◌<◌, ◌≤◌, sym, ap, ap₂, subst, arith, whole, ◌≤ℚ◌, CedeLayer, layer_parts, mul-le-mul, sum_by_more}
use Rattle.dl_plan.proofs.Clauses.{layer_le, scaled_le}
use Rattle.dl_plan.proofs.cede.ceded_parts.Goals as goal

part_small : (l : CedeLayer) (c x : ℕ) → l.share ≤ℚ whole 1 → x < 2 ^ 40 → layer_parts c x l ≤ c * 2 ^ 40
part_small l c x share small =
    mul-le-mul (scaled_le l.share c share) (omega (arith, layer_le l.limit l.attach x, small))

small_more : (p q i m : ℕ) → p ≤ i * m → q ≤ m → p + q ≤ (i + 1) * m
small_more p q i m so_far one = omega (arith, so_far, one)

pub layers-preserved : goal.layers-preserved
layers-preserved c =
    let l = c.layer-item.result in
    let i = c.layers.invariant in
    let f : CedeLayer → ℕ = layer_parts c.args.common c.args.x in
    let part : c.numerator_over.result * c.taken.result ≡ f l =
    ap₂ (λ a b. a * b) c.numerator_over.ensures c.taken.ensures in
    let share = subst (λ (y : CedeLayer). y.share ≤ℚ whole 1) (sym c.layer-item.is)
    (c.requires.within c.layers.layer-index l c.layers-test.true) in
    record {
      so_far = ap₂ (λ a b. a + b) i.so_far (part ∙ ap f c.layer-item.is)
          ∙ sym (sum_by_more f c.args.layers.now c.layers.layer-index l c.layers-test.true);
      small = small_more c.layers.parts _ c.layers.layer-index _ i.small
          (rw part (part_small l c.args.common c.args.x share c.requires.amount));
    }
