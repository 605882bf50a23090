-- The raised part from whole numbers.
use Rattle.dl_plan.proofs.Common.{ℕ, ◌≡◌, ◌∙◌, ◌+◌, ◌*◌, ◌<◌, ap, ap₂, sym, arith, mul-pos, Fraction, whole, ◌over◌, ◌*ℚ◌, over_self, over_mul, over_same, one_pos, over_add, over_div, raised}
use Rattle.dl_exact.specs.Fraction.{◌+ℚ◌, ◌/ℚ◌}

pub raised_over : (v r : Fraction) → 0 < r.num → (v.num * (r.num + r.den)) over (v.den * r.num) ≡ raised r v
raised_over v r above =
    let pos : 0 < v.den = v.positive in
    let own : 0 < r.den = r.positive in
    let next : r +ℚ whole 1 ≡ (r.num + r.den) over r.den =
    ap (λ t. t +ℚ whole 1) (sym (over_self r)) ∙ over_add r.num r.den 1 1 own one_pos
    ∙ over_same _ _ _ _ (mul-pos own one_pos) own (omega arith) in
    over_same _ _ _ _ (mul-pos pos above) (mul-pos (mul-pos pos own) above) (omega arith)
    ∙ sym (ap₂ (λ x y. x *ℚ y /ℚ r) (sym (over_self v)) next
    ∙ ap₂ (λ x y. x /ℚ y) (over_mul v.num v.den (r.num + r.den) r.den pos own) (sym (over_self r))
    ∙ over_div (v.num * (r.num + r.den)) (v.den * r.den) r.num r.den (mul-pos pos own) own above)
