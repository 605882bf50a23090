-- At each place the bytes before it are no line that divides.
use Rattle.dl_top.proofs.Common.{◌≡◌, ◌+◌, ◌-◌, ◌&&◌, ◌==◌, Bool, true, false, ℕ, List, length, take, drop, get_or, ap, ap₂, sym, refl, ◌∙◌, arith, take_all, length-drop, is_divided, length_to_steps}
use Rattle.dl_top.proofs.Division.{ends_at, goes_at, none_at_end}
use Rattle.dl_top.proofs.parts.length_to_steps.Goals.{else-begins-via-then-begins+else-is_divided, else-begins-via-else-begins}
use Rattle.dl_top.proofs.parts.length_to_steps.Goals as goal

rest : (text : List ℕ) (at : ℕ) → take (length text - at) (drop at text) ≡ drop at text
rest text at = take_all (length text - at) (drop at text) (omega (arith, length-drop at text))

both : (begins divided : Bool) (text : List ℕ) (at : ℕ) (b : Bool)
    → divided ≡ is_divided (take (length text - at) (drop at text)) → divided ≡ b → begins ≡ true
    → (begins && is_divided (drop at text)) ≡ b
both begins divided text at b is e true_begins =
    ap₂ (λ x y. x && y) true_begins (ap is_divided (sym (rest text at)) ∙ sym is ∙ e)

not_begins : (begins : Bool) (text : List ℕ) (at : ℕ) → begins ≡ false → (begins && is_divided (drop at text)) ≡ false
not_begins begins text at e = ap (λ x. x && is_divided (drop at text)) e

pub returns-then-is_divided-clause-length : goal.returns-then-is_divided-clause-length
returns-then-is_divided-clause-length c =
    let t = c.args.text.now in
    let at = c.loop-at.at in
    let before : length_to_steps true t ≡ at + length_to_steps c.loop-at.begins (drop at t) = c.loop-at.invariant in
    let bound = ends_at t c.loop-at.begins at c.loop-at-test.true
    (both c.loop-at.begins c.is_divided.result t at true c.is_divided.ensures c.if-is_divided.true
    c.if-begins.true) in
    omega arith

pub loop-at-preserved : goal.loop-at-preserved
loop-at-preserved c =
    let t = c.args.text.now in
    let at = c.loop-at.at in
    let before : length_to_steps true t ≡ at + length_to_steps c.loop-at.begins (drop at t) = c.loop-at.invariant in
    let none : (c.loop-at.begins && is_divided (drop at t)) ≡ false = elim c.else-begins.branch [
      | else-begins-via-then-begins+else-is_divided w ↦
          both c.loop-at.begins w.is_divided.result t at false w.is_divided.ensures w.if-is_divided.false
          w.if-begins.true
      | else-begins-via-else-begins w ↦ not_begins c.loop-at.begins t at w.if-begins.false
    ] in
    let next : length_to_steps c.loop-at.begins (drop at t)
    ≡ 1 + length_to_steps (get_or t at 0 == 10) (drop (at + 1) t) =
    goes_at t c.loop-at.begins at c.loop-at-test.true none in
    omega (arith, before, next)

pub returns-clause-length : goal.returns-clause-length
returns-clause-length c =
    let t = c.args.text.now in
    let at = c.loop-at.at in
    let before : length_to_steps true t ≡ at + length_to_steps c.loop-at.begins (drop at t) = c.loop-at.invariant in
    let end : at ≡ length t = omega (arith, c.loop-at.auto.at-end, c.loop-at-test.false) in
    omega (arith, before, end, none_at_end t c.loop-at.begins at end)
