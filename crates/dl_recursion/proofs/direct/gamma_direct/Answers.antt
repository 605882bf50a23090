use Rattle.dl_recursion.proofs.Common.{◌≡◌, ◌∙◌, ◌+◌, ◌*◌, arith, ap, times_comm, whole, ◌over◌, ◌+ℚ◌, ◌*ℚ◌, ◌/ℚ◌, gamma}
use Rattle.std.proofs.lemmas.Result.{IfOk-weaker}
use Rattle.std.proofs.lemmas.Option.{IfSome_then}
use Rattle.dl_exact.proofs.Laws.{div_times}
use Rattle.dl_model.proofs.GammaThin.{share_of}
use Rattle.dl_start.proofs.Shares.{ratio_is}
use Rattle.dl_recursion.proofs.Units.{gamma_steps, over_part}
use Rattle.dl_recursion.proofs.direct.gamma_direct.Goals as goal

pub returns-clause-encloses : goal.returns-clause-encloses
returns-clause-encloses g c =
    let r = c.args.shape in
    let v = c.args.mean in
    let beta = c.in-Ok.beta in
    let x = beta /ℚ (whole 1 +ℚ beta) in
    let ratio = c.in-Ok-make.ratio in
    let mean : r *ℚ beta ≡ v = ap (λ t. r *ℚ t) c.in-Ok.ensures.0 ∙ times_comm _ _ ∙ div_times v r c.requires.shape.above in
    let same : x ≡ v /ℚ (r +ℚ v) = share_of r beta v c.requires.shape.above mean in
    let parts : ratio ≡ beta.num over ((beta.num + beta.den) * r.den) =
    rw (
      c.from.ensures,
      c.from-2.ensures,
      c.from-3.ensures,
      c.from-4.ensures,
      c.num.ensures.part,
      c.den.ensures.part,
      c.den-2.ensures.part,
      c.num-2.ensures.part,
    ) at c.in-Ok-make.ensures.0 in
    let part : ratio *ℚ whole r.den ≡ x = ap (λ t. t *ℚ whole r.den) parts
    ∙ over_part beta.num (beta.num + beta.den) r.den (omega (arith, beta.positive)) r.positive ∙ ratio_is beta in
    IfOk-weaker c.compound_direct.result _ _ (λ made told. IfSome_then made told (λ grid all.
    all (gamma r (v /ℚ (r +ℚ v))) (rw (c.den-3.ensures.part, c.num-3.ensures.part) (gamma_steps r _ ratio (part ∙ same)))
    (rw same at c.gamma_start-start.ensures.holds)))
    c.compound_direct.ensures.encloses
