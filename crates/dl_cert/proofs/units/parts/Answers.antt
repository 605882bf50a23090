use Rattle.dl_cert.proofs.Common.{ℕ, ◌≡◌, ◌≤◌, arith, sym, subst, Fraction, whole, ◌≤ℚ◌, one_pos, over_self, GammaCount, UnitOfPlan, IsValidUnit, le_over}
use Rattle.dl_cert.proofs.UnitBases.{gamma_of_plan}
use Rattle.dl_cert.proofs.units.parts.Goals as goal

-- a whole shape is at most 10,000
few_parts : (h : ℕ) (u : UnitOfPlan) (shape mean : Fraction) → IsValidUnit h u → u.freq ≡ GammaCount shape mean
    → shape.den ≤ 1 → shape.num ≤ 10000
few_parts h u shape mean valid is low =
    omega (
      arith,
      le_over shape.num shape.den 10000 1 shape.positive one_pos
          (subst (λ x. x ≤ℚ whole 10000) (sym (over_self shape)) (gamma_of_plan h u shape mean valid is).shape.few),
    )

pub overflow_cast-result : goal.overflow_cast-result
overflow_cast-result c =
    let few = few_parts c.requires.valid.0 c.args.unit.now c.in-Gamma.shape c.in-Gamma.mean c.requires.valid.1
    c.in-Gamma.is (omega (arith, c.den.ensures.part)) in
    omega (arith, c.num-in-Gamma.ensures.part)

pub returns-else-den-gt1-clause-few : goal.returns-else-den-gt1-clause-few
returns-else-den-gt1-clause-few c =
    let few = few_parts c.requires.valid.0 c.args.unit.now c.in-Gamma.shape c.in-Gamma.mean c.requires.valid.1
    c.in-Gamma.is (omega (arith, c.den.ensures.part)) in
    omega (arith, c.num-in-Gamma.ensures.part)
