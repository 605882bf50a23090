use Rattle.dl_product.proofs.Common.{◌≡◌, ◌∙◌, arith, cases_lt, inl, inr, get_or_past, dvd_refl, dvd_trans, mod-eq-zero_of_dvd, gcd, cases_eq, gcd_is}
use Rattle.dl_product.proofs.Apart.{off_finer}
use Rattle.dl_product.proofs.steps.step_with.Goals.{then-xs-i-ne0, else-xs-i-ne0}
use Rattle.dl_product.proofs.steps.step_with.Goals as goal

pub loop-i-init : goal.loop-i-init
loop-i-init c = record { divides = dvd_refl c.args.step; apart = λ i b. absurd (omega (arith, b)) }

pub returns-then-step-eq1-clause-divides : goal.returns-then-step-eq1-clause-divides
returns-then-step-eq1-clause-divides c = rw (← c.if-step-eq1.true) c.loop-i.invariant.divides

pub loop-i-preserved : goal.loop-i-preserved
loop-i-preserved c = elim c.if-xs-i-ne0.branch [
  | then-xs-i-ne0 w ↦
      let i = c.loop-i.i in
      let g = gcd_is c.loop-i.step i in
      let is : c.if-xs-i-ne0.step ≡ gcd c.loop-i.step i = w.step-is ∙ w.small_divisor-step.ensures in
      record {
        divides = rw is (dvd_trans _ g.0 c.loop-i.invariant.divides);
        apart = λ j b off. elim (cases_eq j i) [
          | inl e ↦ absurd (omega (arith, mod-eq-zero_of_dvd _ {n = i} g.1, rw (e, is) at off))
          | inr e ↦ c.loop-i.invariant.apart j (omega (arith, b, e)) (off_finer _ c.loop-i.step j g.0 (rw is at off))
        ];
      }
  | else-xs-i-ne0 w ↦ record {
    divides = rw w.step-is c.loop-i.invariant.divides;
    apart = λ j b off. elim (cases_eq j c.loop-i.i) [
      | inl e ↦ rw e w.if-xs-i-ne0.false
      | inr e ↦ c.loop-i.invariant.apart j (omega (arith, b, e)) (rw w.step-is at off)
    ];
  }
]

pub returns-clause-divides : goal.returns-clause-divides
returns-clause-divides c = c.loop-i.invariant.divides

pub returns-clause-apart : goal.returns-clause-apart
returns-clause-apart c i off = elim (cases_lt i c.loop-i.i) [
  | inl b ↦ c.loop-i.invariant.apart i b off
  | inr b ↦ get_or_past c.args.xs.now i 0 (omega (arith, b, c.loop-i-test.false))
]
