-- No rule is broken, so the numbers are whole and small.
use Rattle.dl_rules.proofs.Common.{◌∙◌, ◌≤◌, refl, sym, ap, subst, arith, most_claims, Fraction, ◌/ℚ◌, whole_num, shape_of, IsFreqChecked, freq_with}
use Rattle.dl_plan.specs.declared.plan.Freq.TheVariants as of_plan
use Rattle.dl_rules.proofs.ExposedCounts.{whole_is, few_is}
use Rattle.dl_rules.proofs.Shapes.{admitted_some, is_admitted_since}
use Rattle.dl_rules.proofs.frequencies.exposed_count.Goals as goal

pub overflow_cast-result : goal.overflow_cast-result
overflow_cast-result c =
    let n = c.args.number in
    let kept = subst (λ f. IsFreqChecked f n) c.in-Fixed.is c.requires in
    let few : n.num ≤ most_claims = few_is most_claims n.num n (whole_is n kept.whole) kept.few in
    omega (arith, few, c.num.ensures.part)

pub overflow_cast-result-in-Binomial : goal.overflow_cast-result-in-Binomial
overflow_cast-result-in-Binomial c =
    let kept = subst (λ f. IsFreqChecked f c.args.number) c.in-Binomial.is c.requires in
    let few : c.trials.result ≤ most_claims = few_is most_claims c.trials.result
    (c.args.number /ℚ c.in-Binomial.chance) c.trials.ensures kept.few in
    omega (arith, few)

pub returns-in-Binomial : goal.returns-in-Binomial
returns-in-Binomial c =
    ap (λ k. of_plan.Binomial k c.in-Binomial.chance)
    (sym (whole_num c.trials.result) ∙ ap (λ (x : Fraction). x.num) c.trials.ensures)
    ∙ ap (λ f. freq_with f c.args.number) (sym c.in-Binomial.is)

pub unwrap-requires : goal.unwrap-requires
unwrap-requires c =
    let kept = subst (λ f. IsFreqChecked f c.args.number) c.in-Gamma.is c.requires in
    rw (c.shape.ensures, is_admitted_since (shape_of c.in-Gamma.variation) kept.few.shape.admitted) refl

pub returns-in-Gamma : goal.returns-in-Gamma
returns-in-Gamma c =
    ap (λ r. of_plan.Gamma r c.args.number)
    (admitted_some (shape_of c.in-Gamma.variation) c.unwrap.result (sym c.unwrap.ensures ∙ c.shape.ensures)).0
    ∙ ap (λ f. freq_with f c.args.number) (sym c.in-Gamma.is)
