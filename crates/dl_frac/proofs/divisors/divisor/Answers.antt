-- One step of Euclid, and the end where nothing is left.
use Rattle.dl_frac.proofs.Common.{◌<◌, ◌∙◌, sym, subst, gcd_pos, gcd-zero, gcd-mod}
use Rattle.dl_frac.proofs.divisors.divisor.Goals as goal

pub steps-preserved : goal.steps-preserved
steps-preserved c = gcd-mod c.steps.x c.steps.y ∙ c.steps.invariant

pub returns : goal.returns
returns c =
    let same = sym (gcd-zero c.steps.x c.steps.y c.steps-test.false) ∙ c.steps.invariant in
    record { value = same; positive = λ h. subst (λ n. 0 < n) (sym same) (gcd_pos c.args.a c.args.b h) }
