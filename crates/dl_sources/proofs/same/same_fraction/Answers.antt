use Rattle.dl_sources.proofs.Common.{ap, sym, ◌∙◌, Decides-eqb, Fraction, same}
use Rattle.dl_sources.proofs.same.same_fraction.Goals as goal

pub returns-then-num : goal.returns-then-num
returns-then-num c = (
  λ h. same c.args.a c.args.b (sym c.num.ensures.part ∙ c.if-num.true ∙ c.num-2.ensures.part)
      (sym c.den.ensures.part ∙ (Decides-eqb c.den.result c.den-then-num.result).0 h ∙ c.den-then-num.ensures.part),
  λ e. (Decides-eqb c.den.result c.den-then-num.result).1
      (c.den.ensures.part ∙ ap (λ (f : Fraction). f.den) e ∙ sym c.den-then-num.ensures.part),
)
