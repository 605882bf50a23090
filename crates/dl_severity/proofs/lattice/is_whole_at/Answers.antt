-- What the map gives is whole, or there is none.
use Rattle.dl_severity.proofs.Common.{ℕ, ◌≡◌, ◌∙◌, IsTrue, Option, Some, None, refl, ap, Fraction, whole, IsWhole, kept, whole_den, ◌↔◌, MatchOption, is_some}
use Rattle.dl_severity.proofs.lattice.is_whole_at.Goals as goal

tells : (kept : Fraction) (answer : Option ℕ) → MatchOption answer (¬ IsWhole kept) (λ y. kept ≡ whole y)
    → IsTrue (is_some answer) ↔ IsWhole kept
tells kept None not_whole = (λ given. cc, λ is. absurd (not_whole is))
tells kept (Some y) is = (λ given. ap (λ z. z.den) is ∙ whole_den y, λ is_one. refl)

pub returns : goal.returns
returns c = rw c.is_some.ensures (tells (kept c.args.cede.now c.args.x) c.at.result c.at.ensures.value)
