-- The first layer against the others, and the others among themselves.
use Rattle.dl_plan.proofs.Common.{List, sym, subst, AllPairs, CedeLayer, Overlap, AllPairs-cons}
use Rattle.dl_plan.proofs.Apart.{first_apart, rest_apart}
use Rattle.dl_plan.proofs.layers.+are_apart.Goals as goal

abbrev pub are_apart : List CedeLayer → Type 0
are_apart layers = AllPairs (λ (l : CedeLayer) (m : CedeLayer). ¬ Overlap l m) layers

pub returns-then-is_apart : goal.returns-then-is_apart
returns-then-is_apart t c =
    let parts = c.in-Some.ensures.cases.0 in (
      λ given. subst are_apart (sym parts)
          (AllPairs-cons (λ (l : CedeLayer) (m : CedeLayer). ¬ Overlap l m) c.in-Some.first.now c.in-Some.others.now
          (c.is_apart.ensures.0 c.if-is_apart.true) (c.are_apart.ensures.0 given)),
      λ apart. c.are_apart.ensures.1 (rest_apart c.in-Some.first.now c.in-Some.others.now
          (subst are_apart parts apart)),
    )

pub returns-else-is_apart : goal.returns-else-is_apart
returns-else-is_apart t c = (
  λ given. absurd (cc (c.if-is_apart.false, given)),
  λ apart. c.is_apart.ensures.1 (first_apart c.in-Some.first.now c.in-Some.others.now
      (subst are_apart c.in-Some.ensures.cases.0 apart)),
)
