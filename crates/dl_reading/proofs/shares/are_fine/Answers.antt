-- Equal shares are fine; a list is where its weights have a total within the bound.
use Rattle.dl_reading.proofs.Common.{◌≤◌, arith, refl, sym, subst, ◌over◌, replicate}
use Rattle.dl_reading.proofs.Shared.{equal_common, equal_weighing, list_test, weighing_fine}
use Rattle.dl_reading.proofs.shares.are_fine.Goals as goal

pub returns-in-None : goal.returns-in-None
returns-in-None c = rw c.in-None.is (λ n some few.
    sym (weighing_fine c.args.most (replicate n (1 over n)) _ (equal_weighing n (replicate n 1) some few refl)
    (subst (λ d. d ≤ c.args.most) (equal_common n some) (omega (arith, few, c.requires.equal)))))

pub returns-in-Some : goal.returns-in-Some
returns-in-Some c = rw c.in-Some.is (λ n some few.
    list_test c.args.most c.in-Some.probs c.requires.parts (rw c.in-Some.is at c.requires.shares) _ c.is_within.ensures)
