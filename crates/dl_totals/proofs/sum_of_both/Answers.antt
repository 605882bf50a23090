use Rattle.dl_totals.proofs.Common.{ap, arith, subst, sym, ◌∙◌, ◌++◌, EnclosesSum, Some, IfSome, length, ◌≡◌, append-nil}
use Rattle.dl_totals.proofs.Added.{two_sums}
use Rattle.dl_totals.proofs.sum_of_both.Goals as goal

pub returns-in_ok-both-in-Some-Some-clause-encloses : goal.returns-in_ok-both-in-Some-Some-clause-encloses
returns-in_ok-both-in-Some-Some-clause-encloses g c us vs w z of_first of_second =
    let parts = c.in-Some-Some in
    let both = c.in_ok-both-in-Some-Some in
    let a = subst (λ sum. EnclosesSum sum us) parts.is-0 of_first in
    let b = subst (λ sum. EnclosesSum sum vs) parts.is-1 of_second in
    let in_a = subst (λ sum. IfSome sum (λ g. length g ≡ c.args.cells)) parts.is-0 c.requires.in_first in
    let in_b = subst (λ sum. IfSome sum (λ g. length g ≡ c.args.cells)) parts.is-1 c.requires.in_second in
    two_sums parts.a parts.b both.both c.args.cells us vs w z (omega (arith, in_a)) (omega (arith, in_b)) both.ensures.cells
    both.ensures.convolution a b

pub returns-in-Some-None-clause-encloses : goal.returns-in-Some-None-clause-encloses
returns-in-Some-None-clause-encloses g c us vs w z of_first of_second =
    let parts = c.in-Some-None in
    let a = subst (λ sum. EnclosesSum sum us) parts.is-0 of_first in
    let none = subst (λ sum. EnclosesSum sum vs) parts.is-1 of_second in
    subst (λ ls. EnclosesSum (Some parts.a) ls) (sym (ap (λ t. us ++ t) none ∙ append-nil us)) a
