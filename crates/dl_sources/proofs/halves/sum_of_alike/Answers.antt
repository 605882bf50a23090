use Rattle.dl_sources.proofs.Common.{ap, sym, subst, ◌∙◌, All, ◌&&◌, AreAlike}
use Rattle.dl_sources.proofs.ByHalves.{alike_means, alike_pooled, alike_sum}
use Rattle.dl_sources.proofs.halves.sum_of_alike.Goals as goal

pub returns-then-apart-clause-sum : goal.returns-then-apart-clause-sum
returns-then-apart-clause-sum g c =
    let units = c.args.units.now in
    let alike = subst (λ v. All (AreAlike v) units) (sym c.index-units-0.is) (c.requires.alike c.index-units-0.result) in
    alike_pooled units alike c.args.pooled
    (ap (λ b. c.args.pooled && b) (sym c.can_share.ensures) ∙ c.if-apart.true)

pub returns-then-apart-clause-means : goal.returns-then-apart-clause-means
returns-then-apart-clause-means g c =
    let units = c.args.units.now in
    let alike = subst (λ v. All (AreAlike v) units) (sym c.index-units-0.is) (c.requires.alike c.index-units-0.result) in
    alike_means units alike c.in_ok-mean.ensures.mean c.in_ok-mean.ensures.small c.in_ok-add_means.ensures

pub returns-clause-sum : goal.returns-clause-sum
returns-clause-sum g c =
    let units = c.args.units.now in
    let alike = subst (λ v. All (AreAlike v) units) (sym c.index-units-0.is) (c.requires.alike c.index-units-0.result) in
    let sum = c.in_ok-sum.ensures in
    alike_sum units alike c.args.pooled c.requires.on
    (ap (λ b. c.args.pooled && b) (sym c.can_share.ensures) ∙ c.if-apart.false) c.in_ok-one.ensures.grid sum.cells
    sum.encloses

pub returns-clause-means : goal.returns-clause-means
returns-clause-means g c =
    let units = c.args.units.now in
    let alike = subst (λ v. All (AreAlike v) units) (sym c.index-units-0.is) (c.requires.alike c.index-units-0.result) in
    let one = c.in_ok-one.ensures in
    alike_means units alike one.mean one.small c.in_ok-add_means-2.ensures
