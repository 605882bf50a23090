use Rattle.dl_cert.proofs.Common.{◌∙◌, length, ap, arith, low_at, high_at}
use Rattle.dl_cert.proofs.Ladder.{renamed, one_step, none_first, first_all, cert_size}
use Rattle.dl_cert.proofs.SeveralFacts.{if_ok_five}
use Rattle.dl_cert.proofs.making.whole.Goals as goal

pub zero-requires : goal.zero-requires
zero-requires c = (omega arith, cert_size c.args.plan.now c.requires.plan)

pub returns-in-Some-clause-ends : goal.returns-in-Some-clause-ends
returns-in-Some-clause-ends c = renamed (rw c.in-Some.is at c.requires.sum) (first_all c.args.plan.now)

pub returns-in_ok-grid-in-None-clause-ends : goal.returns-in_ok-grid-in-None-clause-ends
returns-in_ok-grid-in-None-clause-ends c =
    let plan = c.args.plan.now in
    let told = rw c.in-None.is at c.requires.sum in
    let e = c.add.ensures in
    let made = c.in_ok-grid-in-None.ensures in
    if_ok_five c.add.result _ _ _ _ _ _ (λ f step grid is_grid count text. rw step (renamed
    (one_step f.grid told.0 text count (λ y. ap (λ g. low_at g y) grid ∙ made.low y)
    (λ y. ap (λ g. high_at g y) grid ∙ made.high y) is_grid (ap length grid ∙ made.cells))
    (λ i. none_first plan (length plan.units) told.1 i ∙ first_all plan i))) e.step e.grid e.is_grid e.count e.text
