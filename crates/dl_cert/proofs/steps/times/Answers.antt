use Rattle.dl_cert.proofs.Common.{ap, ◌∙◌, length}
use Rattle.dl_cert.proofs.Ladder.{times_step}
use Rattle.dl_cert.proofs.SeveralFacts.{if_ok_five}
use Rattle.dl_cert.proofs.steps.times.Goals as goal

pub returns-clause-ends : goal.returns-clause-ends
returns-clause-ends c =
    let e = c.add.ensures in
    if_ok_five c.add.result _ _ _ _ _ _ (λ f step grid is_grid count text made x y w m n within.
    rw step (times_step f.grid w c.requires.few text count m n within (rw grid c.in_ok-grid.ensures.convolution) is_grid
    (ap length grid ∙ c.in_ok-grid.ensures.cells))) e.step e.grid e.is_grid e.count e.text
