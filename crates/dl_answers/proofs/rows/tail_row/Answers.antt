use Rattle.dl_answers.proofs.Common.{inl, inr, refl}
use Rattle.dl_answers.proofs.GoodRows.{ends_below}
use Rattle.dl_answers.proofs.Tails.{tail_answer}
use Rattle.dl_answers.proofs.rows.tail_row.Goals as goal

pub returns-in-Some-clause-tail : goal.returns-in-Some-clause-tail
returns-in-Some-clause-tail g c = λ plan valid t m. inl (
    tail_answer (λ none. let some = c.in-Some.ensures.none.1 none in cc) c.in-Some.ensures.holds c.in-Some.ensures.width
    c.requires.level valid t m c.ends_row.ensures.ends)

pub returns-in-None-clause-tail : goal.returns-in-None-clause-tail
returns-in-None-clause-tail g c = λ plan valid t m. inr (record {
  past = c.beyond_row.ensures.ends;
  below = ends_below (c.in-None.ensures.none.0 refl) valid t;
})
