-- A percent has a hundred times the second part of its decimal.
use Rattle.dl_frac.proofs.Common.{◌≡◌, ◌∙◌, ◌^◌, true, sym, ap₂, list_any, whole, ◌over◌, ◌/ℚ◌, is_percent}
use Rattle.dl_frac.proofs.NumeralLaws.{percent_places}
use Rattle.dl_frac.proofs.reading.Reading.decimal.Goals as goal

pub returns-then-self-clause-ok : goal.returns-then-self-clause-ok
returns-then-self-clause-ok c = λ text r.
    let percent : list_any is_percent text ≡ true = sym r.percent ∙ c.if-self.true in
    rw percent (c.over_tens.ensures ∙ percent_places c.args.self.number c.args.self.places
    ∙ ap₂ (λ n k. (n over (10 ^ k)) /ℚ whole 100) r.number r.places)
