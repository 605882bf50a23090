-- Where no clause is made, the severity is its own.
use Rattle.dl_reading.proofs.Common.{◌≡◌, ◌∙◌, refl, sym, ap, Clause, Pairs, Span, probability, pairs_of, MadeClause, made_pairs}
use Rattle.dl_reading.specs.declared.made.MadeClause.TheVariants.{Missing, TooFine, Whole}
use Rattle.dl_reading.proofs.Meaning.{own_means}
use Rattle.dl_reading.proofs.severity.final_severity.Goals as goal

none_made : (made : MadeClause) (ps : Pairs) → ((clause : Clause) (span : Span) → made ≡ Whole clause span → ⊥)
    → made_pairs made ps ≡ ps
none_made Missing ps h = refl
none_made TooFine ps h = refl
none_made (Whole clause span) ps h = absurd (h clause span refl)

pub returns-in_default : goal.returns-in_default
returns-in_default c = λ x.
    own_means c.args.layered x
    ∙ ap (λ ps. probability ps x) (sym (none_made c.args.occ.now (pairs_of c.args.layered) c.in_default.not-Whole))
