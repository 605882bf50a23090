-- The trials and the shape are those of the text.
use Rattle.dl_rules.proofs.Common.{◌∙◌, Some, sym, ap, most_claims, ◌/ℚ◌, Exposed, has_too_many_claims}
use Rattle.dl_rules.proofs.ExposedCounts.{passes_whole}
use Rattle.dl_rules.proofs.frequencies.exposed_too_many.Goals as goal

pub returns-in-Binomial : goal.returns-in-Binomial
unfolding has_too_many_claims
returns-in-Binomial c = λ e.
    passes_whole most_claims c.trials.result (c.args.number /ℚ c.in-Binomial.chance) c.trials.ensures
    ∙ ap (λ f. has_too_many_claims (Exposed e f) (Some c.args.number) c.args.above.now) (sym c.in-Binomial.is)
