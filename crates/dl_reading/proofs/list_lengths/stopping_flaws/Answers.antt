-- Where the rules are kept, the mixture is not too long.
use Rattle.dl_reading.proofs.Common.{at_if, else_first, is_long_mixture, not_at, flaws_of_mixture, whole}
use Rattle.dl_reading.proofs.ListLengths.{lengths_kept}
use Rattle.dl_reading.proofs.list_lengths.stopping_flaws.Goals as goal

pub returns-then-keep_lengths-clause-short : goal.returns-then-keep_lengths-clause-short
returns-then-keep_lengths-clause-short c =
    let bounds = c.args.bounds in
    let mix = c.args.mix.now in
    let keeps = lengths_kept c.mixture_lists-lists.result (flaws_of_mixture bounds 0 (whole 1) mix)
    (c.mixture_lists-lists.ensures 0 (whole 1)) (c.keep_lengths.ensures.0 c.if-keep_lengths.true) in
    not_at (is_long_mixture bounds mix) mix.span (else_first (at_if (is_long_mixture bounds mix) mix.span) _ keeps.1.1.0)
