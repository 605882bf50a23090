-- The whole weights are those of the probabilities, and the numbers are those of the counts.
use Rattle.dl_rules.proofs.Common.{◌∙◌, ◌≤◌, refl, length, map, zip, ap, sym, subst, List, All, length-map, most_count, Fraction, HasDistribution, pairs_of_counts, probs_of, probability, weights_length, weighed_are, probabilities_fine, some_since}
use Rattle.dl_rules.proofs.ListedCounts.{same_length, small_values, small_table, table_admitted}
use Rattle.dl_rules.proofs.counts.count_table.Goals as goal

pub unwrap-weights-requires : goal.unwrap-weights-requires
unwrap-weights-requires c =
    some_since c.in_ok-weights_among.field-0 _ _ c.in_ok-weights_among.ensures (λ coarse. absurd (cc (
      rw c.as_slice-values.ensures at coarse,
      probabilities_fine (probs_of c.args.counts.now c.args.probs.now) c.requires.shares,
    )))

pub numbers_of-requires : goal.numbers_of-requires
numbers_of-requires c =
    subst (λ (xs : List Fraction). All (λ (x : Fraction). x.num ≤ most_count) xs) (sym c.as_slice-values.ensures)
    (small_values c.args.counts.now c.args.probs.now c.requires)

pub merge-requires-clause-lengths : goal.merge-requires-clause-lengths
merge-requires-clause-lengths c =
    let counts = c.args.counts.now in
    let probs = c.args.probs.now in
    let numbers = c.deref.ensures.value ∙ c.in_ok-numbers.ensures
    ∙ ap (map (λ (x : Fraction). x.num)) c.as_slice-values.ensures in
    let is = rw (c.unwrap-weights.ensures, c.as_slice-values.ensures) at c.in_ok-weights_among.ensures in
    ap length numbers ∙ length-map counts.values (λ (x : Fraction). x.num)
    ∙ sym (weights_length (probs_of counts probs) c.unwrap-weights.result is.1 ∙ same_length counts probs c.requires.lengths)

pub returns : goal.returns
returns c =
    let counts = c.args.counts.now in
    let probs = c.args.probs.now in
    let sev = c.in_ok-table.table in
    let numbers = c.deref.ensures.value ∙ c.in_ok-numbers.ensures
    ∙ ap (map (λ (x : Fraction). x.num)) c.as_slice-values.ensures in
    let is = rw (c.unwrap-weights.ensures, c.as_slice-values.ensures) at c.in_ok-weights_among.ensures in
    let same = ap length numbers ∙ length-map counts.values (λ (x : Fraction). x.num)
    ∙ sym (same_length counts probs c.requires.lengths) in
    let means : HasDistribution sev (pairs_of_counts counts probs) =
    λ x. c.in_ok-table.ensures x ∙ ap (λ ps. probability ps x)
    (weighed_are c.deref.result.now (probs_of counts probs) c.unwrap-weights.result same is.1
    ∙ ap (λ xs. zip xs (probs_of counts probs)) numbers) in
    let few = small_table counts probs c.requires sev means in record {
      table = (sev.items, sev.total, refl, means);
      valid = (sev.weighted, few);
      expected = table_admitted sev few;
    }
