-- Each weight is within the total, and over it is its probability.
use Rattle.dl_severity.proofs.Common.{◌∙◌, ◌+◌, ◌<◌, sum, map, ap, sym, subst, arith, take_all, numerator_over, common_pos, ap₂, List, ℕ, ◌++◌, ◌∷◌, [], map_more, ◌≡◌, length, get_or, take, Fraction}
use Rattle.dl_severity.proofs.Sharing.{part_within, weight_more, weighed_shares, sum_map, sum_one}
use Rattle.dl_severity.proofs.weights.over_common.Goals as goal

pub overflow_cast-numerator_over : goal.overflow_cast-numerator_over
overflow_cast-numerator_over c =
    let more =
    weight_more c.args.probs.now c.args.common c.probs.prob-index c.prob-item.result c.probs-test.true c.prob-item.is in
    let most = part_within c.args.probs.now c.args.common (c.probs.prob-index + 1) c.requires.common c.requires.one in
    omega (arith, more, most, c.numerator_over.ensures, c.requires.fine)

pub returns : goal.returns
returns c =
    let weights = c.from_vec.ensures ∙ c.probs.invariant
    ∙ ap (map (numerator_over c.args.common)) (take_all c.probs.prob-index c.args.probs.now c.probs-test.false) in
    record {
      shares = weighed_shares c.args.probs.now c.from_vec.result c.args.common weights c.requires.common;
      total = c.requires.common;
      sum = ap sum weights ∙ sum_map (numerator_over c.args.common) c.args.probs.now
          ∙ sum_one c.args.probs.now c.args.common c.requires.common c.requires.one;
      some = subst (λ n. 0 < n) (sym c.requires.common) (common_pos c.args.probs.now);
      within = c.requires.fine;
    }

one_more : (common : ℕ) (probs : List Fraction) (weights new : List ℕ) (i w : ℕ) (x : Fraction) → i < length probs
    → x ≡ get_or probs i x → weights ≡ map (numerator_over common) (take i probs) → w ≡ numerator_over common x
    → new ≡ weights ++ w ∷ [] → new ≡ map (numerator_over common) (take (i + 1) probs)
one_more common probs weights new i w x h is so_far weight pushed =
    let f : Fraction → ℕ = numerator_over common in
    pushed ∙ ap₂ (λ (xs : List ℕ) (y : ℕ). xs ++ y ∷ []) so_far (weight ∙ ap f is) ∙ sym (map_more f probs i x h)

pub probs-preserved : goal.probs-preserved
probs-preserved c =
    one_more c.args.common c.args.probs.now c.probs.weights.items _ c.probs.prob-index c.numerator_over.result
    c.prob-item.result c.probs-test.true c.prob-item.is c.probs.invariant c.numerator_over.ensures
    c.in_ok-push.ensures.items
