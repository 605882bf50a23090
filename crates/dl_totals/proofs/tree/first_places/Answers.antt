use Rattle.dl_totals.proofs.Common.{◌≡◌, ◌+◌, ◌∷◌, ◌++◌, [], length, get_or, arith, ap, subst, ◌∙◌, length-append, ℕ, nat_lt, nat_eq, cond, inl, inr, cases_lt, nat_tests, get_or_append_left, sum_by_push, get_or-append_seam, sum_by}
use Rattle.dl_totals.proofs.tree.first_places.Goals as goal

pub loop-at-preserved : goal.loop-at-preserved
loop-at-preserved c =
    let old = c.loop-at.roots.items in
    let at : ℕ = c.loop-at.at in
    let items = c.in_ok-push.ensures.items in
    let many : length old ≡ at = c.loop-at.invariant.many in
    record {
      inside = omega (arith, c.loop-at-test.true, c.loop-at.auto.at-end);
      many = omega (arith, ap length items, length-append old (at ∷ []), many);
      each = λ i d h. ap (λ t. get_or t i d) items ∙ elim (cases_lt i at) [
        | inl before ↦ get_or_append_left old (at ∷ []) d i (omega (arith, before, many)) ∙ c.loop-at.invariant.each i d before
        | inr after ↦
            let last : i ≡ length old = omega (arith, after, h, many) in
            ap (λ t. get_or (old ++ at ∷ []) t d) last ∙ get_or-append_seam old at [] d ∙ omega (arith, last, many)
      ];
      once = λ i. omega (
        arith,
        ap (sum_by (λ p. cond (nat_eq i p) 1 0)) items,
        sum_by_push (λ p. cond (nat_eq i p) 1 0) old at,
        c.loop-at.invariant.once i,
        one_more at i,
      );
    }
  where
    one_more : (at i : ℕ) → cond {A = ℕ} (nat_lt i at) 1 0 + cond (nat_eq i at) 1 0 ≡ cond (nat_lt i (at + 1)) 1 0
    one_more at i = grind (arith, nat_tests)

pub returns-clause-once : goal.returns-clause-once
returns-clause-once c i =
    let all : c.loop-at.at ≡ c.args.many = omega (arith, c.loop-at-test.false, c.loop-at.invariant.inside, c.loop-at.auto.at-end) in
    subst (λ n. sum_by (λ p. cond (nat_eq i p) 1 0) c.loop-at.roots.items ≡ cond (nat_lt i n) 1 0) all
    (c.loop-at.invariant.once i)
