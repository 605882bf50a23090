use Rattle.dl_iv.proofs.Common.{◌≡◌, ℕ, ◌≤◌, ◌^◌, List, take, sum_by, sym, ap, subst, ◌∙◌, ◌over◌, ◌≤ℚ◌, sum_over, length, take_all}
use Rattle.dl_iv.proofs.SumLaws.{sum_low, sum_high}
use Rattle.dl_iv.proofs.interval.Iv.sum.Goals as goal

-- what was summed up to the end is the whole sum
whole_sum : {A : Type 0} (f : A → ℕ) (xs : List A) (i n : ℕ) → length xs ≤ i → n ≡ sum_by f (take i xs)
    → n ≡ sum_by f xs
whole_sum f xs i n past e = e ∙ ap (λ t. sum_by f t) (take_all i xs past)

pub returns-clause-holds : goal.returns-clause-holds
returns-clause-holds g c xs p =
    let items = c.args.items.now in
    let past = c.loop-item-test.false in
    record {
      low = subst (λ n. n over 2 ^ g.row.B ≤ℚ sum_over xs (λ t. t))
          (sym (whole_sum _ items _ _ past c.loop-item.invariant.low)) (sum_low p);
      high = subst (λ n. sum_over xs (λ t. t) ≤ℚ n over 2 ^ g.row.B)
          (sym (whole_sum _ items _ _ past c.loop-item.invariant.high)) (sum_high p);
    }
