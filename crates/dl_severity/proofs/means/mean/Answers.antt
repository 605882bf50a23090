-- The sum of amount times weight over the total.
use Rattle.dl_severity.proofs.Common.{ℕ, ◌*◌, ◌<◌, ◌≤◌, inl, inr, subst, cases_lt, FitsFrac, over_same, ◌∙◌, ap, sym, arith, ◌over◌, weight_sum, over_fits, given_ok, given_value, severity_total, frac_bound, most_amount, most_weights, weighted_sum, mean-shares}
use Rattle.dl_severity.proofs.means.mean.Goals as goal

-- a mean of amounts up to 2^22 with parts of 62 bits, or that number itself
mean_fits : (n t : ℕ) → 0 < t → t ≤ most_weights → n ≤ most_amount * t → FitsFrac (n over t)
mean_fits n t some few within = elim (cases_lt n frac_bound) [
  | inl below ↦ over_fits n t some below (omega (arith, few))
  | inr far ↦ subst FitsFrac (over_same most_amount 1 n t (omega arith) some (omega (arith, few, within, far)))
      (over_fits most_amount 1 (omega arith) (omega arith) (omega arith))
]

pub make-requires : goal.make-requires
make-requires c = severity_total c.args.sev.now

pub unwrap-requires : goal.unwrap-requires
unwrap-requires c =
    given_ok _ (c.weighted_sum-sum.result over c.args.sev.now.total) c.make.ensures
    (mean_fits c.weighted_sum-sum.result c.args.sev.now.total (severity_total c.args.sev.now)
    c.args.sev.now.weighted.within
    (omega (arith, c.weighted_sum-sum.ensures.small, ap weight_sum c.as_slice.ensures, c.args.sev.now.weighted.sum)))

pub returns : goal.returns
returns c =
    given_value _ (c.weighted_sum-sum.result over c.args.sev.now.total) c.unwrap.result c.make.ensures c.unwrap.ensures
    ∙ ap (λ n. n over c.args.sev.now.total) (c.weighted_sum-sum.ensures.value ∙ ap weighted_sum c.as_slice.ensures)
    ∙ sym (mean-shares c.args.sev.now.items c.args.sev.now.total (severity_total c.args.sev.now))
