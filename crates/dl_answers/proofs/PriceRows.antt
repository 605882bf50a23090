-- The answer to an ask for a price.
use Rattle.dl_answers.proofs.Common.{ℕ, ◌≡◌, ◌-◌, ◌^◌, ◌≤◌, List, length, get_or, arith, Any, None, ◌over◌, ◌+ℚ◌, Iv, low_at, spread, Holds, One, Mean, partial_sums, total, GridEncloses, AreDeclared, low_cdf, at_least_wider, Plan, IsValid, Row, total_budget, mean_budget, ask_budget, in_digits, IsBelow, at_the_end, IsAnswerTo, total_error, IsTotalOf, IsMeanOf, Prints, Loss, ◌⊎◌, AreTermsOf, AreQuantiles, price_width, IsFirstFound, PricedTerm, Price, AtLeast, price_budget, IsPriceBetween, IsPrice, IsBeyondSome, total_mean, total_price, Term, any_here}
use Rattle.dl_plan.specs.declared.settings.Ask.TheVariants as asks
use Rattle.dl_answers.proofs.Losses.{losses_of, losses_declared, encloses_losses, told_of, holds_told, holds_back, quantiles_back}
use Rattle.dl_answers.proofs.Printed.{Widens, are_ends, given_widens}
use Rattle.dl_answers.proofs.GoodRows.{ends_below}
use Rattle.dl_answers.proofs.Tails.{tail_reached}

price_widens : (plan : Plan) (terms : List Term) → Widens (IsPriceBetween plan terms)
price_widens plan terms l m h k low high b = record {
  holds = λ priced are is. given_widens plan One (Price priced) l m h k low high (b.holds priced are is);
  least = λ priced are. at_least_wider _ _ _ _ (b.least priced are) low;
}

-- the quantile at the probability of this term lies past the grid
abbrev pub IsPastIn : {B : ℕ} → List (Iv B) → Term → Type 0
IsPastIn {B} g term = IsFirstFound (low_cdf (2 ^ B) (low_at g)) term.p (length g) None

module _ {B : ℕ} {plan : Plan} {g : List (Iv B)} {mean : Iv B} (terms : List Term) {d lo hi : ℕ} {row : Row}
    (valid : IsValid plan) (t : IsTotalOf plan g) (m : IsMeanOf plan mean) where
  pub price_answer : ¬ Any (IsPastIn g) terms
      → ((us : List Loss) (priced : List PricedTerm) → AreDeclared us → GridEncloses g (total us)
      → Holds (partial_sums us Mean) (partial_sums us One) (mean.lo over 2 ^ B) (mean.hi over 2 ^ B)
      → AreTermsOf terms priced → AreQuantiles (partial_sums us) priced
      → Holds (partial_sums us (Price priced)) (partial_sums us One) (lo over 2 ^ B) (hi over 2 ^ B))
      → ((us : List Loss) (priced : List PricedTerm) → AreDeclared us → GridEncloses g (total us)
      → Holds (partial_sums us Mean) (partial_sums us One) (mean.lo over 2 ^ B) (mean.hi over 2 ^ B)
      → AreTermsOf terms priced
      → AtLeast (partial_sums us (Price priced)) (partial_sums us One) (lo over 2 ^ B))
      → ((w s : ℕ) → mean.hi - mean.lo ≤ w → spread g ≤ s → hi - lo ≤ price_width terms w (length g) s)
      → Prints (2 ^ B) lo hi d row
      → IsPrice plan terms d (in_digits (2 ^ B) (price_budget (2 ^ B) plan terms) d) row
  price_answer inside holds least width printed = record {
    reached = λ i default here.
        tail_reached (get_or terms i default).p
        (λ past. inside (any_here (IsPastIn g) terms i default here past)) valid t;
    ends = are_ends B (IsPriceBetween plan terms) lo hi d (price_budget (2 ^ B) plan terms) row
        (price_widens plan terms) printed (record {
          holds = λ priced are is. holds_told valid (Price priced) (total_price priced) _ _
              (holds (losses_of plan) priced (losses_declared valid) (encloses_losses valid t) mean_back are
              (quantiles_back valid priced is));
          least = λ priced are. told_of valid (λ Q O. AtLeast Q O (lo over 2 ^ B)) (Price priced) (total_price priced)
              (least (losses_of plan) priced (losses_declared valid) (encloses_losses valid t) mean_back are);
        }) (omega (arith, wide));
  }
    where
      mean_back : Holds (partial_sums (losses_of plan) Mean) (partial_sums (losses_of plan) One) (mean.lo over 2 ^ B)
          (mean.hi over 2 ^ B)
      mean_back = holds_back valid Mean total_mean _ _ m.holds

      wide : hi - lo ≤ price_budget (2 ^ B) plan terms
      wide = rw t.cells at
          (width (mean_budget (2 ^ B) plan) (total_budget (2 ^ B) plan) (omega (arith, m.narrow)) t.narrow)

-- where the quantile of some term lies past the grid, the distribution is below its probability, or a little above
pub price_past : {B : ℕ} {plan : Plan} {g : List (Iv B)} (terms : List Term) → IsValid plan → IsTotalOf plan g
    → Any (IsPastIn g) terms
    → Any (λ term. IsBelow plan (at_the_end plan) (term.p +ℚ total_error (2 ^ B) plan)) terms
price_past terms valid t (k, term, inside, is, past) =
    (k, term, inside, is, ends_below past valid t)

pub price_asked : (S : ℕ) {plan : Plan} {slice terms : List Term} {d : ℕ} {row : Row} → slice ≡ terms
    → IsPrice plan slice d (in_digits S (price_budget S plan slice) d) row ⊎ IsBeyondSome plan slice
    (total_error S plan) row
    → IsAnswerTo S plan d (asks.Price terms) row
unfolding ask_budget
price_asked S same told = rw (← same) told
