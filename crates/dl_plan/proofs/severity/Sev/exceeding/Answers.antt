-- The items above an amount are rising, of positive weights, and weigh no more.
use Rattle.dl_plan.proofs.Common.{ℕ, ◌≡◌, ◌∙◌, ◌<◌, List, nat_lt, length, true, false, ◌==◌, sym, ap, subst, arith, IsStrictlyIncreasing, ◌over◌, Item, Sev, amounts_of, weight_sum, weight_at, probability, conditioned, shares, nat_tests, common_steps, IsStrictlyIncreasing-filter, All-filter}
use Rattle.std.proofs.Common.{All, Bool}
use Rattle.dl_plan.proofs.Weights.{weight_sum_pos}
use Rattle.dl_plan.proofs.Shares.{items_over, none_over, filter-map, probability-conditioned, weight_over-le}
use Rattle.dl_plan.proofs.Means.{severity_total}
use Rattle.dl_plan.proofs.severity.Sev.exceeding.Goals as goal

kept_positive : (sev : Sev) (a : ℕ) → All (λ (i : Item). 0 < i.weight) (items_over a sev.items)
kept_positive sev a = All-filter (λ (i : Item). nat_lt a i.amount)
    (λ (i : Item). 0 < i.weight) sev.items sev.weighted.positive

is_zero : (n : ℕ) → true ≡ (n == 0) → n ≡ 0
is_zero n e = grind arith

not_zero : (n : ℕ) → false ≡ (n == 0) → 0 < n
not_zero n e = grind arith

kept_is : (sev : Sev) (a y : ℕ) → 0 < length (items_over a sev.items)
    → weight_at (items_over a sev.items) y over weight_sum (items_over a sev.items)
    ≡ probability (conditioned a (shares sev.items sev.total)) y
kept_is sev a y some = sym (probability-conditioned a sev.items sev.total y (severity_total sev)
    (weight_sum_pos (items_over a sev.items) some (kept_positive sev a)))

pub returns-then-is_empty : goal.returns-then-is_empty
returns-then-is_empty c =
    grind (arith, nat_tests, common_steps, is_zero c.in_ok-kept.kept.len c.if-is_empty.ensures, none_over)

pub from_rising-requires : goal.from_rising-requires
from_rising-requires c =
    let same : c.in_ok-kept.kept.items ≡ items_over c.args.attach c.args.self.now.items = c.in_ok-kept.ensures
    ∙ ap (items_over c.args.attach) c.as_slice.ensures in
    let above : ℕ → Bool = λ n. nat_lt c.args.attach n in record {
      some = omega (arith, c.in_ok-kept.kept.ok, not_zero c.in_ok-kept.kept.len c.if-is_empty.ensures);
      rising = subst IsStrictlyIncreasing (filter-map above (λ (i : Item). i.amount) _ ∙ sym (ap amounts_of same))
          (IsStrictlyIncreasing-filter above _ c.args.self.now.weighted.rising);
      positive = subst (λ xs. All (λ (i : Item). 0 < i.weight) xs) (sym same)
          (kept_positive c.args.self.now c.args.attach);
      within = omega (
        arith,
        ap weight_sum same,
        weight_over-le c.args.attach c.args.self.now.items,
        c.args.self.now.weighted.sum,
        c.args.self.now.weighted.within,
      );
    }

pub returns : goal.returns
returns c = λ y.
    let same : c.in_ok-kept.kept.items ≡ items_over c.args.attach c.args.self.now.items = c.in_ok-kept.ensures
    ∙ ap (items_over c.args.attach) c.as_slice.ensures in
    let some : 0 < length (items_over c.args.attach c.args.self.now.items) =
    subst (λ (xs : List Item). 0 < length xs) same
    (omega (arith, c.in_ok-kept.kept.ok, not_zero c.in_ok-kept.kept.len c.if-is_empty.ensures)) in
    c.from_rising.ensures y ∙ ap (λ (xs : List Item). weight_at xs y over weight_sum xs) same
    ∙ kept_is c.args.self.now c.args.attach y some
