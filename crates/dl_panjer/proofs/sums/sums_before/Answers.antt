use Rattle.dl_panjer.proofs.Common.{ℕ, suc, ◌≡◌, ◌-◌, ◌<◌, ◌≤◌, ◌∙◌, Bool, eqb, List, length, take, get_or, arith, ap, All, sum_by, not, low_at, high_at, Item, coefficient, given, next_sum, All-take}
use Rattle.dl_panjer.proofs.ItemSums.{items_next_sum}
use Rattle.dl_panjer.proofs.Reading.{front, back}
use Rattle.dl_panjer.proofs.sums.sums_before.Goals as goal

-- what the items that are gone over give is what all of them do
all_next_sum : (b : Bool) (ends : ℕ → ℕ) (items : List Item) {r m : ℕ} → 1 ≤ m → r ≤ length items
    → All (λ item. 0 < item.amount) items
    → ((k : ℕ) (d : Item) → k < r → (get_or items k d).amount ≤ m)
    → ((k : ℕ) (d : Item) → r ≤ k → k < length items → m < (get_or items k d).amount)
    → sum_by (given b ends m) (take r items) ≡ next_sum (coefficient b items) ends (m - 1)
all_next_sum b ends items {r} {m} some bound positive before after =
    let e : m ≡ suc (m - 1) = omega (arith, some) in
    ap (λ k. sum_by (given b ends k) (take r items)) e
    ∙ items_next_sum b (m - 1) r ends items (All-take (λ item. 0 < item.amount) r items positive)
    (rw (← e) (front (λ item. item.amount ≤ m) items r bound before))
    (rw (← e) (back (λ item. m < item.amount) items r bound after))

pub returns-clause-low : goal.returns-clause-low
returns-clause-low g c =
    c.sums_over.ensures.low ∙ all_next_sum (not (eqb g.row.BY_AMOUNT 0)) (low_at c.args.cells.now) c.args.items.now
    c.requires.cells.size.some c.count_at_most.ensures.bound c.requires.no_zero c.count_at_most.ensures.before
    c.count_at_most.ensures.after

pub returns-clause-high : goal.returns-clause-high
returns-clause-high g c =
    c.sums_over.ensures.high ∙ all_next_sum (not (eqb g.row.BY_AMOUNT 0)) (high_at c.args.cells.now) c.args.items.now
    c.requires.cells.size.some c.count_at_most.ensures.bound c.requires.no_zero c.count_at_most.ensures.before
    c.count_at_most.ensures.after
