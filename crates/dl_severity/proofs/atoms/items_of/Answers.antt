-- One amount with its weight more.
use Rattle.dl_severity.proofs.Common.{ℕ, ◌≡◌, ◌∙◌, ◌<◌, ◌+◌, List, ◌++◌, ◌∷◌, [], length, take, get_or, ap, sym, subst, Item, items_of}
use Rattle.dl_severity.proofs.Mapped.{items_of-more}
use Rattle.dl_severity.proofs.atoms.items_of.Goals as goal

step : (xs ws : List ℕ) (made new : List Item) (i : ℕ) → i < length xs → length xs ≡ length ws
    → made ≡ items_of (take i xs) (take i ws)
    → new ≡ made ++ record { amount = get_or xs i 0; weight = get_or ws i 0 } ∷ []
    → new ≡ items_of (take (i + 1) xs) (take (i + 1) ws)
step xs ws made new i h lengths so_far pushed =
    pushed ∙ ap (λ (items : List Item). items ++ record { amount = get_or xs i 0; weight = get_or ws i 0 } ∷ []) so_far
    ∙ sym (items_of-more xs ws i 0 h (subst (λ n. i < n) lengths h))

pub amounts-preserved : goal.amounts-preserved
amounts-preserved c = step c.args.amounts.now c.args.weights.now c.amounts.items.items _ c.amounts.at
    c.amounts-test.true c.requires c.amounts.invariant c.in_ok-push.ensures.items
