-- One item more is mapped.
use Rattle.dl_severity.proofs.Mapped.{ceded_more}
use Rattle.dl_severity.proofs.Common.{ℕ, ap, map, take_all, ◌∙◌, with_amount, kept, Option, Some, None, rules, IsSome, MatchOption}
use Rattle.dl_severity.proofs.kept_whole.items_whole.Goals as goal

-- none means that P fails, so where P holds the result is some
there : (P : Type 0) (Q : ℕ → Type 0) (o : Option ℕ) → MatchOption o (¬ P) Q → P → IsSome o
there _ _ None absent holds = absurd (absent holds)
there _ _ (Some _) _ _ = search rules

pub items-preserved : goal.items-preserved
items-preserved c =
    ceded_more c.args.cede.now c.args.items.now c.items.made.items _ c.items.item-index c.unwrap-amount.result _
    c.items-test.true c.items.invariant c.in_ok-push.ensures.items (rw c.unwrap-amount.ensures at c.at.ensures.value)

pub unwrap-amount-requires : goal.unwrap-amount-requires
unwrap-amount-requires c = there _ _ _ c.at.ensures.value (c.requires.whole c.items.item-index _ c.items-test.true)

pub returns : goal.returns
returns c =
    c.items.invariant ∙ ap (map (with_amount (λ x. (kept c.args.cede.now x).num)))
    (take_all c.items.item-index c.args.items.now c.items-test.false)
