-- The number for the next shape, where there is one.
use Rattle.dl_rules.proofs.Common.{◌≡◌, ◌∙◌, ◌||◌, Bool, true, false, refl, sym, ap₂, passes, most_expected, raised, is_coarse_under}
use Rattle.dl_rules.proofs.factor.is_large_under.Goals as goal

pub returns-in-Some : goal.returns-in-Some
returns-in-Some c =
    let told = rw c.in-Some.is at c.claims_under.ensures in
    c.passes.ensures ∙ ap₂ (λ b x. b || passes x most_expected) (sym told.0) told.1

large : (b rest : Bool) → (b ≡ false → ⊥) → true ≡ (b || rest)
large true rest never = refl
large false rest never = absurd (never refl)

pub returns-in-None : goal.returns-in-None
returns-in-None c =
    large (is_coarse_under c.args.shape c.args.above) (passes (raised c.args.shape c.args.above) most_expected)
    (rw c.in-None.is at c.claims_under.ensures)
