-- The probabilities of the terms of a price.
use Rattle.dl_plan.proofs.Common.{ℕ, ◌≡◌, ◌<◌, List, length, map, get_or, arith, All, get_or-map, get_or_default, length-map, Term, IsLevel}

-- the probability of a term that was read there
pub level_there : (terms : List Term) (i : ℕ) (t : Term) → i < length terms → t ≡ get_or terms i t
    → All IsLevel (map (λ (t : Term). t.p) terms) → IsLevel t.p
level_there terms i t inside is levels =
    grind (arith, get_or-map (λ (t : Term). t.p) terms i t t.p inside, length-map terms (λ (t : Term). t.p))

pub levels_each : (terms : List Term) → All IsLevel (map (λ (t : Term). t.p) terms)
    → All (λ (t : Term). IsLevel t.p) terms
levels_each terms levels = λ i t inside.
    level_there terms i (get_or terms i t) inside (get_or_default terms i t (get_or terms i t) inside) levels
