use Rattle.dl_cert.proofs.Common.{List, ◌-◌, ◌≤◌, ◌≡◌, ◌∙◌, arith, ap, ap₂, Item, weight_at}
use Rattle.dl_cert.proofs.Weights.{weight_within, trial_within, claim_within}
use Rattle.dl_cert.proofs.bases.trial_parts.Goals as goal

pub returns-then-y-gt0-clause-within : goal.returns-then-y-gt0-clause-within
returns-then-y-gt0-clause-within c =
    let sev = c.args.sev.now in
    let weight : c.weight_of.result ≤ sev.total =
    omega (arith, ap (λ (l : List Item). weight_at l c.args.y) c.as_slice.ensures, weight_within sev.items c.args.y) in
    claim_within c.from.result c.args.chance.q.den c.from-2.result sev.total
    (omega (arith, c.from.ensures, c.num.ensures.part, c.args.chance.within)) (omega (arith, c.from-2.ensures, weight))

pub returns-clause-within : goal.returns-clause-within
returns-clause-within c =
    let sev = c.args.sev.now in
    let q = c.args.chance.q in
    let weight : c.weight_of.result ≤ sev.total =
    omega (arith, ap (λ (l : List Item). weight_at l c.args.y) c.as_slice.ensures, weight_within sev.items c.args.y) in
    let none : c.from-3.result ≡ q.den - q.num =
    c.from-3.ensures ∙ ap₂ (λ m n. m - n) c.den.ensures.part c.num-2.ensures.part in
    let claim : c.from.result ≡ q.num = c.from.ensures ∙ c.num.ensures.part in
    rw (none, c.from-4.ensures, claim)
    (trial_within q.num q.den c.from-2.result sev.total c.args.chance.within (omega (arith, c.from-2.ensures, weight)))
