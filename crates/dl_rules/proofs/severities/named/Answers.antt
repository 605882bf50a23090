-- One severity is compared, and the rest is searched.
use Rattle.dl_rules.proofs.Common.{◌≡◌, ◌∙◌, List, ℕ, sym, rules, ◌≢◌}
use Rattle.dl_rules.proofs.SeverityNames.{named_here, named_later, named_none}
use Rattle.dl_rules.proofs.severities.named.Goals as goal

pub returns-then-eq-clause-found : goal.returns-then-eq-clause-found
returns-then-eq-clause-found c =
    let name : List ℕ = c.args.name.now in
    let same : c.as_slice.result.now ≡ name = search rules in
    sym c.loop-sev.invariant ∙ named_here c.args.sevs.now c.loop-sev.sev-index c.sev-item.result name
    c.loop-sev-test.true c.sev-item.is (sym c.as_slice.ensures ∙ same)

pub loop-sev-preserved : goal.loop-sev-preserved
loop-sev-preserved c =
    let name : List ℕ = c.args.name.now in
    let other : c.as_slice.result.now ≢ name = search rules in
    sym (named_later c.args.sevs.now c.loop-sev.sev-index c.sev-item.result name
    c.loop-sev-test.true c.sev-item.is (λ e. other (c.as_slice.ensures ∙ e))) ∙ c.loop-sev.invariant

pub returns-clause-none : goal.returns-clause-none
returns-clause-none c =
    sym c.loop-sev.invariant ∙ named_none c.args.sevs.now c.loop-sev.sev-index c.args.name.now c.loop-sev-test.false
