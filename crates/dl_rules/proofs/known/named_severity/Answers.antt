-- One more severity is known.
use Rattle.dl_rules.proofs.Common.{[], ◌∷◌, sym, subst, All, All-nil, All-cons, All-append, IsKnown, IfSome, IsFormedMixture, IfOk-weaker, KnownSeverity}
use Rattle.dl_rules.proofs.ProgramUnits.{formed_named}
use Rattle.dl_rules.proofs.known.named_severity.Goals as goal

pub read_mixture-requires-clause-formed : goal.read_mixture-requires-clause-formed
read_mixture-requires-clause-formed c =
    subst (λ o. IfSome o IsFormedMixture) c.in-Some-named.ensures.found
    (formed_named c.args.sevs.now c.args.name.now c.requires.defined)

pub returns-clause-known : goal.returns-clause-known
returns-clause-known c =
    let is = IsKnown c.args.settings.now c.args.sevs.now in
    let one : KnownSeverity = record { name = c.args.name; made = c.in_ok-made.made } in
    IfOk-weaker c.copied-2.result _ _ (λ _ _. subst (All is) (sym c.in_ok-push.ensures.items)
    (All-append is c.args.known.now.items (one ∷ []) c.requires.known
    (All-cons is one [] (record {
      mix = c.in-Some-named.mix.now;
      there = c.in-Some-named.ensures.found;
      read = c.in_ok-made.ensures;
    }) (All-nil is)))) c.copied-2.ensures
