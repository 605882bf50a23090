-- The form, and then the asks.
use Rattle.dl_arguments.proofs.Common.{◌≡◌, ◌∙◌, Some, ap, true, Append, asks, bare_command, form}
use Rattle.clap.specs.Words.{Rule, rule_of}
use Rattle.dl_arguments.proofs.command.with_positionals.Goals as goal

pub returns : goal.returns
returns c =
    let first : rule_of c.required.result ≡ form =
    ap rule_of c.required.ensures ∙ ap (λ (r : Rule). record r { required = true }) c.new.ensures.rule in
    let second : rule_of c.action.result ≡ asks =
    ap rule_of c.action.ensures ∙ ap (λ (r : Rule). record r { action = Some Append }) c.new-2.ensures.rule in
    rw (← first, ← second) (c.with_arg.ensures _ (c.with_arg-command.ensures bare_command c.bare_command.ensures))
