-- Each option in turn.
use Rattle.dl_arguments.proofs.command.simple_command.Goals as goal

pub returns : goal.returns
returns c = c.with_option.ensures _ (c.with_option-command-4.ensures _ (c.with_option-command-3.ensures _
    (c.with_option-command-2.ensures _ (c.with_option-command.ensures _
    (c.with_first_options-command.ensures _ c.with_positionals.ensures)))))
