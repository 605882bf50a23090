-- Each option in turn.
use Rattle.dl_arguments.proofs.command.with_first_options.Goals as goal

pub returns : goal.returns
returns c = λ app is. c.with_option.ensures _ (c.with_option-command-2.ensures _ (c.with_option-command.ensures app is))
