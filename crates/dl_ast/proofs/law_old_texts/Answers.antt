-- Each line of the one grammar goes over into its namesake of the other.
use Rattle.dl_ast.proofs.Earlier.{old_spelled, old_unnamed}
use Rattle.dl_ast.proofs.law_old_texts.Goals as goal

pub returns-clause-spelled : goal.returns-clause-spelled
returns-clause-spelled c = old_spelled

pub returns-clause-no_names : goal.returns-clause-no_names
returns-clause-no_names c = old_unnamed
