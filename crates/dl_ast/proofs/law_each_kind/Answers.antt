-- By the sample of each kind.
use Rattle.dl_ast.proofs.Samples.{token_of, token_text}
use Rattle.dl_ast.proofs.law_each_kind.Goals as goal

pub returns : goal.returns
returns c = λ k. ((token_of k).text, token_text k)
