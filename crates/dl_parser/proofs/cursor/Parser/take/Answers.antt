-- The tokens behind the first lie in the source too.
use Rattle.dl_parser.proofs.Common.{All-rest, Inside}
use Rattle.dl_parser.proofs.cursor.Parser.take.Goals as goal

pub invariant_of-self : goal.invariant_of-self
invariant_of-self c = record {
  inside = All-rest (λ t. Inside c.args.self.now.source.now t.span) c.in-Some.token.now c.in-Some.rest.now
      c.args.self.now.rest.now c.in-Some.ensures.cases.0 c.args.self.now.inside;
}
