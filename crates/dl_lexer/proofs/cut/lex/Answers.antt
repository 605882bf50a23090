-- Each step of the cutting goes on with the cover, and takes at least one byte.
use Rattle.dl_lexer.proofs.Common.{sym, subst, arith, Covers, nothing}
use Rattle.dl_lexer.proofs.cut.lex.Goals as goal

pub cutting-init : goal.cutting-init
cutting-init c = record {
  within = omega arith;
  covers = subst (λ ts. Covers c.args.source.now 0 ts) (sym c.new-tokens.ensures.items) nothing;
}
