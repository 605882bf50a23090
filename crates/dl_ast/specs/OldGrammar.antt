-- The grammar without named severities, `geometric`, `zt`, `zm` and `common`: the lines of Grammar
-- that differ from their namesakes there.
use Rattle.std.specs.Prelude.{ℕ, List, [], ◌∷◌, Option, Some, None}
use Rattle.dl_lexer.specs.declared.token.Keyword.TheVariants as words
use Rattle.dl_lexer.specs.declared.token.Sign.TheVariants as signs
use Rattle.dl_lexer.specs.declared.token.Kind.TheVariants.{Word, Sign}
use Rattle.dl_ast.specs.declared.ast.SevAst.{SevAst}
use Rattle.dl_ast.specs.declared.ast.SevBody.TheVariants as bodies
use Rattle.dl_ast.specs.declared.ast.PortHead.{PortHead}
use Rattle.dl_ast.specs.declared.ast.FreqAst.{FreqAst}
use Rattle.dl_ast.specs.declared.ast.FreqAst.TheVariants as freqs
use Rattle.dl_ast.specs.declared.ast.ZeroAst.{ZeroAst}
use Rattle.dl_ast.specs.declared.ast.ZeroAst.TheVariants as zeros
use Rattle.dl_ast.specs.declared.ast.UnitAst.{UnitAst}
use Rattle.dl_ast.specs.declared.ast.Program.{Program}
use Rattle.dl_ast.specs.Rules.{Rule, one, ◌▸◌, ◌or◌, maybe, made, node}
use Rattle.dl_ast.specs.Grammar.{◌≫◌, ◌means◌, some_of, spanned, numeral, name, note, layer, mixture, severity, occ, agr, exposure, listed, exposed_unit, listed_unit}

-- sev := mixture '!'?
unfoldable pub sev : Rule SevAst
sev = node severity (made bodies.Mixture mixture ▸ maybe (one (Sign signs.Bang)))

-- freq := 'fixed' | 'poisson' | 'bernoulli' | 'binomial' NUMERAL | 'mixed' 'gamma' NUMERAL
unfoldable pub count : Rule FreqAst
count = spanned (
    Word words.Fixed means (λ span. freqs.Fixed span)
    or Word words.Poisson means (λ span. freqs.Poisson span)
    or Word words.Bernoulli means (λ span. freqs.Bernoulli span)
    or made (λ number span. freqs.Binomial number span) (Word words.Binomial ≫ numeral)
    or made (λ number span. freqs.Gamma number span)
    (Word words.Mixed ≫ Word words.Gamma ≫ numeral))

unfoldable pub freq : Rule (FreqAst × ZeroAst)
freq = made (λ f. (f, zeros.Plain)) count

-- unit := 'agg' NAME exposure layer? sev occ? freq agr? NOTE?
--       | 'agg' NAME 'dfreq' list list? layer? sev occ? agr? NOTE?
unfoldable pub unit : Rule UnitAst
unit =
    made exposed_unit
    (Word words.Agg ≫ name ▸ exposure ▸ maybe layer ▸ sev ▸ maybe occ ▸ freq ▸ maybe agr
    ▸ maybe note)
    or made listed_unit
    (Word words.Agg ≫ name ▸ listed ▸ maybe layer ▸ sev ▸ maybe occ ▸ maybe agr ▸ maybe note)

-- program := unit | 'port' NAME NOTE? unit unit*
unfoldable pub head : Rule PortHead
head = made (λ p. record { name = p.0; common = None; note = p.1 })
    (Word words.Port ≫ name ▸ maybe note)

unfoldable pub program : Rule Program
program = made (λ u. record { sevs = []; port = None; units = u ∷ [] }) unit
    or made (λ p. record { sevs = []; port = Some p.0; units = p.1 }) (head ▸ some_of unit unit)
