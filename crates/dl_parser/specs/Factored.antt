-- The grammar as the parser reads it: where the alternatives of a line begin alike, what they share
-- is read once. The rules of Grammar, and each rule here with the spelling of its namesake there.
use Rattle.std.specs.Prelude.{ℕ, List, [], ◌∷◌, Option, Some, None}
use Rattle.dl_lexer.specs.declared.token.Keyword.TheVariants as words
use Rattle.dl_lexer.specs.declared.token.Sign.TheVariants as signs
use Rattle.dl_lexer.specs.declared.token.Kind.{Kind}
use Rattle.dl_lexer.specs.declared.token.Kind.TheVariants as kinds
use Rattle.dl_lexer.specs.declared.token.Kind.TheVariants.{Word, Sign}
use Rattle.dl_lexer.specs.declared.token.Span.{Span}
use Rattle.dl_ast.specs.declared.ast.NameAst.{NameAst}
use Rattle.dl_ast.specs.declared.ast.Numeral.{Numeral}
use Rattle.dl_ast.specs.declared.ast.ListItem.{ListItem}
use Rattle.dl_ast.specs.declared.ast.ListAst.{ListAst}
use Rattle.dl_ast.specs.declared.ast.LimitAst.{LimitAst}
use Rattle.dl_ast.specs.declared.ast.LimitAst.TheVariants as limits
use Rattle.dl_ast.specs.declared.ast.Atom.{Atom}
use Rattle.dl_ast.specs.declared.ast.MixAst.{MixAst}
use Rattle.dl_ast.specs.declared.ast.SevBody.{SevBody}
use Rattle.dl_ast.specs.declared.ast.SevBody.TheVariants as bodies
use Rattle.dl_ast.specs.declared.ast.SevAst.{SevAst}
use Rattle.dl_ast.specs.declared.ast.SevDef.{SevDef}
use Rattle.dl_ast.specs.declared.ast.PortHead.{PortHead}
use Rattle.dl_ast.specs.declared.ast.CountAst.{CountAst}
use Rattle.dl_ast.specs.declared.ast.CountAst.TheVariants as counts
use Rattle.dl_ast.specs.declared.ast.CededLayer.{CededLayer}
use Rattle.dl_ast.specs.declared.ast.Cession.{Cession}
use Rattle.dl_ast.specs.declared.ast.FreqAst.{FreqAst}
use Rattle.dl_ast.specs.declared.ast.ZeroAst.{ZeroAst}
use Rattle.dl_ast.specs.declared.ast.Exposure.{Exposure}
use Rattle.dl_ast.specs.declared.ast.Exposure.TheVariants as exposures
use Rattle.dl_ast.specs.declared.ast.UnitAst.{UnitAst}
use Rattle.dl_ast.specs.declared.ast.Program.{Program}
use Rattle.dl_parser.specs.declared.units.Loss.{Loss}
use Rattle.dl_parser.specs.declared.units.Body.{Body}
use Rattle.dl_ast.specs.Prelude.{Lexeme, Rule, one, ◌▸◌, ◌or◌, maybe, many, unless, made, node, Spells, ◌≫◌, ◌≪◌, ◌means◌, some_of, spanned, numeral, name, note, layer, whole, so, po, reference, severity, side, freq, claims, premium, listed_unit, head}

-- item := NUMERAL (':' NUMERAL (':' NUMERAL)?)?
abbrev pub step : Rule (Option Numeral)
step = maybe (Sign signs.Colon ≫ numeral)

abbrev pub bounds : Rule (Option (Numeral × Option Numeral))
bounds = maybe (Sign signs.Colon ≫ numeral ▸ step)

abbrev pub item_of : Numeral × Option (Numeral × Option Numeral) → Span → ListItem
item_of p span = elim p.1 [
  | None ↦ record { from = p.0; to = None; step = None; span = span }
  | Some q ↦ record { from = p.0; to = Some q.0; step = q.1; span = span }
]

unfoldable pub item : Rule ListItem
item = node item_of (numeral ▸ bounds)

-- list := '[' item (','? item)* ']'
unfoldable pub next_item : Rule ListItem
next_item = made (λ p. p.1) (maybe (one (Sign signs.Comma)) ▸ item)

unfoldable pub items : Rule (List ListItem)
items = some_of item next_item

unfoldable pub list : Rule ListAst
list = node (λ p span. record { items = p; span = span })
    (Sign signs.Open ≫ items ≪ Sign signs.Close)

-- atom := 'dsev' list list? | 'sev' 'dhistogram' 'xps' list list?
unfoldable pub atom : Rule Atom
atom = made (λ p. record { values = p.0; probs = p.1 })
    (Word words.Dsev ≫ list ▸ maybe list or Word words.Sev ≫ Word words.Dhistogram ≫ Word words.Xps
    ≫ list ▸ maybe list)

-- mixture := atom (atom* 'wts' list)?
unfoldable pub weighted : Rule (List Atom × ListAst)
weighted = many atom ▸ Word words.Wts ≫ list

abbrev pub mix_of : Atom × Option (List Atom × ListAst) → Span → MixAst
mix_of p span = elim p.1 [
  | None ↦ record { atoms = p.0 ∷ []; weights = None; span = span }
  | Some q ↦ record { atoms = p.0 ∷ q.0; weights = Some q.1; span = span }
]

unfoldable pub mixture : Rule MixAst
mixture = node mix_of (atom ▸ maybe weighted)

-- cost := mixture | REF
unfoldable pub cost : Rule SevBody
cost = made bodies.Mixture mixture or made bodies.Ref reference

-- sev := cost '!'?
unfoldable pub sev : Rule SevAst
sev = node severity (cost ▸ maybe (one (Sign signs.Bang)))

-- mixture, where a definition may follow: its `sev` and its name are no further atom
unfoldable pub defined : Rule MixAst
defined = node mix_of (atom ▸ unless (Word words.Sev) kinds.Name weighted)

-- sevdef := 'sev' NAME mixture
unfoldable pub sevdef : Rule SevDef
sevdef = node (λ p span. record { name = p.0; mix = p.1; span = span })
    (Word words.Sev ≫ name ▸ defined)

-- cession := 'inf' 'xs' NUMERAL | NUMERAL ('xs' NUMERAL | 'so' layer | 'po' layer)
abbrev pub whole_of : LimitAst → Numeral → Span → CededLayer
whole_of limit attach span = whole (record { limit = limit; attach = attach; span = span }) span

abbrev pub behind_number : Rule (Numeral → Span → CededLayer)
behind_number =
    made (λ attach number. whole_of (limits.Finite number) attach) (Word words.Xs ≫ numeral)
    or made (λ l number. so number l) (Word words.So ≫ layer)
    or made (λ l number. po number l) (Word words.Po ≫ layer)

unfoldable pub cession : Rule CededLayer
cession = spanned (made (whole_of limits.Infinite)
    (Word words.Inf ≫ Word words.Xs ≫ numeral) or made (λ p. p.1 p.0) (numeral ▸ behind_number))

-- 'occurrence' side cession ('and' cession)*, and the same with 'aggregate'
unfoldable pub next_cession : Rule CededLayer
next_cession = Word words.And ≫ cession

unfoldable pub layers : Rule (List CededLayer)
layers = some_of cession next_cession

unfoldable pub clause : Kind → Rule Cession
clause kind =
    node (λ p span. record { net = p.0; layers = p.1; span = span }) (kind ≫ side ▸ layers)

abbrev pub occ : Rule Cession
occ = clause (Word words.Occurrence)

abbrev pub agr : Rule Cession
agr = clause (Word words.Aggregate)

-- exposure := NUMERAL ('claims' | 'loss' | 'premium' 'at' NUMERAL 'lr')
unfoldable pub ratio : Rule Numeral
ratio = made (λ p. p.1) (premium ▸ Word words.At ≫ numeral ≪ Word words.Lr)

abbrev pub base : Rule (Numeral → Span → Exposure)
base =
    made (λ _ number span. exposures.Claims number span) claims
    or Word words.Loss means (λ number span. exposures.Loss number span)
    or made (λ rate amount span. exposures.Premium amount rate span) ratio

unfoldable pub exposure : Rule Exposure
exposure = spanned (made (λ p. p.1 p.0) (numeral ▸ base))

-- unit := 'agg' NAME ('dfreq' list list? layer? sev occ? agr? NOTE? | exposure layer? sev occ? freq
-- agr? NOTE?)
unfoldable pub loss : Rule Loss
loss = made (λ p. record { layer = p.0; sev = p.1.0; occ = p.1.1 }) (maybe layer ▸ sev ▸ maybe occ)

unfoldable pub ending : Rule (Option Cession × Option (List ℕ))
ending = maybe agr ▸ maybe note

unfoldable pub closing : Rule ((FreqAst × ZeroAst) × (Option Cession × Option (List ℕ)))
closing = freq ▸ ending

unfoldable pub exposed : Rule Body
exposed =
    made (λ (e, (l, (f, (a, t)))). record
    { count = counts.Exposed e f.0 f.1; loss = l; agr = a; note = t })
    (exposure ▸ loss ▸ closing)

unfoldable pub listed : Rule CountAst
listed = node (λ p span. counts.Listed p.0 p.1 span) (Word words.Dfreq ≫ list ▸ maybe list)

unfoldable pub counted : Rule Body
counted =
    made (λ (c, (l, (a, t))). record { count = c; loss = l; agr = a; note = t })
    (listed ▸ loss ▸ ending)

unfoldable pub body : Rule Body
body = counted or exposed

abbrev pub named : NameAst → Body → UnitAst
named n b = listed_unit
    (n, (b.count, (b.loss.layer, (b.loss.sev, (b.loss.occ, (b.agr, b.note))))))

unfoldable pub unit : Rule UnitAst
unit = made (λ p. named p.0 p.1) (Word words.Agg ≫ name ▸ body)

-- book := unit | head unit unit*
unfoldable pub units : Rule (List UnitAst)
units = some_of unit unit

unfoldable pub book : Rule (Option PortHead × List UnitAst)
book = made (λ u. (None, u ∷ [])) unit or made (λ p. (Some p.0, p.1)) (head ▸ units)

-- program := sevdef* book
unfoldable pub program : Rule Program
program = made (λ (ds, b). record { sevs = ds; port = b.0; units = b.1 }) (many sevdef ▸ book)

-- two rules spell the same things, each by the same tokens
pub record SpellAlike {X : Type 0} (a b : Rule X) : Type 0 where
  pub to : (x : X) (ts : List Lexeme) → Spells a x ts → Spells b x ts
  pub from : (x : X) (ts : List Lexeme) → Spells b x ts → Spells a x ts
