-- The grammar of programs, a line at a time. What a rule spells is the syntax, with the spans of
-- its nodes.
use Rattle.std.specs.Prelude.{ℕ, drop, Bool, true, false, List, [], ◌∷◌, Option, Some, None, is_some}
use Rattle.dl_lexer.specs.declared.token.Keyword.TheVariants as words
use Rattle.dl_lexer.specs.declared.token.Sign.TheVariants as signs
use Rattle.dl_lexer.specs.declared.token.Kind.{Kind}
use Rattle.dl_lexer.specs.declared.token.Kind.TheVariants as kinds
use Rattle.dl_lexer.specs.declared.token.Kind.TheVariants.{Word, Sign}
use Rattle.dl_lexer.specs.declared.token.Span.{Span}
use Rattle.dl_ast.specs.declared.ast.NameAst.{NameAst}
use Rattle.dl_ast.specs.declared.ast.Numeral.{Numeral}
use Rattle.dl_ast.specs.declared.ast.ListItem.{ListItem}
use Rattle.dl_ast.specs.declared.ast.ListAst.{ListAst}
use Rattle.dl_ast.specs.declared.ast.LimitAst.{LimitAst}
use Rattle.dl_ast.specs.declared.ast.LimitAst.TheVariants as limits
use Rattle.dl_ast.specs.declared.ast.Layer.{Layer}
use Rattle.dl_ast.specs.declared.ast.Atom.{Atom}
use Rattle.dl_ast.specs.declared.ast.MixAst.{MixAst}
use Rattle.dl_ast.specs.declared.ast.SevBody.{SevBody}
use Rattle.dl_ast.specs.declared.ast.SevBody.TheVariants as bodies
use Rattle.dl_ast.specs.declared.ast.SevAst.{SevAst}
use Rattle.dl_ast.specs.declared.ast.SevDef.{SevDef}
use Rattle.dl_ast.specs.declared.ast.PortHead.{PortHead}
use Rattle.dl_ast.specs.declared.ast.CountAst.{CountAst}
use Rattle.dl_ast.specs.declared.ast.CountAst.TheVariants as counts
use Rattle.dl_ast.specs.declared.ast.Share.TheVariants as shares
use Rattle.dl_ast.specs.declared.ast.CededLayer.{CededLayer}
use Rattle.dl_ast.specs.declared.ast.Cession.{Cession}
use Rattle.dl_ast.specs.declared.ast.FreqAst.{FreqAst}
use Rattle.dl_ast.specs.declared.ast.FreqAst.TheVariants as freqs
use Rattle.dl_ast.specs.declared.ast.ZeroAst.{ZeroAst}
use Rattle.dl_ast.specs.declared.ast.ZeroAst.TheVariants as zeros
use Rattle.dl_ast.specs.declared.ast.Exposure.{Exposure}
use Rattle.dl_ast.specs.declared.ast.Exposure.TheVariants as exposures
use Rattle.dl_ast.specs.declared.ast.UnitAst.{UnitAst}
use Rattle.dl_ast.specs.declared.ast.Program.{Program}
use Rattle.dl_ast.specs.Lexemes.{Lexeme}
use Rattle.dl_ast.specs.Rules.{Rule, one, ◌▸◌, ◌or◌, maybe, many, made, node}

infixr 6 ◌≫◌
infixl 7 ◌≪◌
infixl 8 ◌means◌
-- a token of this kind, and then the rule
abbrev pub ◌≫◌ : {A : Type 0} → Kind → Rule A → Rule A
k ≫ r = made (λ p. p.1) (one k ▸ r)

-- the rule, and then a token of this kind
abbrev pub ◌≪◌ : {A : Type 0} → Rule A → Kind → Rule A
r ≪ k = made (λ p. p.0) (r ▸ one k)

-- a token with one meaning
abbrev pub ◌means◌ : {A : Type 0} → Kind → A → Rule A
k means x = made (λ _. x) (one k)

-- the first, and then any number of others
abbrev pub some_of : {A : Type 0} → Rule A → Rule A → Rule (List A)
some_of a b = made (λ p. p.0 ∷ p.1) (a ▸ many b)

-- of alternatives that need the span of the whole
abbrev pub spanned : {A : Type 0} → Rule (Span → A) → Rule A
spanned r = node (λ make span. make span) r

unfoldable pub numeral : Rule Numeral
numeral = made (λ t. record { text = t.text; span = t.span }) (one kinds.Numeral)

unfoldable pub name : Rule NameAst
name = made (λ t. record { text = t.text; span = t.span }) (one kinds.Name)

unfoldable pub note : Rule (List ℕ)
note = made (λ t. t.text) (one kinds.Note)

-- item := NUMERAL | NUMERAL ':' NUMERAL | NUMERAL ':' NUMERAL ':' NUMERAL
unfoldable pub item : Rule ListItem
item = spanned (
    made (λ from span. record { from = from; to = None; step = None; span = span }) numeral
    or made (λ (from, to) span. record { from = from; to = Some to; step = None; span = span })
    (numeral ▸ Sign signs.Colon ≫ numeral)
    or made (λ (from, (to, step)) span. record {
      from = from;
      to = Some to;
      step = Some step;
      span = span;
    })
    (numeral ▸ Sign signs.Colon ≫ numeral ▸ Sign signs.Colon ≫ numeral))

-- list := '[' item (','? item)* ']'
unfoldable pub next_item : Rule ListItem
next_item = made (λ p. p.1) (maybe (one (Sign signs.Comma)) ▸ item)

unfoldable pub list : Rule ListAst
list = node (λ p span. record { items = p; span = span })
    (Sign signs.Open ≫ some_of item next_item ≪ Sign signs.Close)

-- limit := NUMERAL | 'inf'
unfoldable pub limit : Rule LimitAst
limit = made limits.Finite numeral or Word words.Inf means limits.Infinite

-- layer := limit 'xs' NUMERAL
unfoldable pub layer : Rule Layer
layer = node (λ p span. record { limit = p.0; attach = p.1; span = span })
    (limit ≪ Word words.Xs ▸ numeral)

-- atom := 'dsev' list list? | 'sev' 'dhistogram' 'xps' list list?
unfoldable pub atom : Rule Atom
atom = made (λ p. record { values = p.0; probs = p.1 })
    (Word words.Dsev ≫ list ▸ maybe list or Word words.Sev ≫ Word words.Dhistogram ≫ Word words.Xps
    ≫ list ▸ maybe list)

-- mixture := atom | atom atom* 'wts' list
unfoldable pub mixture : Rule MixAst
mixture = spanned (
    made (λ a span. record { atoms = a ∷ []; weights = None; span = span }) atom
    or made (λ (a, (others, weights)) span. record {
      atoms = a ∷ others;
      weights = Some weights;
      span = span;
    })
    (atom ▸ many atom ▸ Word words.Wts ≫ list))

-- cost := mixture | REF
-- the name in a reference: its text without `sev.`
unfoldable pub reference : Rule NameAst
reference = made (λ t. record { text = drop 4 t.text; span = t.span }) (one kinds.Ref)

unfoldable pub cost : Rule SevBody
cost = made bodies.Mixture mixture or made bodies.Ref reference

-- sev := cost '!'?
abbrev pub severity : SevBody × Option Lexeme → Span → SevAst
severity (b, bang) span = record { body = b; bang = is_some bang; span = span }

unfoldable pub sev : Rule SevAst
sev = node severity (cost ▸ maybe (one (Sign signs.Bang)))

-- cession := layer | NUMERAL 'so' layer | NUMERAL 'po' layer
abbrev pub whole : Layer → Span → CededLayer
whole l span = record { share = shares.Whole; layer = l; span = span }

abbrev pub so : Numeral → Layer → Span → CededLayer
so number l span = record { share = shares.So number; layer = l; span = span }

abbrev pub po : Numeral → Layer → Span → CededLayer
po number l span = record { share = shares.Po number; layer = l; span = span }

unfoldable pub cession : Rule CededLayer
cession = spanned (
    made whole layer
    or made (λ p. so p.0 p.1) (numeral ▸ Word words.So ≫ layer)
    or made (λ p. po p.0 p.1) (numeral ▸ Word words.Po ≫ layer))

-- side := 'net' 'of' | 'ceded' 'to'
unfoldable pub side : Rule Bool
side = Word words.Net ≫ Word words.Of means true or Word words.Ceded ≫ Word words.To means false

-- occ := 'occurrence' side cession ('and' cession)*
-- agr := 'aggregate' side cession ('and' cession)*
unfoldable pub next_cession : Rule CededLayer
next_cession = Word words.And ≫ cession

unfoldable pub clause : Kind → Rule Cession
clause kind = node (λ p span. record { net = p.0; layers = p.1; span = span })
    (kind ≫ side ▸ some_of cession next_cession)

abbrev pub occ : Rule Cession
occ = clause (Word words.Occurrence)

abbrev pub agr : Rule Cession
agr = clause (Word words.Aggregate)

-- count := 'fixed' | 'poisson' | 'geometric' | 'bernoulli' | 'binomial' NUMERAL
--        | 'mixed' 'gamma' NUMERAL
unfoldable pub count : Rule FreqAst
count = spanned (
    Word words.Fixed means (λ span. freqs.Fixed span)
    or Word words.Poisson means (λ span. freqs.Poisson span)
    or Word words.Geometric means (λ span. freqs.Geometric span)
    or Word words.Bernoulli means (λ span. freqs.Bernoulli span)
    or made (λ number span. freqs.Binomial number span) (Word words.Binomial ≫ numeral)
    or made (λ number span. freqs.Gamma number span)
    (Word words.Mixed ≫ Word words.Gamma ≫ numeral))

-- zero_change := 'zt' | 'zm' NUMERAL
unfoldable pub zero_change : Rule ZeroAst
zero_change = spanned (
    Word words.Zt means (λ span. zeros.Truncated span)
    or made (λ number span. zeros.Modified number span) (Word words.Zm ≫ numeral))

-- freq := count zero_change?
abbrev pub plain_or : Option ZeroAst → ZeroAst
plain_or None = zeros.Plain
plain_or (Some z) = z

unfoldable pub freq : Rule (FreqAst × ZeroAst)
freq = made (λ p. (p.0, plain_or p.1)) (count ▸ maybe zero_change)

-- exposure := NUMERAL 'claims' | NUMERAL 'loss' | NUMERAL 'premium' 'at' NUMERAL 'lr'
-- where 'claims' may be 'claim', and 'premium' may be 'prem'
unfoldable pub claims : Rule Lexeme
claims = one (Word words.Claim) or one (Word words.Claims)

unfoldable pub premium : Rule Lexeme
premium = one (Word words.Prem) or one (Word words.Premium)

unfoldable pub exposure : Rule Exposure
exposure = spanned (
    made (λ (number, _) span. exposures.Claims number span) (numeral ▸ claims)
    or made (λ number span. exposures.Loss number span) (numeral ≪ Word words.Loss)
    or made (λ (amount, (_, ratio)) span. exposures.Premium amount ratio span)
    (numeral ▸ premium ▸ Word words.At ≫ numeral ≪ Word words.Lr))

-- unit := 'agg' NAME exposure layer? sev occ? freq agr? NOTE?
--       | 'agg' NAME 'dfreq' list list? layer? sev occ? agr? NOTE?
unfoldable pub listed : Rule CountAst
listed = node (λ p span. counts.Listed p.0 p.1 span) (Word words.Dfreq ≫ list ▸ maybe list)

abbrev pub exposed_unit : NameAst ×
    (Exposure × (Option Layer × (SevAst ×
    (Option Cession × ((FreqAst × ZeroAst) × (Option Cession × Option (List ℕ))))))) → UnitAst
exposed_unit (n, (e, (l, (s, (o, (f, (a, t))))))) = record {
  name = n;
  count = counts.Exposed e f.0 f.1;
  layer = l;
  sev = s;
  occ = o;
  agr = a;
  note = t;
}

abbrev pub listed_unit : NameAst ×
    (CountAst × (Option Layer × (SevAst × (Option Cession × (Option Cession × Option (List ℕ))))))
    → UnitAst
listed_unit (n, (c, (l, (s, (o, (a, t)))))) =
    record { name = n; count = c; layer = l; sev = s; occ = o; agr = a; note = t }

unfoldable pub unit : Rule UnitAst
unit =
    made exposed_unit
    (Word words.Agg ≫ name ▸ exposure ▸ maybe layer ▸ sev ▸ maybe occ ▸ freq ▸ maybe agr
    ▸ maybe note)
    or made listed_unit
    (Word words.Agg ≫ name ▸ listed ▸ maybe layer ▸ sev ▸ maybe occ ▸ maybe agr ▸ maybe note)

-- common := 'common' NUMERAL
unfoldable pub common : Rule Numeral
common = Word words.Common ≫ numeral

-- head := 'port' NAME common? NOTE?
unfoldable pub head : Rule PortHead
head = made (λ p. record { name = p.0; common = p.1.0; note = p.1.1 })
    (Word words.Port ≫ name ▸ maybe common ▸ maybe note)

-- book := unit | head unit unit*
unfoldable pub book : Rule (Option PortHead × List UnitAst)
book = made (λ u. (None, u ∷ [])) unit or made (λ p. (Some p.0, p.1)) (head ▸ some_of unit unit)

-- sevdef := 'sev' NAME mixture
unfoldable pub sevdef : Rule SevDef
sevdef = node (λ p span. record { name = p.0; mix = p.1; span = span })
    (Word words.Sev ≫ name ▸ mixture)

-- program := sevdef* book
unfoldable pub program : Rule Program
program = made (λ (ds, b). record { sevs = ds; port = b.0; units = b.1 }) (many sevdef ▸ book)
