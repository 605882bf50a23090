-- Well-formed programs: those that some text spells, whatever their spans.
use Rattle.std.specs.Prelude.{◌≡◌, ℕ, ◌<◌, ◌^◌, ◌++◌, codes, List, length, All, IfSome, IsSome, IsNone}
use Rattle.dl_lexer.specs.declared.token.Kind.TheVariants as kinds
use Rattle.dl_lexer.specs.Tokens.{IsSpelled}
use Rattle.dl_ast.specs.declared.ast.NameAst.{NameAst}
use Rattle.dl_ast.specs.declared.ast.Numeral.{Numeral}
use Rattle.dl_ast.specs.declared.ast.ListItem.{ListItem}
use Rattle.dl_ast.specs.declared.ast.ListAst.{ListAst}
use Rattle.dl_ast.specs.declared.ast.LimitAst.{LimitAst}
use Rattle.dl_ast.specs.declared.ast.LimitAst.TheVariants.{Finite, Infinite}
use Rattle.dl_ast.specs.declared.ast.Layer.{Layer}
use Rattle.dl_ast.specs.declared.ast.Atom.{Atom}
use Rattle.dl_ast.specs.declared.ast.MixAst.{MixAst}
use Rattle.dl_ast.specs.declared.ast.SevBody.{SevBody}
use Rattle.dl_ast.specs.declared.ast.SevBody.TheVariants.{Mixture, Ref}
use Rattle.dl_ast.specs.declared.ast.SevAst.{SevAst}
use Rattle.dl_ast.specs.declared.ast.SevDef.{SevDef}
use Rattle.dl_ast.specs.declared.ast.PortHead.{PortHead}
use Rattle.dl_ast.specs.declared.ast.CountAst.{CountAst}
use Rattle.dl_ast.specs.declared.ast.CountAst.TheVariants.{Exposed, Listed}
use Rattle.dl_ast.specs.declared.ast.Share.{Share}
use Rattle.dl_ast.specs.declared.ast.Share.TheVariants as shares
use Rattle.dl_ast.specs.declared.ast.CededLayer.{CededLayer}
use Rattle.dl_ast.specs.declared.ast.Cession.{Cession}
use Rattle.dl_ast.specs.declared.ast.FreqAst.{FreqAst}
use Rattle.dl_ast.specs.declared.ast.FreqAst.TheVariants as freqs
use Rattle.dl_ast.specs.declared.ast.ZeroAst.{ZeroAst}
use Rattle.dl_ast.specs.declared.ast.ZeroAst.TheVariants.{Plain, Truncated, Modified}
use Rattle.dl_ast.specs.declared.ast.Exposure.{Exposure}
use Rattle.dl_ast.specs.declared.ast.Exposure.TheVariants.{Claims, Loss, Premium}
use Rattle.dl_ast.specs.declared.ast.UnitAst.{UnitAst}
use Rattle.dl_ast.specs.declared.ast.Program.{Program}

-- names, numerals and notes are tokens of their kind
abbrev pub IsFormedName : NameAst → Type 0
IsFormedName name = IsSpelled kinds.Name name.text

abbrev pub IsFormedNumeral : Numeral → Type 0
IsFormedNumeral numeral = IsSpelled kinds.Numeral numeral.text

abbrev pub IsFormedNote : List ℕ → Type 0
IsFormedNote text = IsSpelled kinds.Note text

-- a step only beside a to
pub record IsFormedItem (item : ListItem) : Type 0 where
  pub from : IsFormedNumeral item.from
  pub to : IfSome item.to IsFormedNumeral
  pub step : IfSome item.step IsFormedNumeral
  pub beside : IsSome item.step → IsSome item.to

pub record IsFormedList (list : ListAst) : Type 0 where
  pub some : 0 < length list.items
  pub items : All IsFormedItem list.items

abbrev pub IsFormedLimit : LimitAst → Type 0
IsFormedLimit (Finite limit) = IsFormedNumeral limit
IsFormedLimit Infinite = Unit {0}

pub record IsFormedLayer (layer : Layer) : Type 0 where
  pub limit : IsFormedLimit layer.limit
  pub attach : IsFormedNumeral layer.attach

pub record IsFormedAtom (atom : Atom) : Type 0 where
  pub values : IsFormedList atom.values
  pub probs : IfSome atom.probs IsFormedList

-- several atoms have weights
pub record IsFormedMixture (mix : MixAst) : Type 0 where
  pub some : 0 < length mix.atoms
  pub atoms : All IsFormedAtom mix.atoms
  pub weights : IfSome mix.weights IsFormedList
  pub several : 1 < length mix.atoms → IsSome mix.weights

-- `sev.` and the name of a reference are a token together
abbrev pub IsFormedReference : NameAst → Type 0
IsFormedReference name = IsSpelled kinds.Ref (codes "sev." ++ name.text)

abbrev pub IsFormedBody : SevBody → Type 0
IsFormedBody (Mixture mix) = IsFormedMixture mix
IsFormedBody (Ref name) = IsFormedReference name

abbrev pub IsFormedSeverity : SevAst → Type 0
IsFormedSeverity sev = IsFormedBody sev.body

pub record IsFormedDefinition (def : SevDef) : Type 0 where
  pub name : IsFormedName def.name
  pub mix : IsFormedMixture def.mix

abbrev pub IsFormedShare : Share → Type 0
IsFormedShare shares.Whole = Unit {0}
IsFormedShare (shares.So share) = IsFormedNumeral share
IsFormedShare (shares.Po part) = IsFormedNumeral part

pub record IsFormedCeded (ceded : CededLayer) : Type 0 where
  pub share : IsFormedShare ceded.share
  pub layer : IsFormedLayer ceded.layer

pub record IsFormedCession (cession : Cession) : Type 0 where
  pub some : 0 < length cession.layers
  pub layers : All IsFormedCeded cession.layers

abbrev pub IsFormedFrequency : FreqAst → Type 0
IsFormedFrequency (freqs.Fixed _) = Unit {0}
IsFormedFrequency (freqs.Poisson _) = Unit {0}
IsFormedFrequency (freqs.Geometric _) = Unit {0}
IsFormedFrequency (freqs.Bernoulli _) = Unit {0}
IsFormedFrequency (freqs.Binomial p _) = IsFormedNumeral p
IsFormedFrequency (freqs.Gamma c _) = IsFormedNumeral c

abbrev pub IsFormedZero : ZeroAst → Type 0
IsFormedZero Plain = Unit {0}
IsFormedZero (Truncated _) = Unit {0}
IsFormedZero (Modified p _) = IsFormedNumeral p

abbrev pub IsFormedExposure : Exposure → Type 0
IsFormedExposure (Claims n _) = IsFormedNumeral n
IsFormedExposure (Loss n _) = IsFormedNumeral n
IsFormedExposure (Premium p r _) = IsFormedNumeral p × IsFormedNumeral r

abbrev pub IsFormedCount : CountAst → Type 0
IsFormedCount (Exposed exposure freq zero) =
    IsFormedExposure exposure × (IsFormedFrequency freq × IsFormedZero zero)
IsFormedCount (Listed counts probs _) = IsFormedList counts × IfSome probs IsFormedList

pub record IsFormedUnit (unit : UnitAst) : Type 0 where
  pub name : IsFormedName unit.name
  pub count : IsFormedCount unit.count
  pub layer : IfSome unit.layer IsFormedLayer
  pub sev : IsFormedSeverity unit.sev
  pub occ : IfSome unit.occ IsFormedCession
  pub agr : IfSome unit.agr IsFormedCession
  pub note : IfSome unit.note IsFormedNote

pub record IsFormedHead (head : PortHead) : Type 0 where
  pub name : IsFormedName head.name
  pub common : IfSome head.common IsFormedNumeral
  pub note : IfSome head.note IsFormedNote

-- fewer than 2^32 severities with names; without a port there is one unit
pub record IsWellFormed (program : Program) : Type 0 where
  pub few : length program.sevs < 2 ^ 32
  pub sevs : All IsFormedDefinition program.sevs
  pub head : IfSome program.port IsFormedHead
  pub some : 0 < length program.units
  pub units : All IsFormedUnit program.units
  pub one : IsNone program.port → length program.units ≡ 1
