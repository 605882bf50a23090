-- The syntax of a program apart from its places: every span is the same.
use Rattle.std.specs.Prelude.{◌≡◌, map}
use Rattle.std.specs.Option.{option_map}
use Rattle.dl_lexer.specs.declared.token.Span.{Span}
use Rattle.dl_ast.specs.declared.ast.NameAst.{NameAst}
use Rattle.dl_ast.specs.declared.ast.Numeral.{Numeral}
use Rattle.dl_ast.specs.declared.ast.ListItem.{ListItem}
use Rattle.dl_ast.specs.declared.ast.ListAst.{ListAst}
use Rattle.dl_ast.specs.declared.ast.LimitAst.{LimitAst}
use Rattle.dl_ast.specs.declared.ast.LimitAst.TheVariants.{Finite, Infinite}
use Rattle.dl_ast.specs.declared.ast.Layer.{Layer}
use Rattle.dl_ast.specs.declared.ast.Atom.{Atom}
use Rattle.dl_ast.specs.declared.ast.MixAst.{MixAst}
use Rattle.dl_ast.specs.declared.ast.SevBody.{SevBody}
use Rattle.dl_ast.specs.declared.ast.SevBody.TheVariants.{Mixture, Ref}
use Rattle.dl_ast.specs.declared.ast.SevAst.{SevAst}
use Rattle.dl_ast.specs.declared.ast.SevDef.{SevDef}
use Rattle.dl_ast.specs.declared.ast.PortHead.{PortHead}
use Rattle.dl_ast.specs.declared.ast.CountAst.{CountAst}
use Rattle.dl_ast.specs.declared.ast.CountAst.TheVariants.{Exposed, Listed}
use Rattle.dl_ast.specs.declared.ast.Share.{Share}
use Rattle.dl_ast.specs.declared.ast.Share.TheVariants.{Whole, So, Po}
use Rattle.dl_ast.specs.declared.ast.CededLayer.{CededLayer}
use Rattle.dl_ast.specs.declared.ast.Cession.{Cession}
use Rattle.dl_ast.specs.declared.ast.FreqAst.{FreqAst}
use Rattle.dl_ast.specs.declared.ast.FreqAst.TheVariants.{Fixed, Poisson, Geometric, Bernoulli, Binomial, Gamma}
use Rattle.dl_ast.specs.declared.ast.ZeroAst.{ZeroAst}
use Rattle.dl_ast.specs.declared.ast.ZeroAst.TheVariants.{Plain, Truncated, Modified}
use Rattle.dl_ast.specs.declared.ast.Exposure.{Exposure}
use Rattle.dl_ast.specs.declared.ast.Exposure.TheVariants.{Claims, Loss, Premium}
use Rattle.dl_ast.specs.declared.ast.UnitAst.{UnitAst}
use Rattle.dl_ast.specs.declared.ast.Program.{Program}

abbrev pub nowhere : Span
nowhere = record { start = 0; end = 0 }

abbrev pub bare_name : NameAst → NameAst
bare_name n = record { text = n.text; span = nowhere }

abbrev pub bare_numeral : Numeral → Numeral
bare_numeral n = record { text = n.text; span = nowhere }

abbrev pub bare_item : ListItem → ListItem
bare_item i = record {
  from = bare_numeral i.from;
  to = option_map bare_numeral i.to;
  step = option_map bare_numeral i.step;
  span = nowhere;
}

abbrev pub bare_list : ListAst → ListAst
bare_list l = record { items = map bare_item l.items; span = nowhere }

abbrev pub bare_limit : LimitAst → LimitAst
bare_limit (Finite n) = Finite (bare_numeral n)
bare_limit Infinite = Infinite

abbrev pub bare_layer : Layer → Layer
bare_layer l = record { limit = bare_limit l.limit; attach = bare_numeral l.attach; span = nowhere }

abbrev pub bare_atom : Atom → Atom
bare_atom a = record { values = bare_list a.values; probs = option_map bare_list a.probs }

abbrev pub bare_mix : MixAst → MixAst
bare_mix m = record {
  atoms = map bare_atom m.atoms;
  weights = option_map bare_list m.weights;
  span = nowhere;
}

abbrev pub bare_body : SevBody → SevBody
bare_body (Mixture m) = Mixture (bare_mix m)
bare_body (Ref n) = Ref (bare_name n)

abbrev pub bare_sev : SevAst → SevAst
bare_sev s = record { body = bare_body s.body; bang = s.bang; span = nowhere }

abbrev pub bare_definition : SevDef → SevDef
bare_definition d = record { name = bare_name d.name; mix = bare_mix d.mix; span = nowhere }

abbrev pub bare_share : Share → Share
bare_share Whole = Whole
bare_share (So n) = So (bare_numeral n)
bare_share (Po n) = Po (bare_numeral n)

abbrev pub bare_ceded : CededLayer → CededLayer
bare_ceded c = record { share = bare_share c.share; layer = bare_layer c.layer; span = nowhere }

abbrev pub bare_cession : Cession → Cession
bare_cession c = record { net = c.net; layers = map bare_ceded c.layers; span = nowhere }

abbrev pub bare_freq : FreqAst → FreqAst
bare_freq (Fixed _) = Fixed nowhere
bare_freq (Poisson _) = Poisson nowhere
bare_freq (Geometric _) = Geometric nowhere
bare_freq (Bernoulli _) = Bernoulli nowhere
bare_freq (Binomial p _) = Binomial (bare_numeral p) nowhere
bare_freq (Gamma c _) = Gamma (bare_numeral c) nowhere

abbrev pub bare_zero : ZeroAst → ZeroAst
bare_zero Plain = Plain
bare_zero (Truncated _) = Truncated nowhere
bare_zero (Modified p _) = Modified (bare_numeral p) nowhere

abbrev pub bare_exposure : Exposure → Exposure
bare_exposure (Claims n _) = Claims (bare_numeral n) nowhere
bare_exposure (Loss n _) = Loss (bare_numeral n) nowhere
bare_exposure (Premium p r _) = Premium (bare_numeral p) (bare_numeral r) nowhere

abbrev pub bare_count : CountAst → CountAst
bare_count (Exposed e f z) = Exposed (bare_exposure e) (bare_freq f) (bare_zero z)
bare_count (Listed counts probs _) = Listed (bare_list counts) (option_map bare_list probs) nowhere

abbrev pub bare_unit : UnitAst → UnitAst
bare_unit u = record {
  name = bare_name u.name;
  count = bare_count u.count;
  note = u.note;
  layer = option_map bare_layer u.layer;
  sev = bare_sev u.sev;
  occ = option_map bare_cession u.occ;
  agr = option_map bare_cession u.agr;
}

abbrev pub bare_head : PortHead → PortHead
bare_head h = record {
  name = bare_name h.name;
  common = option_map bare_numeral h.common;
  note = h.note;
}

abbrev pub bare : Program → Program
bare p = record {
  sevs = map bare_definition p.sevs;
  port = option_map bare_head p.port;
  units = map bare_unit p.units;
}

-- they differ in their spans alone
abbrev pub SameProgram : Program → Program → Type 0
SameProgram p q = bare p ≡ bare q
