-- A unit in whole buckets: each amount of money is a number of buckets, each list its values.
use Rattle.std.specs.Prelude.{ℕ, List, map, Option, Some, None}
use Rattle.dl_exact.specs.Fraction.{Fraction, whole}
use Rattle.dl_severity.specs.Buckets.{buckets}
use Rattle.dl_ast.specs.declared.ast.ListAst.{ListAst}
use Rattle.dl_ast.specs.declared.ast.Atom.{Atom}
use Rattle.dl_ast.specs.declared.ast.MixAst.{MixAst}
use Rattle.dl_ast.specs.declared.ast.LimitAst.{LimitAst}
use Rattle.dl_ast.specs.declared.ast.LimitAst.TheVariants.{Finite, Infinite}
use Rattle.dl_ast.specs.declared.ast.Layer.{Layer}
use Rattle.dl_ast.specs.declared.ast.Share.{Share}
use Rattle.dl_ast.specs.declared.ast.Share.TheVariants as shares
use Rattle.dl_ast.specs.declared.ast.CededLayer.{CededLayer}
use Rattle.dl_ast.specs.declared.ast.Cession.{Cession}
use Rattle.dl_ast.specs.declared.ast.Exposure.{Exposure}
use Rattle.dl_ast.specs.declared.ast.Exposure.TheVariants as exposures
use Rattle.dl_ast.specs.declared.ast.FreqAst.{FreqAst}
use Rattle.dl_ast.specs.declared.ast.FreqAst.TheVariants as freqs
use Rattle.dl_ast.specs.declared.ast.ZeroAst.{ZeroAst}
use Rattle.dl_ast.specs.declared.ast.ZeroAst.TheVariants.{Plain, Truncated, Modified}
use Rattle.dl_ast.specs.declared.ast.CountAst.{CountAst}
use Rattle.dl_ast.specs.declared.ast.CountAst.TheVariants as counts
use Rattle.dl_ast.specs.declared.ast.UnitAst.{UnitAst}
use Rattle.dl_lexer.specs.declared.token.Span.{Span}
use Rattle.dl_reading.specs.declared.grid.ValueList.{ValueList}
use Rattle.dl_reading.specs.declared.grid.Shares.{Shares}
use Rattle.dl_reading.specs.declared.grid.GridAtom.{GridAtom}
use Rattle.dl_reading.specs.declared.grid.GridSev.{GridSev}
use Rattle.dl_reading.specs.declared.grid.GridLayer.{GridLayer}
use Rattle.dl_reading.specs.declared.grid.GridShare.{GridShare}
use Rattle.dl_reading.specs.declared.grid.GridShare.TheVariants.{Whole, So, Po}
use Rattle.dl_reading.specs.declared.grid.GridCeded.{GridCeded}
use Rattle.dl_reading.specs.declared.grid.GridClause.{GridClause}
use Rattle.dl_reading.specs.declared.grid.GridExposure.{GridExposure}
use Rattle.dl_reading.specs.declared.grid.GridExposure.TheVariants.{Claims, Loss, Premium}
use Rattle.dl_reading.specs.declared.grid.GridFreq.{GridFreq}
use Rattle.dl_reading.specs.declared.grid.GridFreq.TheVariants.{Fixed, Poisson, Bernoulli, Binomial, Gamma}
use Rattle.dl_reading.specs.declared.grid.GridCount.{GridCount}
use Rattle.dl_reading.specs.declared.grid.GridCount.TheVariants.{Exposed, Listed}
use Rattle.dl_reading.specs.declared.grid.GridUnit.{GridUnit}
use Rattle.dl_reading.specs.Lists.{weights_over}
use Rattle.dl_reading.specs.Values.{if_there, value, values_of}

-- an amount of money as a number of buckets, where it is a whole one
abbrev pub number_of : Fraction → Fraction → ℕ
number_of bs x = (buckets bs x).num

abbrev pub grid_list : ListAst → ValueList
grid_list l = record { values = values_of l; span = l.span }

-- probabilities at a place, with their weights
abbrev pub shares_at : List Fraction → Span → Shares
shares_at values span = record {
  values = values;
  weights = weights_over values;
  span =
      span;
}

abbrev pub grid_shares : ListAst → Shares
grid_shares l = shares_at (values_of l) l.span

-- ---- the severity

abbrev pub grid_atom : Fraction → Atom → GridAtom
grid_atom bs a = record {
  amounts = map (number_of bs) (values_of a.values);
  probs =
      if_there grid_shares a.probs;
}

abbrev pub grid_mixture : Fraction → MixAst → GridSev
grid_mixture bs m = record {
  atoms = map (grid_atom bs) m.atoms;
  weights =
      if_there grid_shares m.weights;
}

-- ---- layers and clauses

abbrev pub limit_value : LimitAst → Option Fraction
limit_value (Finite n) = Some (value n)
limit_value Infinite = None

abbrev pub grid_layer : Fraction → Layer → GridLayer
grid_layer bs l = record {
  limit = if_there (number_of bs) (limit_value l.limit);
  attach = number_of bs (value l.attach);
  span = l.span;
}

-- an amount of money beside the limit that it is a part of
abbrev pub share_beside : Share → Option Fraction → GridShare
share_beside shares.Whole limit = Whole
share_beside (shares.So n) limit = So (value n)
share_beside (shares.Po n) limit = Po (value n) limit

abbrev pub grid_ceded : Fraction → CededLayer → GridCeded
grid_ceded bs c = record {
  share = share_beside c.share (limit_value c.layer.limit);
  layer = grid_layer bs c.layer;
  span = c.span;
}

abbrev pub grid_clause : Fraction → Cession → GridClause
grid_clause bs c = record {
  net = c.net;
  layers = map (grid_ceded bs) c.layers;
  span = c.span;
}

-- ---- the count

abbrev pub grid_exposure : Exposure → GridExposure
grid_exposure (exposures.Claims n span) = Claims (value n) span
grid_exposure (exposures.Loss n span) = Loss (value n) span
grid_exposure (exposures.Premium p r span) = Premium (value p) (value r) span

-- a geometric count is one mixed by a gamma factor with the coefficient of variation 1
abbrev pub grid_freq : FreqAst → GridFreq
grid_freq (freqs.Fixed span) = Fixed span
grid_freq (freqs.Poisson span) = Poisson span
grid_freq (freqs.Geometric span) = Gamma (whole 1) span
grid_freq (freqs.Bernoulli span) = Bernoulli span
grid_freq (freqs.Binomial n span) = Binomial (value n) span
grid_freq (freqs.Gamma n span) = Gamma (value n) span

-- the distribution of a count; listed counts have none, and any will do
abbrev pub freq_of : CountAst → GridFreq
freq_of (counts.Exposed exposure freq zero) = grid_freq freq
freq_of (counts.Listed values probs span) = Fixed span

-- a count with this distribution, where it has one
abbrev pub count_with : CountAst → GridFreq → GridCount
count_with (counts.Exposed exposure _ zero) freq = Exposed (grid_exposure exposure) freq
count_with (counts.Listed values probs _) freq =
    Listed (grid_list values) (if_there grid_shares probs)

abbrev pub grid_count : CountAst → GridCount
grid_count count = count_with count (freq_of count)

-- the probability of no claim that a count is given: 0 for `zt`, and the number of `zm`
abbrev pub zero_value : ZeroAst → Option Fraction
zero_value Plain = None
zero_value (Truncated _) = Some (whole 0)
zero_value (Modified n _) = Some (value n)

abbrev pub given_zero : CountAst → Option Fraction
given_zero (counts.Exposed exposure freq zero) = zero_value zero
given_zero (counts.Listed values probs span) = None

-- ---- units

-- a unit whose severity is this one
abbrev pub grid_with : Fraction → GridSev → UnitAst → GridUnit
grid_with bs sev u = record {
  name = u.name.span;
  count = grid_count u.count;
  layer = if_there (grid_layer bs) u.layer;
  sev = sev;
  bang = u.sev.bang;
  zero = given_zero u.count;
  occ = if_there (grid_clause bs) u.occ;
  agr = if_there (grid_clause bs) u.agr;
}

-- a unit whose severity is this mixture
unfoldable pub grid_of : Fraction → UnitAst → MixAst → GridUnit
grid_of bs u m = grid_with bs (grid_mixture bs m) u
