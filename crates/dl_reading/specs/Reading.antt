-- The flaws of a unit: of each of the rules 2 to 8 the first place in the text where it is broken.
-- Amounts of money are in buckets of size bs, and at most `most` of them. How long a list may be,
-- and which one is fine, is read from the bounds.
use Rattle.std.specs.Prelude.{ℕ, Bool, true, false, not, ◌&&◌, ◌||◌, ◌==◌, nat_lt, is_some, List, length}
use Rattle.std.specs.List.{list_any, sum_by}
use Rattle.dl_limits.specs.Limits.{most_atoms, most_layers, most_range_parts, most_values}
use Rattle.dl_limits.specs.declared.rules.Bounds.{Bounds}
use Rattle.dl_exact.specs.Fraction.{Fraction, whole}
use Rattle.dl_severity.specs.Prelude.{buckets, range_denominator}
use Rattle.dl_severity.specs.declared.range.Range.{Range}
use Rattle.dl_lexer.specs.declared.token.Span.{Span}
use Rattle.dl_ast.specs.declared.ast.Numeral.{Numeral}
use Rattle.dl_ast.specs.declared.ast.ListItem.{ListItem}
use Rattle.dl_ast.specs.declared.ast.ListAst.{ListAst}
use Rattle.dl_ast.specs.declared.ast.Atom.{Atom}
use Rattle.dl_ast.specs.declared.ast.MixAst.{MixAst}
use Rattle.dl_ast.specs.declared.ast.SevBody.{SevBody}
use Rattle.dl_ast.specs.declared.ast.SevBody.TheVariants.{Mixture, Ref}
use Rattle.dl_ast.specs.declared.ast.LimitAst.{LimitAst}
use Rattle.dl_ast.specs.declared.ast.LimitAst.TheVariants.{Finite, Infinite}
use Rattle.dl_ast.specs.declared.ast.Layer.{Layer}
use Rattle.dl_ast.specs.declared.ast.Share.{Share}
use Rattle.dl_ast.specs.declared.ast.Share.TheVariants.{Whole, So, Po}
use Rattle.dl_ast.specs.declared.ast.CededLayer.{CededLayer}
use Rattle.dl_ast.specs.declared.ast.Cession.{Cession}
use Rattle.dl_ast.specs.declared.ast.Exposure.{Exposure}
use Rattle.dl_ast.specs.declared.ast.Exposure.TheVariants.{Claims, Loss, Premium}
use Rattle.dl_ast.specs.declared.ast.FreqAst.{FreqAst}
use Rattle.dl_ast.specs.declared.ast.FreqAst.TheVariants.{Fixed, Poisson, Geometric, Bernoulli, Binomial, Gamma}
use Rattle.dl_ast.specs.declared.ast.ZeroAst.{ZeroAst}
use Rattle.dl_ast.specs.declared.ast.ZeroAst.TheVariants.{Plain, Truncated, Modified}
use Rattle.dl_ast.specs.declared.ast.CountAst.{CountAst}
use Rattle.dl_ast.specs.declared.ast.CountAst.TheVariants.{Exposed, Listed}
use Rattle.dl_ast.specs.declared.ast.UnitAst.{UnitAst}
use Rattle.dl_reading.specs.declared.flaws.Flaws.{Flaws}
use Rattle.dl_reading.specs.First.{at_if}
use Rattle.dl_reading.specs.Flaws.{no_flaws, flaws_else, earlier_flaws, flaws_within, flaws_in, numeral_at, range_at, long_at, lengths_at, sum_at}
use Rattle.dl_reading.specs.Lists.{is_above, is_zero, is_whole, is_not_one}
use Rattle.dl_reading.specs.Values.{value, is_bad_numeral, range_of, spanned_values, values_of}

-- ---- numbers

-- 2 BadNumeral: a numeral has more than 11 digits, or is a fraction over 0
abbrev pub flaws_of_numeral : Numeral → Flaws
flaws_of_numeral n = numeral_at (at_if (is_bad_numeral n) n.span)

-- 7 OffGrid: an amount of money is no whole number of buckets
-- 8 TooFar: it passes so many buckets
abbrev pub flaws_of_amount : ℕ → Fraction → Fraction → Span → Flaws
flaws_of_amount most bs x span = record no_flaws {
  off_grid = at_if (not (is_whole (buckets bs x))) span;
  too_far = at_if (is_above (buckets bs x) (whole most)) span;
}

-- of the numeral n as an amount of money, at this place
abbrev pub flaws_of_money : ℕ → Fraction → Span → Numeral → Flaws
flaws_of_money most bs span n =
    flaws_else (flaws_of_numeral n) (flaws_of_amount most bs (value n) span)

-- ---- lists

-- 3 BadRange: a range has its first value above its last, the step 0, or a common denominator above
-- 1,000,000
abbrev pub is_no_range : Range → Bool
is_no_range r = is_above r.from r.to || is_zero r.step
    || nat_lt most_range_parts (range_denominator r)

abbrev pub flaws_of_item : ListItem → Flaws
flaws_of_item i =
    flaws_else (flaws_of_numeral i.from) (flaws_else (flaws_within flaws_of_numeral i.to)
    (flaws_else (flaws_within flaws_of_numeral i.step)
    (range_at (at_if (is_some i.to && is_no_range (range_of i)) i.span))))

-- 4 ListTooLong: a list has more values than it may have; below, a severity more than 64 atoms or
-- more values than it may have in all, and a clause more than 16 layers
abbrev pub flaws_of_list : Bounds → ListAst → Flaws
flaws_of_list bounds l =
    flaws_else (flaws_in flaws_of_item l.items)
    (long_at (at_if (nat_lt bounds.values (length (spanned_values l))) l.span))

-- a list of amounts of money
abbrev pub flaws_of_amounts : Bounds → ℕ → Fraction → ListAst → Flaws
flaws_of_amounts bounds most bs l =
    flaws_else (flaws_of_list bounds l)
    (flaws_in (λ pair. flaws_of_amount most bs pair.0 pair.1) (spanned_values l))

-- 6 NotOne: a fine list of probabilities does not sum to 1
abbrev pub flaws_of_shares : Bounds → ListAst → Flaws
flaws_of_shares bounds l =
    flaws_else (flaws_of_list bounds l)
    (sum_at (at_if (is_not_one bounds.parts (values_of l)) l.span))

-- 5 LengthsDiffer: a list of so many values has another number of probabilities
abbrev pub flaws_beside : Bounds → ℕ → ListAst → Flaws
flaws_beside bounds count l =
    flaws_else (flaws_of_shares bounds l)
    (lengths_at (at_if (not (count == length (spanned_values l))) l.span))

abbrev pub flaws_of_atom : Bounds → ℕ → Fraction → Atom → Flaws
flaws_of_atom bounds most bs a =
    flaws_else (flaws_of_amounts bounds most bs a.values)
    (flaws_within (flaws_beside bounds (length (spanned_values a.values))) a.probs)

-- how many values an atom has
abbrev pub values_in : Atom → ℕ
values_in a = length (spanned_values a.values)

-- no list of an atom's values is too long, and they have more than 65,536 values together
abbrev pub are_many_values : Bounds → List Atom → Bool
are_many_values bounds atoms =
    not (list_any (λ a. nat_lt bounds.values (values_in a)) atoms)
    && nat_lt most_values (sum_by values_in atoms)

abbrev pub is_long_mixture : Bounds → MixAst → Bool
is_long_mixture bounds m = nat_lt most_atoms (length m.atoms) || are_many_values bounds m.atoms

abbrev pub flaws_of_mixture : Bounds → ℕ → Fraction → MixAst → Flaws
flaws_of_mixture bounds most bs m =
    flaws_else (long_at (at_if (is_long_mixture bounds m) m.span))
    (flaws_else (flaws_in (flaws_of_atom bounds most bs) m.atoms)
    (flaws_within (flaws_of_shares bounds) m.weights))

-- ---- layers and clauses

abbrev pub flaws_of_limit : ℕ → Fraction → Span → LimitAst → Flaws
flaws_of_limit most bs span (Finite n) = flaws_of_money most bs span n
flaws_of_limit most bs span Infinite = no_flaws

-- of its numeral alone
abbrev pub flaws_of_limit_number : LimitAst → Flaws
flaws_of_limit_number (Finite n) = flaws_of_numeral n
flaws_of_limit_number Infinite = no_flaws

abbrev pub flaws_of_layer : ℕ → Fraction → Layer → Flaws
flaws_of_layer most bs l =
    flaws_else (flaws_of_limit most bs l.span l.limit) (flaws_of_money most bs l.span l.attach)

abbrev pub flaws_of_share : Share → Flaws
flaws_of_share Whole = no_flaws
flaws_of_share (So n) = flaws_of_numeral n
flaws_of_share (Po n) = flaws_of_numeral n

abbrev pub flaws_of_ceded : ℕ → Fraction → CededLayer → Flaws
flaws_of_ceded most bs c = flaws_else (flaws_of_share c.share) (flaws_of_layer most bs c.layer)

abbrev pub flaws_of_clause : ℕ → Fraction → Cession → Flaws
flaws_of_clause most bs c =
    flaws_else (flaws_in (flaws_of_ceded most bs) c.layers)
    (long_at (at_if (nat_lt most_layers (length c.layers)) c.span))

-- ---- counts

abbrev pub flaws_of_exposure : Exposure → Flaws
flaws_of_exposure (Claims n _) = flaws_of_numeral n
flaws_of_exposure (Loss n _) = flaws_of_numeral n
flaws_of_exposure (Premium p r _) = flaws_else (flaws_of_numeral p) (flaws_of_numeral r)

-- what of a count precedes the severity, and what follows the occurrence clause
abbrev pub flaws_of_count : Bounds → CountAst → Flaws
flaws_of_count bounds (Exposed exposure freq zero) = flaws_of_exposure exposure
flaws_of_count bounds (Listed values probs _) =
    flaws_else (flaws_of_list bounds values) (flaws_within
    (flaws_beside bounds (length (spanned_values values))) probs)

abbrev pub flaws_of_freq : FreqAst → Flaws
flaws_of_freq (Fixed _) = no_flaws
flaws_of_freq (Poisson _) = no_flaws
flaws_of_freq (Geometric _) = no_flaws
flaws_of_freq (Bernoulli _) = no_flaws
flaws_of_freq (Binomial n _) = flaws_of_numeral n
flaws_of_freq (Gamma n _) = flaws_of_numeral n

abbrev pub flaws_of_zero : ZeroAst → Flaws
flaws_of_zero Plain = no_flaws
flaws_of_zero (Truncated _) = no_flaws
flaws_of_zero (Modified n _) = flaws_of_numeral n

abbrev pub flaws_of_distribution : CountAst → Flaws
flaws_of_distribution (Exposed exposure freq zero) = flaws_else (flaws_of_freq freq) (flaws_of_zero zero)
flaws_of_distribution (Listed values probs _) = no_flaws

-- ---- units

-- whether a severity is the name of one that is written before all units
abbrev pub is_named : SevBody → Bool
is_named (Mixture m) = false
is_named (Ref n) = true

-- a unit whose severity has these flaws
abbrev pub flaws_with : Bounds → ℕ → Fraction → Flaws → UnitAst → Flaws
flaws_with bounds most bs severity u =
    flaws_else (earlier_flaws (is_named u.sev.body)
    (flaws_else (flaws_of_count bounds u.count) (flaws_within (flaws_of_layer most bs) u.layer)) severity)
    (flaws_else (flaws_within (flaws_of_clause most bs) u.occ)
    (flaws_else (flaws_of_distribution u.count) (flaws_within (flaws_of_clause most bs) u.agr)))

-- a unit whose severity is this mixture
unfoldable pub flaws_of : Bounds → ℕ → Fraction → UnitAst → MixAst → Flaws
flaws_of bounds most bs u m = flaws_with bounds most bs (flaws_of_mixture bounds most bs m) u
