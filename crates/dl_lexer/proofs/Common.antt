-- The names that the proofs of this crate cite most, passed on from one place. Declares nothing.
pub use Rattle.dl_bytes.proofs.Beginnings.{begins_otherwise, begins_so}
pub use Rattle.dl_bytes.specs.Numerals.{IsDecimal, IsNumeral, a_decimal, a_fraction, a_percent, digits, digits_point, fraction, percent, point_digits}
pub use Rattle.dl_bytes.specs.Prelude.{AreDigits, IsDigits, IsFraction, IsPercent}
pub use Rattle.dl_lexer.specs.Bytes.{is_comment_byte, is_letter, is_note_byte, is_white, is_word_byte}
pub use Rattle.dl_lexer.specs.Classes.{is_in}
pub use Rattle.dl_lexer.specs.Cutting.{Covers, IsBad, IsLongest, NoToken, blank, blank_length, nothing, token, token_of}
pub use Rattle.dl_lexer.specs.Keywords.{spelling}
unfoldable pub use Rattle.dl_lexer.specs.Keywords.{first_spelled}
pub use Rattle.dl_lexer.specs.Lines.{column_of, line_of}
pub use Rattle.dl_lexer.specs.Tokens.{IsNote, IsRef, IsSpelled, IsToken, IsWord, begins_with_letter, note, ref, sign_byte}
pub use Rattle.dl_lexer.specs.declared.token.Keyword.{Keyword}
pub use Rattle.dl_lexer.specs.declared.token.Keyword.TheVariants.{Agg, Aggregate, And, At, Bernoulli, Beta, Binomial, Ceded, Chistogram, Claim, Claims, Common, Dfreq, Dhistogram, Dsev, Expon, Fixed, Gamma, Geometric, Inf, Lognorm, Loss, Lr, Mixed, Net, Norm, Note, Occurrence, Of, Pareto, Po, Poisson, Port, Prem, Premium, Sev, So, To, Uniform, Weibull, Wts, Xps, Xs, Zm, Zt}
pub use Rattle.dl_lexer.specs.declared.token.Kind.{Kind}
pub use Rattle.dl_lexer.specs.declared.token.Sign.{Sign}
pub use Rattle.dl_lexer.specs.declared.token.Sign.TheVariants.{Bang, Close, Colon, Comma, Open}
pub use Rattle.dl_lexer.specs.declared.token.Token.{Token}
pub use Rattle.std.proofs.Common.{Bool, IfNone, IfSome, List, None, Option, Some, [], add-one, ap, append_assoc, arith, codes, cond, drop, drop-cons, false, get_or, if◌then◌else◌, inl, inr, length, length-append, length-drop, map, max, refl, rules, slice_get, subst, suc, sym, take, true, zero, ℕ, ◌&&◌, ◌++◌, ◌+◌, ◌-◌, ◌<◌, ◌==◌, ◌||◌, ◌∙◌, ◌∷◌, ◌≡◌, ◌≢◌, ◌≤◌, ◌⊎◌}
pub use Rattle.std.proofs.Math.Seq.{drop-append-add, take-append-add, take-append_seam}
pub use Rattle.std.proofs.lemmas.Bool.{and_left, and_parts, and_right, both_ways, cases_lt}
pub use Rattle.std.proofs.lemmas.Bool.Decides.{nat_tests}
pub use Rattle.std.proofs.lemmas.List.{append-nil, drop_all, get_or-take, length-take-le, take-append-drop, take_all}
pub use Rattle.std.proofs.lemmas.List.Folds.{length-prefix_len, list_all-append, list_all_at}
pub use Rattle.std.proofs.lemmas.List.Sums.{AllPass-from_list_all, list_all-from_AllPass, prefix_len-le-length}
pub use Rattle.std.proofs.lemmas.Option.{get_or_from_slice_get, slice_get_within}
pub use Rattle.std.proofs.lemmas.Slice.Eq.{bytes_eq-Decides}
pub use Rattle.std.specs.Char.{is_ascii_digit}
pub use Rattle.std.specs.List.{list_all, prefix_len}
pub use Rattle.std.specs.Str.{bytes_eq}
