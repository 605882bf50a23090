-- The names that the proofs of this crate cite most, passed on from one place. Declares nothing.
pub use Rattle.dl_ast.specs.Lexemes.{Lexeme, lexemes}
pub use Rattle.dl_ast.specs.Prelude.{IsWellFormed, Rule, Spells, lexeme, made, many, maybe, node, one, some_of, span_of, spanned, ◌means◌, ◌or◌, ◌≪◌, ◌≫◌, ◌▸◌}
unfoldable pub use Rattle.dl_ast.specs.Prelude.{program}
pub use Rattle.dl_ast.specs.declared.ast.Atom.{Atom}
pub use Rattle.dl_ast.specs.declared.ast.CededLayer.{CededLayer}
pub use Rattle.dl_ast.specs.declared.ast.Cession.{Cession}
pub use Rattle.dl_ast.specs.declared.ast.CountAst.{CountAst}
pub use Rattle.dl_ast.specs.declared.ast.CountAst.TheVariants.{Exposed, Listed}
pub use Rattle.dl_ast.specs.declared.ast.Exposure.{Exposure}
pub use Rattle.dl_ast.specs.declared.ast.Exposure.TheVariants.{Claims, Loss, Premium}
pub use Rattle.dl_ast.specs.declared.ast.FreqAst.{FreqAst}
pub use Rattle.dl_ast.specs.declared.ast.FreqAst.TheVariants.{Fixed}
pub use Rattle.dl_ast.specs.declared.ast.Layer.{Layer}
pub use Rattle.dl_ast.specs.declared.ast.LimitAst.{LimitAst}
pub use Rattle.dl_ast.specs.declared.ast.LimitAst.TheVariants.{Finite, Infinite}
pub use Rattle.dl_ast.specs.declared.ast.ListAst.{ListAst}
pub use Rattle.dl_ast.specs.declared.ast.ListItem.{ListItem}
pub use Rattle.dl_ast.specs.declared.ast.MixAst.{MixAst}
pub use Rattle.dl_ast.specs.declared.ast.NameAst.{NameAst}
pub use Rattle.dl_ast.specs.declared.ast.Numeral.{Numeral}
pub use Rattle.dl_ast.specs.declared.ast.PortHead.{PortHead}
pub use Rattle.dl_ast.specs.declared.ast.Program.{Program}
pub use Rattle.dl_ast.specs.declared.ast.SevAst.{SevAst}
pub use Rattle.dl_ast.specs.declared.ast.SevBody.{SevBody}
pub use Rattle.dl_ast.specs.declared.ast.SevBody.TheVariants.{Mixture, Ref}
pub use Rattle.dl_ast.specs.declared.ast.SevDef.{SevDef}
pub use Rattle.dl_ast.specs.declared.ast.Share.{Share}
pub use Rattle.dl_ast.specs.declared.ast.Share.TheVariants.{Whole}
pub use Rattle.dl_ast.specs.declared.ast.UnitAst.{UnitAst}
pub use Rattle.dl_ast.specs.declared.ast.ZeroAst.{ZeroAst}
pub use Rattle.dl_ast.specs.declared.ast.ZeroAst.TheVariants.{Modified, Plain, Truncated}
pub use Rattle.dl_lexer.proofs.BlankLemmas.{blank_no_token}
pub use Rattle.dl_lexer.proofs.CoverLaws.{cover_one}
pub use Rattle.dl_lexer.proofs.Longest.{longest_none}
pub use Rattle.dl_lexer.proofs.Prefix.{get_behind, prefix_ends, prefix_most}
pub use Rattle.dl_lexer.proofs.Spellings.{keyword_is_word}
pub use Rattle.dl_lexer.proofs.TokenKinds.{begins_numeral, longest_lettered, longest_numeral, longest_sign, no_letter_byte, numeral_begins, sign_no_letter, sign_no_numeral}
pub use Rattle.dl_lexer.proofs.WordLengths.{note_closed, note_none, ref_longest, ref_none, word_longest, word_parts, word_some}
pub use Rattle.dl_lexer.specs.Keywords.{spelling}
pub use Rattle.dl_lexer.specs.Tokens.{IsSpelled, IsToken, sign_byte}
pub use Rattle.dl_lexer.specs.declared.token.Keyword.{Keyword}
pub use Rattle.dl_lexer.specs.declared.token.Kind.{Kind}
pub use Rattle.dl_lexer.specs.declared.token.Sign.TheVariants.{Close, Colon}
pub use Rattle.dl_lexer.specs.declared.token.Span.{Span}
pub use Rattle.dl_lexer.specs.declared.token.Token.{Token}
pub use Rattle.dl_parser.proofs.Whole.{one_program}
pub use Rattle.dl_printer.specs.Apart.{SameProgram, bare, bare_atom, bare_body, bare_ceded, bare_cession, bare_count, bare_definition, bare_exposure, bare_freq, bare_head, bare_item, bare_layer, bare_limit, bare_list, bare_mix, bare_name, bare_numeral, bare_sev, bare_share, bare_unit, bare_zero, nowhere}
pub use Rattle.dl_printer.specs.Canonical.{begins_line, is_tight_before, is_tight_behind}
unfoldable pub use Rattle.dl_printer.specs.Canonical.{between, canonical, gap, spaced}
pub use Rattle.dl_printer.specs.Pieces.{Piece, behind_colon, common_pieces, name_piece, note_piece, numeral_piece, ref_piece, weights_pieces, word_piece}
unfoldable pub use Rattle.dl_printer.specs.Pieces.{and_ceded_pieces, atom_pieces, bang_pieces, ceded_layers_pieces, ceded_pieces, clause_pieces, cost_pieces, count_pieces, definition_pieces, exposure_pieces, freq_pieces, head_pieces, item_pieces, late_count_pieces, layer_pieces, limit_pieces, list_pieces, listed_pieces, mixture_pieces, optional, piece, program_pieces, sev_pieces, share_pieces, side_pieces, unit_pieces, zero_pieces}
unfoldable pub use Rattle.dl_printer.specs.Printing.{with_pieces}
pub use Rattle.dl_printer.specs.Printing.{SoFar}
pub use Rattle.dl_printer.specs.ReadingBack.{ReadsBack}
pub use Rattle.std.proofs.Common.{Bool, List, None, Option, Some, [], add-one, ap, append_assoc, ap₂, arith, codes, cond, drop, false, get_or, inl, inr, is_some, length, length-append, map, refl, rules, slice_get, subst, suc, sym, take, true, zero, ℕ, ◌++◌, ◌+◌, ◌<◌, ◌==◌, ◌||◌, ◌∙◌, ◌∷◌, ◌≡◌, ◌≢◌, ◌≤◌}
pub use Rattle.std.proofs.Math.Seq.{drop-append_seam, take-append_seam, take-suc}
pub use Rattle.std.proofs.lemmas.Bool.{and_from}
pub use Rattle.std.proofs.lemmas.Bool.Decides.{nat_tests}
pub use Rattle.std.proofs.lemmas.Grind.{flat_map-append}
pub use Rattle.std.proofs.lemmas.Iterator.Adapters.{option_map_id}
pub use Rattle.std.proofs.lemmas.List.{append-nil, map-append}
pub use Rattle.std.proofs.lemmas.List.Elements.{All-append, All-cons, All-head, All-nil, All-tail}
pub use Rattle.std.proofs.lemmas.List.Folds.{list_all-append}
pub use Rattle.std.proofs.lemmas.List.Sums.{AllPass-from_list_all, list_all-from_AllPass}
pub use Rattle.std.specs.Char.{is_ascii_digit}
pub use Rattle.std.specs.List.{flat_map, list_all, prefix_len}
pub use Rattle.std.specs.Option.{option_map}
pub use Rattle.std.specs.Prelude.{All, IfSome, IsNone}
