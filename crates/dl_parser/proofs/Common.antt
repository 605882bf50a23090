-- The names that the proofs of this crate cite most, passed on from one place. Declares nothing.
pub use Rattle.dl_ast.proofs.Formed.{program_formed}
pub use Rattle.dl_ast.proofs.Samples.{token_kind, token_of, token_real}
pub use Rattle.dl_ast.specs.Grammar.{some_of, ◌means◌, ◌≫◌}
unfoldable pub use Rattle.dl_ast.specs.Grammar.{claims, common, count, freq, head, layer, limit, name, note, numeral, premium, reference, side, zero_change}
pub use Rattle.dl_ast.specs.Lexemes.{IsReal, Lexeme, lexeme, lexemes}
pub use Rattle.dl_ast.specs.Rules.{Each, Rule, Spells, end_of, made, many, maybe, node, one, span_of, unless, ◌or◌, ◌▸◌}
pub use Rattle.dl_ast.specs.declared.ast.Atom.{Atom}
pub use Rattle.dl_ast.specs.declared.ast.CededLayer.{CededLayer}
pub use Rattle.dl_ast.specs.declared.ast.Cession.{Cession}
pub use Rattle.dl_ast.specs.declared.ast.CountAst.{CountAst}
pub use Rattle.dl_ast.specs.declared.ast.Exposure.{Exposure}
pub use Rattle.dl_ast.specs.declared.ast.FreqAst.{FreqAst}
pub use Rattle.dl_ast.specs.declared.ast.Layer.{Layer}
pub use Rattle.dl_ast.specs.declared.ast.LimitAst.{LimitAst}
pub use Rattle.dl_ast.specs.declared.ast.ListAst.{ListAst}
pub use Rattle.dl_ast.specs.declared.ast.ListItem.{ListItem}
pub use Rattle.dl_ast.specs.declared.ast.MixAst.{MixAst}
pub use Rattle.dl_ast.specs.declared.ast.NameAst.{NameAst}
pub use Rattle.dl_ast.specs.declared.ast.Program.{Program}
pub use Rattle.dl_ast.specs.declared.ast.SevAst.{SevAst}
pub use Rattle.dl_ast.specs.declared.ast.UnitAst.{UnitAst}
pub use Rattle.dl_ast.specs.declared.ast.ZeroAst.{ZeroAst}
pub use Rattle.dl_lexer.proofs.CoverLaws.{token_takes}
pub use Rattle.dl_lexer.specs.declared.token.Keyword.TheVariants.{Ceded, Net, Of, To}
pub use Rattle.dl_lexer.specs.declared.token.Kind.{Kind}
pub use Rattle.dl_lexer.specs.declared.token.Kind.TheVariants.{Sign, Word}
pub use Rattle.dl_lexer.specs.declared.token.Span.{Span}
pub use Rattle.dl_lexer.specs.declared.token.Token.{Token}
pub use Rattle.dl_limits.specs.Limits.{most_text}
unfoldable pub use Rattle.dl_parser.specs.Factored.{atom, body, book, cession, clause, closing, cost, counted, defined, ending, exposed, exposure, item, items, layers, list, listed, loss, mixture, next_cession, next_item, ratio, sev, sevdef, unit, units, weighted}
pub use Rattle.dl_parser.specs.Parsing.{ReadsBy, state}
pub use Rattle.dl_parser.specs.Plain.{plain}
pub use Rattle.dl_parser.specs.Reading.{Outcome, State, alone, among, apart, begins, enters, first, front, goes_on, got, is_empty, is_plain, is_settled, one_at, read, repeat, same_kind, seconds, settles, start_of, stuck, two_at, watched, ◌>>=◌}
pub use Rattle.dl_parser.specs.Viable.{Begins, IsContinuous, IsRefused, Stops, Viable, continuous}
pub use Rattle.dl_parser.specs.Within.{AllInside, Inside}
pub use Rattle.dl_parser.specs.declared.cursor.Parser.{Parser}
pub use Rattle.dl_parser.specs.declared.stop.Stop.{Stop}
pub use Rattle.dl_parser.specs.declared.stop.Stop.TheVariants.{OutOfMemory, Wanted}
pub use Rattle.dl_parser.specs.declared.units.Body.{Body}
pub use Rattle.dl_parser.specs.declared.units.Loss.{Loss}
pub use Rattle.std.proofs.Common.{Bool, List, None, Option, Some, [], ap, append_assoc, arith, cond, drop, false, get_or, if◌then◌else◌, inl, inr, length, length-append, length-drop, map, refl, rules, subst, suc, sym, take, true, zero, ℕ, ◌&&◌, ◌++◌, ◌+◌, ◌-◌, ◌<◌, ◌||◌, ◌∙◌, ◌∷◌, ◌≡◌, ◌≤◌, ◌⊎◌}
pub use Rattle.std.proofs.lemmas.Bool.{and_parts, cases_lt, or_parts, or_right}
pub use Rattle.std.proofs.lemmas.Bool.Decides.{nat_tests}
pub use Rattle.std.proofs.lemmas.Grind.{common_steps}
pub use Rattle.std.proofs.lemmas.List.{append-nil, length-map, map-append}
pub use Rattle.std.proofs.lemmas.List.Elements.{All-append, All-cons, All-nil, All-push, All-rest}
pub use Rattle.std.proofs.lemmas.List.Folds.{list_any-append, list_any_at}
pub use Rattle.std.proofs.lemmas.List.Sums.{prefix_len-le-length}
pub use Rattle.std.proofs.lemmas.Map.Views.{Contains-from_any}
pub use Rattle.std.specs.List.{prefix_len}
pub use Rattle.std.specs.Prelude.{All, Contains, Err, Ok, Result, ◌==◌}
