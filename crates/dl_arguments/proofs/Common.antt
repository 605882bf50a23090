-- The names that the proofs of this crate cite most, passed on from one place. Declares nothing.
pub use Rattle.clap.proofs.WalkLemmas.{first_value-rows, raw_values-rows}
pub use Rattle.clap.specs.Facts.{explicit_source, unwrap_or_range}
pub use Rattle.clap.specs.Faults.{check_fault, default_fault, entered_fault, fault_of, is_simple_and_free, level_fault, long_fault, repeat_fault, settle_fault, short_fault, step_fault, turn_fault, use_fault, word_fault}
unfoldable pub use Rattle.clap.specs.Faults.{defaults_fault, flags_fault, walk_fault}
pub use Rattle.clap.specs.Kinds.{HasKind, IsAmong, Kinds, or_else}
pub use Rattle.clap.specs.Lexer.{long_of, short_of}
pub use Rattle.clap.specs.Matches.{first_value, found_of}
pub use Rattle.clap.specs.Simple.{App, Shape, app_of, built, entered, is_simple, matches_of, new_rule}
pub use Rattle.clap.specs.Takes.{is_given}
pub use Rattle.clap.specs.Walk.{Held, Row, Rule, Walk, action_of, all_of, arg_by_id, arg_by_index, arg_by_long, arg_by_short, has_row, is_append, most_values, next_position, nothing_held, reading_by, rows_of, settled, stronger, takes_several, takes_values, walk, walk_from, with_default, with_values, without}
pub use Rattle.clap.specs.declared.builder.action.ArgAction.{ArgAction}
pub use Rattle.clap.specs.declared.builder.action.ArgAction.TheVariants.{Append, Set}
pub use Rattle.clap.specs.declared.builder.value_parser.Reading.{Reading}
pub use Rattle.clap.specs.declared.error.kind.ErrorKind.{ErrorKind}
pub use Rattle.clap.specs.declared.parser.matches.Found.{Found}
pub use Rattle.clap.specs.declared.parser.matches.ValueSource.{ValueSource}
pub use Rattle.clap.specs.declared.parser.matches.ValueSource.TheVariants.{CommandLine, DefaultValue}
pub use Rattle.dl_arguments.specs.Asks.{with_ask}
unfoldable pub use Rattle.dl_arguments.specs.Asks.{asks_of}
pub use Rattle.dl_arguments.specs.Command.{asks, bare_command, command, form}
pub use Rattle.dl_arguments.specs.Faults.{Explains, ExplainsAsks, IsClapRefusal}
pub use Rattle.dl_arguments.specs.Found.{TakesOption, answer_in, asks_in, form_in, list_of, values_in}
pub use Rattle.dl_arguments.specs.Options.{Values, are_of_cert, are_of_verify, are_taken, form_named, format_named, is_format, is_report_plain, is_rules, is_taken, most_cert_log2, or_default, rules_in, rules_named, rules_of, settings_of}
pub use Rattle.dl_arguments.specs.Parts.{Kind, Mode, Part, after_hyphens, command_parts, is_equals, is_name, kind_of, named, option_values, positionals_of, read_kind, with_part}
unfoldable pub use Rattle.dl_arguments.specs.Parts.{parts_from}
pub use Rattle.dl_arguments.specs.Parts.Kind.{begins, ends, misfit, plain, whole}
pub use Rattle.dl_arguments.specs.Parts.Mode.{between, ended, value}
pub use Rattle.dl_arguments.specs.Parts.Part.{option, positional}
pub use Rattle.dl_arguments.specs.Spelling.{Text, begins_plainly, is_amount, is_bucket, is_number_within, is_probability, is_weight, is_word}
pub use Rattle.dl_arguments.specs.Table.{SpellsAsk, amount, are_weighted, by_row, colon, layer, letter_s, letter_x, limit, mean, name, plus, probability, rows, share_of_tail, term, terms, unit_amount, unit_level, weight}
unfoldable pub use Rattle.dl_arguments.specs.Table.{ask_of}
pub use Rattle.dl_arguments.specs.Ways.{Way, behind, behind_sign, cut_at, joined_at, made}
pub use Rattle.dl_arguments.specs.Words.{admits, answer, to_parts, to_positionals, with_asks, words_of}
pub use Rattle.dl_arguments.specs.declared.fault.UsageFault.{UsageFault}
pub use Rattle.dl_arguments.specs.declared.fault.UsageFault.TheVariants.{Line}
pub use Rattle.dl_arguments.specs.declared.fault.WordsFault.{WordsFault}
pub use Rattle.dl_arguments.specs.declared.fault.WordsFault.TheVariants.{OutOfMemory, Usage}
pub use Rattle.dl_bytes.proofs.FirstSign.{after_at, any_at, before_at, before_none, cut_first, found_any, none_any}
pub use Rattle.dl_bytes.proofs.NumeralTests.{numeral_test}
pub use Rattle.dl_bytes.specs.Numerals.{IsDecimal, a_decimal, a_fraction, a_percent, digits, digits_point, fraction, percent, point_digits}
pub use Rattle.dl_bytes.specs.Prelude.{IsNumeral, is_number, is_numeral, number}
pub use Rattle.dl_exact.proofs.BelowOne.{below_one}
pub use Rattle.dl_exact.proofs.Over.{over_same, over_self}
pub use Rattle.dl_exact.proofs.Parts.{pos_num}
pub use Rattle.dl_exact.specs.Fraction.{Fraction}
pub use Rattle.dl_frac.proofs.SmallNumerals.{IsSmall, numeral_small}
unfoldable pub use Rattle.dl_frac.specs.Numerals.{is_bad, numeral_value}
pub use Rattle.dl_lexer.specs.Bytes.{is_word_byte}
pub use Rattle.dl_lexer.specs.Tokens.{begins_with_letter}
pub use Rattle.dl_limits.specs.declared.rules.Rules.{Rules}
pub use Rattle.dl_limits.specs.declared.rules.Rules.TheVariants.{Extended, Standard}
pub use Rattle.dl_plan.proofs.Buckets.{one_bucket}
pub use Rattle.dl_plan.proofs.WholeParts.{one_only}
pub use Rattle.dl_plan.specs.Plain.{IsPlainByte}
pub use Rattle.dl_plan.specs.Prelude.{AreInRange, ArePriced, IsAskInRange, IsBucket, IsLevel, IsOfCert, common_denominator, most_terms, most_weight_parts}
pub use Rattle.dl_plan.specs.declared.settings.Ask.{Ask}
pub use Rattle.dl_plan.specs.declared.settings.Ask.TheVariants.{Cdf, Cotail, Joint, Kappa, LayerMean, Mean, Pmf, Price, Quantile, Share, Tail}
pub use Rattle.dl_plan.specs.declared.settings.Asked.{Asked}
pub use Rattle.dl_plan.specs.declared.settings.Form.{Form}
pub use Rattle.dl_plan.specs.declared.settings.Form.TheVariants.{Cert, Fmt, Run, Verify}
pub use Rattle.dl_plan.specs.declared.settings.Settings.{Settings}
pub use Rattle.dl_plan.specs.declared.settings.Term.{Term}
pub use Rattle.std.proofs.Common.{All, Bool, Err, IfOk, IfSome, List, None, Ok, Option, Result, Some, [], add-one, ap, append_assoc, ap₂, arith, codes, drop, drop-cons, false, get_or, inl, inr, length, map, refl, rules, subst, suc, sym, take, true, true≢false, zero, ℕ, ◌++◌, ◌+◌, ◌-◌, ◌<◌, ◌∙◌, ◌∷◌, ◌≡◌, ◌≢◌, ◌≤◌, ◌⊎◌}
pub use Rattle.std.proofs.Math.Bool.{and-false}
pub use Rattle.std.proofs.Math.Nat.{pow-le-pow_right}
pub use Rattle.std.proofs.lemmas.Bool.{and_from, and_left, and_parts, and_right, both_ways, cases_Bool, eq-eqb, eqb-true, false_from_ne_true, le-leb, leb-true, ltb-true, not-true}
pub use Rattle.std.proofs.lemmas.Bool.Decides.{nat_tests}
pub use Rattle.std.proofs.lemmas.Grind.{common_steps}
pub use Rattle.std.proofs.lemmas.List.{append-nil, drop_all}
pub use Rattle.std.proofs.lemmas.List.Elements.{All-append, All-cons, All-head, All-nil, All-tail, All-weaker}
pub use Rattle.std.proofs.lemmas.List.Folds.{list_all-map, list_any_none}
pub use Rattle.std.proofs.lemmas.Result.{IfErr-weaker, IfOk-weaker}
pub use Rattle.std.proofs.lemmas.Slice.Eq.{bytes_eq-Decides}
pub use Rattle.std.proofs.lemmas.Str.Pattern.{IsSplitOnceResult, split_once_first, strip_prefix_char}
pub use Rattle.std.specs.Bool.{then_some}
pub use Rattle.std.specs.Borrow.{Bor}
pub use Rattle.std.specs.Char.{is_ascii_digit}
pub use Rattle.std.specs.List.{after_first, before_first, fold, list_all, list_any, slice_index_or}
pub use Rattle.std.specs.Option.{option_map_or}
pub use Rattle.std.specs.Prelude.{IsTrue, MatchOption, find, if◌then◌else◌, is_some, nat_le, nat_lt, option_and_then, option_map, slice_get, unwrap_or, ⊤, ◌&&◌, ◌==◌, ◌||◌}
pub use Rattle.std.specs.Str.{bytes_eq, chars}
pub use Rattle.std.specs.String.{string_bytes}
