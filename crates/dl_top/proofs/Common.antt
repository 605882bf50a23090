-- The names that the proofs of this crate cite most, passed on from one place. Declares nothing.
pub use Rattle.std.proofs.Common.{All, Bool, Err, Global, IfSome, IsUtf8, List, None, Ok, Option, Some, String, [], add-one, ap, append_assoc, ap₂, arith, codes, drop, false, get_or, inl, inr, length, map, refl, rules, string_bytes, subst, sym, take, true, ℕ, ◌&&◌, ◌*◌, ◌++◌, ◌+◌, ◌-◌, ◌<◌, ◌==◌, ◌^◌, ◌∙◌, ◌∷◌, ◌≡◌, ◌≤◌}
pub use Rattle.std.proofs.Math.Nat.{pow-le-pow_right}
pub use Rattle.std.proofs.lemmas.List.{append_cancel_left, drop_all, drop_more, length-drop, take_all}
pub use Rattle.std.proofs.lemmas.List.Elements.{All-cons, All-head, All-map, All-nil, All-tail}
pub use Rattle.std.specs.Prelude.{zip}
pub use Rattle.std.specs.Vec.Iter.{into_iter_items}
pub use Rattle.dl_ast.specs.declared.ast.Program.{Program}
pub use Rattle.dl_cert.specs.Covered.{IsCovered, IsCoveredUnit, IsFirstUncovered, IsNotCovered}
pub use Rattle.dl_cert.specs.Verified.{IsBadStep, IsVerified}
pub use Rattle.dl_answers.specs.Rows.{IsGood}
pub use Rattle.dl_answers.specs.declared.fault.EvalFault.TheVariants.{AskBeyond, NoShare, OutOfMemory as NoRoom, TooWide, UnknownUnit}
pub use Rattle.dl_iv.specs.declared.interval.Iv.{Iv}
pub use Rattle.dl_lexer.specs.Cutting.{Covers, IsBad}
pub use Rattle.dl_lexer.specs.declared.token.Token.{Token}
pub use Rattle.dl_streams.specs.Bytes.{AppendsPartOf, Takes, TakesAtMost}
pub use Rattle.dl_streams.specs.Steps.{Reading, Step, all_gave, unread}
pub use Rattle.dl_plan.specs.Valid.{IsValid}
pub use Rattle.dl_plan.specs.declared.plan.Plan.{Plan}
pub use Rattle.dl_plan.specs.declared.settings.Asked.{Asked}
pub use Rattle.dl_plan.specs.declared.settings.Settings.{Settings}
pub use Rattle.dl_report.specs.declared.report.Report.{Report, Report as Rows}
pub use Rattle.dl_report.specs.declared.report.Row.{Row}
unfoldable pub use Rattle.dl_rules.specs.Faults.{fault_of_port, fault_on_grid, fault_with, first_fault, first_fault_of}
pub use Rattle.dl_rules.specs.Plans.{IsPlanOf, IsUnitOf}
pub use Rattle.dl_arguments.proofs.RangeLaws.{words_are_text, words_have_few_cells, words_in_range}
pub use Rattle.dl_arguments.specs.declared.fault.UsageFault.{UsageFault}
pub use Rattle.dl_top.specs.Answers.{Answers, AreVerified, AsksOfCert, Certifies, HasCovered, HasForm, HasTokens, IsAccepted, IsCertifiable, IsVerifiable, HasPlan, Refuses, SpellsProgram, Verifies, asking, bad_byte, bad_step, certified, continuous, formatted, not_covered, not_read, of_asks, refused, reported, syntax, too_long, typing, usage, verified}
pub use Rattle.dl_top.specs.Faults.{fault_line, status_of}
pub use Rattle.dl_top.specs.Inputs.{IsTooLong, Say, is_divided, limit_of, program_of, steps_of}
unfoldable pub use Rattle.dl_top.specs.Inputs.{input_of, length_to_steps, limit_for, program_in}
pub use Rattle.dl_top.specs.Made.{drawn_below, next_value, unit_line, unit_text}
unfoldable pub use Rattle.dl_top.specs.Made.{made_of, unit_lines, value_after}
pub use Rattle.dl_top.specs.Replies.{AreReady, HasParts, IfAnswer, IsOfText, IsReadFault, IsReply, IsRefusalOf}
pub use Rattle.dl_top.specs.declared.fault.Fault.{Fault}
pub use Rattle.dl_top.specs.declared.fault.Fault.TheVariants.{BadByte, BadStep, Continuous, NotCovered, Read, Syntax, TooLong, Typing, Usage}
pub use Rattle.dl_top.specs.declared.status.Status.TheVariants.{Done, OutOfMemory}
