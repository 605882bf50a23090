-- The names that the proofs of this crate cite most, passed on from one place. Declares nothing.
pub use Rattle.csv.specs.Writing.{default_writer, field_text, needs_byte, needs_quotes, row_text, writer_setup}
unfoldable pub use Rattle.csv.specs.Writing.{escaped, fields_text, is_blank}
pub use Rattle.dl_exact.specs.Fraction.{Fraction}
pub use Rattle.dl_frac.specs.Exact.{FitsFrac}
pub use Rattle.dl_plan.proofs.PlainBytes.{high_plain, low_plain}
pub use Rattle.dl_plan.specs.Plain.{IsPlainByte}
pub use Rattle.dl_report.specs.Ends.{with_digits}
unfoldable pub use Rattle.dl_report.specs.Ends.{end_text, last_digits}
pub use Rattle.dl_report.specs.Lines.{line}
pub use Rattle.dl_report.specs.Objects.{json_of, row_object, with_commas}
unfoldable pub use Rattle.dl_report.specs.Objects.{fraction_text}
pub use Rattle.dl_report.specs.Plain.{IsInRange, IsPlain}
pub use Rattle.dl_report.specs.Records.{calls_for_quotes, doubled, field, record_text, row_record}
pub use Rattle.dl_report.specs.Values.{report_data, row_data}
pub use Rattle.dl_report.specs.Writing.{HasWritten}
pub use Rattle.dl_report.specs.declared.report.End.{End}
pub use Rattle.dl_report.specs.declared.report.End.TheVariants.{Absent, Beyond, Number, Whole}
pub use Rattle.dl_report.specs.declared.report.Report.{Report}
pub use Rattle.dl_report.specs.declared.report.Row.{Row}
unfoldable pub use Rattle.json.proofs.OnLiterals.{json_on_literals}
pub use Rattle.json.specs.Print.{escape, quoted}
unfoldable pub use Rattle.json.specs.Print.{escape_byte}
pub use Rattle.serde_json.specs.Data.{Data, member, no_members, object, string}
pub use Rattle.serde_json.specs.View.{items_of, view}
pub use Rattle.serde_json.specs.Written.{compact_text, has_float, items_have_float, items_text}
pub use Rattle.std.proofs.Common.{All, Bool, Err, List, Ok, Result, [], add-one, ap, append-nil, append_assoc, ap₂, arith, codes, eqb-true, false, get_or, inl, inr, leb-true, length, length-append, map, ne_eqb, refl, rules, subst, suc, sym, take, true, zero, ℕ, ◌%◌, ◌*◌, ◌++◌, ◌+◌, ◌-◌, ◌/◌, ◌<◌, ◌^◌, ◌∙◌, ◌∷◌, ◌≡◌, ◌≢◌, ◌≤◌}
pub use Rattle.std.proofs.Math.Arith.{mod-mul}
pub use Rattle.std.proofs.Math.ListN.{get_or-append}
pub use Rattle.std.proofs.Math.Nat.{add-mul-div_left, add-mul-mod_self_left, div-add-mod, div-le_self, mod-add-div, mod-one, one-le-pow, pow-le-pow_right, pow-succ'}
pub use Rattle.std.proofs.Math.Seq.{get_or-append_seam, take-suc}
pub use Rattle.std.proofs.lemmas.Bool.{and_from, both_ways, cases_Bool, le-leb, le-ltb}
pub use Rattle.std.proofs.lemmas.Fmt.{decimal_by_steps_wide, decimal_is_IsNumeral_wide}
pub use Rattle.std.proofs.lemmas.List.{append_cancel_left, flat_map_more, take_all}
pub use Rattle.std.proofs.lemmas.List.Elements.{All-append, All-cons, All-get_or, All-head, All-nil, All-push, All-tail, All-weaker}
pub use Rattle.std.proofs.lemmas.List.Folds.{list_any_none}
pub use Rattle.std.proofs.lemmas.List.Sums.{AllPass-from_list_all}
pub use Rattle.std.proofs.lemmas.Result.{on_ok_weaker}
pub use Rattle.std.proofs.lemmas.Str.{IsAscii-append, IsUtf8-from_ascii}
pub use Rattle.std.proofs.lemmas.Str.Ascii.{IsAscii-nil}
pub use Rattle.std.specs.Fmt.{decimal}
pub use Rattle.std.specs.List.{flat_map, list_any}
pub use Rattle.std.specs.Prelude.{IfOk, OnOk, Vec, if◌then◌else◌, is_ok, nat_le, ◌&&◌, ◌==◌, ◌||◌}
pub use Rattle.std.specs.Str.{IsAscii, IsUtf8}
pub use Rattle.std.specs.Str.Parse.{digits_value}
pub use Rattle.std.specs.declared.alloc.Global.{Global}
