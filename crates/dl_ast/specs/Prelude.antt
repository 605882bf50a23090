-- The definitions that other crates cite, passed on from one place. Declares nothing.
pub use Rattle.dl_ast.specs.Grammar.{exposed_unit, listed_unit, plain_or, po, severity, so, some_of, spanned, whole, ◌means◌, ◌≪◌, ◌≫◌}
unfoldable pub use Rattle.dl_ast.specs.Grammar.{atom, book, cession, claims, clause, common, cost, count, exposure, freq, head, item, layer, limit, list, listed, mixture, name, next_cession, next_item, note, numeral, premium, program, reference, sev, sevdef, side, unit, zero_change}
pub use Rattle.dl_ast.specs.Lexemes.{IsReal, Lexeme, lexeme, lexemes}
pub use Rattle.dl_ast.specs.Rules.{Rule, Spells, made, many, maybe, node, one, span_of, unless, ◌or◌, ◌▸◌}
pub use Rattle.dl_ast.specs.WellFormed.{IsFormedAtom, IsFormedBody, IsFormedCeded, IsFormedCession, IsFormedCount, IsFormedDefinition, IsFormedExposure, IsFormedFrequency, IsFormedHead, IsFormedItem, IsFormedLayer, IsFormedLimit, IsFormedList, IsFormedMixture, IsFormedName, IsFormedNote, IsFormedNumeral, IsFormedReference, IsFormedSeverity, IsFormedShare, IsFormedUnit, IsFormedZero, IsWellFormed}
