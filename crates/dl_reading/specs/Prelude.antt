-- The definitions that other crates cite, passed on from one place. Declares nothing.
pub use Rattle.dl_reading.specs.CheckedClauses.{AreClausesOf, IsClauseLayered}
pub use Rattle.dl_reading.specs.CheckedGrid.{IsGridUnit, IsSevWithin, IsWithin}
pub use Rattle.dl_reading.specs.CheckedUnit.{IsLayered}
pub use Rattle.dl_reading.specs.Clauses.{IsMade, clause_of, made_of}
pub use Rattle.dl_reading.specs.FineParts.{IsWeighed, fractions_too_fine, has_probs, has_severity, has_shares}
pub use Rattle.dl_reading.specs.First.{at_if, within, ◌else◌}
unfoldable pub use Rattle.dl_reading.specs.First.{first_in, in_turn}
pub use Rattle.dl_reading.specs.Flaws.{IsRead}
pub use Rattle.dl_reading.specs.Grid.{grid_mixture}
unfoldable pub use Rattle.dl_reading.specs.Grid.{grid_of}
pub use Rattle.dl_reading.specs.Lists.{are_fine, is_above, is_admitted, is_fine, is_whole, is_zero, probs_of}
pub use Rattle.dl_reading.specs.Parts.{AreProbabilities}
pub use Rattle.dl_reading.specs.Reading.{flaws_of_mixture}
unfoldable pub use Rattle.dl_reading.specs.Reading.{flaws_of}
unfoldable pub use Rattle.dl_reading.specs.Rules.{none_above, off_grid_cession, other_length, overlap, share_above_one, weights_differ}
pub use Rattle.dl_reading.specs.Severity.{final_severity, severity_in_layer, support}
pub use Rattle.dl_reading.specs.Small.{IsGridCount, IsGridFreq, IsShares, IsValueList}
pub use Rattle.dl_reading.specs.Values.{is_bad_numeral, value}
