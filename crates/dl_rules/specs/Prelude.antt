-- The definitions that other crates cite, passed on from one place. Declares nothing.
pub use Rattle.dl_rules.specs.Checked.{IsSet}
unfoldable pub use Rattle.dl_rules.specs.Faults.{first_fault}
pub use Rattle.dl_rules.specs.Names.{rule_name, rule_number}
pub use Rattle.dl_rules.specs.Plans.{IsPlanOf}
