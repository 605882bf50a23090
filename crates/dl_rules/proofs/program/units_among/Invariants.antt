-- The units so far, and their names.
use Rattle.dl_rules.proofs.Common.{◌≡◌, All, map, take, names_of, IsKnown}
use Rattle.dl_rules.proofs.ProgramUnits.{Planned}
use Rattle.dl_rules.proofs.program.units_among.Given as goal

abbrev pub invariant-units : goal.invariant-units
invariant-units l = record {
  planned : Planned l.settings l.port l.sevs l.units l.at l.made.items;
  names : map (λ name. name.now) l.names.keys ≡ names_of (take l.at l.units);
  known : All (IsKnown l.settings l.sevs) l.known.items;
}
