-- The results of checks.
use Rattle.std.specs.Prelude.{ℕ, ◌≡◌, ◌≢◌, Result, Ok, Err, List, [], All, AllPairs, Option, Some, None}
use Rattle.dl_ast.specs.declared.ast.MixAst.{MixAst}
use Rattle.dl_ast.specs.declared.ast.PortHead.{PortHead}
use Rattle.dl_ast.specs.declared.ast.SevDef.{SevDef}
use Rattle.dl_ast.specs.declared.ast.UnitAst.{UnitAst}
use Rattle.dl_ast.specs.declared.ast.Program.{Program}
use Rattle.dl_plan.specs.declared.plan.Unit.{Unit as UnitOfPlan}
use Rattle.dl_plan.specs.declared.plan.Plan.{Plan}
use Rattle.dl_plan.specs.declared.settings.Settings.{Settings}
use Rattle.dl_plan.specs.Valid.{IsValidUnit, IsValid}
use Rattle.dl_reading.specs.declared.grid.GridUnit.{GridUnit}
use Rattle.dl_rules.specs.declared.fault.TypeFault.{TypeFault}
use Rattle.dl_rules.specs.declared.fault.CheckFault.{CheckFault}
use Rattle.dl_rules.specs.declared.fault.CheckFault.TheVariants.{Typing, OutOfMemory}
use Rattle.dl_reading.specs.First.{in_turn}
use Rattle.std.specs.List.{AllZip}
use Rattle.dl_rules.specs.Faults.{cells_asked, fault_on_grid, fault_with, first_fault_of, first_fault}
use Rattle.dl_rules.specs.Plans.{IsUnitOn, IsUnitWith, IsUnitOf, IsPlanOf}

-- a check stops at the first fault, or for want of memory
abbrev pub StopsAt : Option TypeFault → CheckFault → Type 0
StopsAt fault (Typing f) = fault ≡ Some f
StopsAt fault OutOfMemory = Unit {0}

-- a check of some rules ends with their first fault, or without one where none is broken
abbrev pub HasFault : {A : Type 0} → Option TypeFault → Result A CheckFault → Type 0
HasFault fault (Ok _) = fault ≡ None
HasFault fault (Err stop) = StopsAt fault stop

-- the unit of the plan with this name, which is valid, where the unit in whole buckets breaks no
-- rule; the first fault, where it breaks one; or want of memory
abbrev pub AnswersGrid : Settings → ℕ → List ℕ → GridUnit → Result UnitOfPlan CheckFault → Type 0
AnswersGrid settings unit name u (Ok made) =
    (fault_on_grid settings unit u ≡ None) × IsUnitOn settings.bs name u made
    × IsValidUnit (cells_asked settings) made
AnswersGrid settings unit name u (Err stop) = StopsAt (fault_on_grid settings unit u) stop

-- the unit of the plan, which is valid, where the unit with this mixture breaks no rule; the first
-- fault, where it breaks one; or want of memory
abbrev pub AnswersWith : Settings → List UnitAst → UnitAst → MixAst → Result UnitOfPlan CheckFault
    → Type 0
AnswersWith settings before u m (Ok made) =
    (fault_with settings before u m ≡ None) × IsUnitWith settings.bs u m made
    × IsValidUnit (cells_asked settings) made
AnswersWith settings before u m (Err stop) = StopsAt (fault_with settings before u m) stop

-- the same in this portfolio, with named severities
abbrev pub AnswersUnit : Settings → Option PortHead → List SevDef → List UnitAst → UnitAst
    → Result UnitOfPlan CheckFault → Type 0
AnswersUnit settings port sevs before u (Ok made) =
    (first_fault_of settings port sevs before u ≡ None) × IsUnitOf settings.bs sevs u made
    × IsValidUnit (cells_asked settings) made
AnswersUnit settings port sevs before u (Err stop) =
    StopsAt (first_fault_of settings port sevs before u) stop

-- the units of the plan, which are valid and have different names; the first fault of the first
-- unit that has one; or want of memory
abbrev pub AnswersUnits : Settings → Option PortHead → List SevDef → List UnitAst
    → Result (List UnitOfPlan) CheckFault → Type 0
AnswersUnits settings port sevs units (Ok made) =
    (in_turn (first_fault_of settings port sevs) [] units ≡ None)
    × AllZip (IsUnitOf settings.bs sevs) units made
    × All (IsValidUnit (cells_asked settings)) made × AllPairs (λ u v. u.name ≢ v.name) made
AnswersUnits settings port sevs units (Err stop) =
    StopsAt (in_turn (first_fault_of settings port sevs) [] units) stop

-- the plan, which is valid, where no rule is broken; the first fault, where there is one; or want
-- of memory
abbrev pub IsCheckOf : Program → Settings → Result Plan CheckFault → Type 0
IsCheckOf program settings (Ok plan) = (first_fault program settings ≡ None)
    × IsPlanOf program settings plan × IsValid plan
IsCheckOf program settings (Err (Typing fault)) = first_fault program settings ≡ Some fault
IsCheckOf program settings (Err OutOfMemory) = Unit {0}
