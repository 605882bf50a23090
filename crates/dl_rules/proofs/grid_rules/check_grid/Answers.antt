-- Where no rule is broken, the parts of the plan are valid.
use Rattle.dl_rules.proofs.Common.{◌≡◌, ◌∙◌, sym, subst, IsCedeOf, clauses_layered, IfOk, first_broken, clause_rules, count_rules, bounds_asked}
use Rattle.dl_rules.proofs.Aggregates.{cede_is}
use Rattle.dl_rules.proofs.Stops.{skip, stop_first, stop_second}
use Rattle.dl_rules.proofs.UnitFacts.{asked_within, fine_agr, kept_is, grid_fault, grid_told, late_told, made_answer}
use Rattle.dl_rules.proofs.grid_rules.check_grid.Goals as goal

pub returns-in_err-layered_unit : goal.returns-in_err-layered_unit
returns-in_err-layered_unit c =
    let stop = c.in_err-layered_unit.field-0.0 in
    grid_told c.args.settings.now c.args.number c.args.grid.now c.args.unit.now.name.text c.from_residual.result stop
    c.from_residual.ensures
    (stop_first (first_broken c.args.number (clause_rules c.args.grid.now)) _ stop c.in_err-layered_unit.ensures.fault)

pub returns-in_err-claims : goal.returns-in_err-claims
returns-in_err-claims c =
    let u = c.args.grid.now in
    let n = c.args.number in
    let stop = c.in_err-claims.field-0.0 in
    grid_told c.args.settings.now n u c.args.unit.now.name.text c.from_residual-in_err-claims.result stop
    c.from_residual-in_err-claims.ensures
    (stop_second (first_broken n (clause_rules u)) _ stop c.in_ok-layered_unit.ensures.fault
    (stop_first (first_broken n (count_rules (bounds_asked c.args.settings.now) c.args.settings.now.bs u)) _ stop (rw c.bounds_asked-bounds.ensures.value at c.in_err-claims.ensures.fault)))

pub check_changes-requires-clause-made : goal.check_changes-requires-clause-made
check_changes-requires-clause-made c = c.in_ok-layered_unit.ensures.clauses.agr_made

pub check_changes-requires-clause-count : goal.check_changes-requires-clause-count
check_changes-requires-clause-count c =
    let is = rw c.bounds_asked-bounds.ensures.value at c.in_ok-claims.ensures.count in
    rw (is.same, is.number)
    (kept_is (bounds_asked c.args.settings.now) (asked_within c.args.settings.now) c.args.settings.now.bs c.args.number c.args.grid.now c.requires.grid (rw c.bounds_asked-bounds.ensures.value at c.in_ok-claims.ensures.fault))

pub returns-in_err-cede : goal.returns-in_err-cede
returns-in_err-cede c =
    let is = rw c.bounds_asked-bounds.ensures.value at c.in_ok-claims.ensures.count in
    late_told c.args.settings.now c.args.number c.args.grid.now c.args.unit.now.name.text
    c.from_residual-in_err-cede.result c.in_err-cede.field-0.0 c.from_residual-in_err-cede.ensures
    c.in_ok-layered_unit.ensures.fault (rw c.bounds_asked-bounds.ensures.value at c.in_ok-claims.ensures.fault)
    (rw (is.same, is.number, c.cells.ensures, c.in_ok-layered_unit.ensures.clauses.agr) at c.in_err-cede.ensures.fault)

pub planned-requires : goal.planned-requires
planned-requires c =
    let is = rw c.bounds_asked-bounds.ensures.value at c.in_ok-claims.ensures.count in
    rw (is.same, is.number)
    (kept_is (bounds_asked c.args.settings.now) (asked_within c.args.settings.now) c.args.settings.now.bs c.args.number c.args.grid.now c.requires.grid (rw c.bounds_asked-bounds.ensures.value at c.in_ok-claims.ensures.fault))

pub returns : goal.returns
returns c =
    let u = c.args.grid.now in
    let n = c.args.number in
    let settings = c.args.settings.now in
    let made = c.planned.ensures in
    let is = rw c.bounds_asked-bounds.ensures.value at c.in_ok-claims.ensures.count in
    let agr = c.in_ok-layered_unit.layered_unit.clauses.agr in
    let same = c.in_ok-layered_unit.ensures.clauses.agr in
    let cede = cede_is u.agr agr (clauses_layered u c.in_ok-layered_unit.ensures.layered).1
    (fine_agr (bounds_asked settings) (asked_within settings) settings.bs n u c.requires.grid (rw c.bounds_asked-bounds.ensures.value at c.in_ok-claims.ensures.fault)) same in
    let none = grid_fault settings n u ∙ skip (first_broken n (clause_rules u)) _ c.in_ok-layered_unit.ensures.fault
    ∙ skip (first_broken n (count_rules (bounds_asked settings) settings.bs u)) _ (rw c.bounds_asked-bounds.ensures.value at c.in_ok-claims.ensures.fault)
    ∙ (rw (is.same, is.number, c.cells.ensures, same) at c.in_ok-cede.ensures.fault) in
    made_answer settings n u c.requires.grid c.requires.within none c.args.unit.now.name.text
    c.in_ok-claims.claims.severity c.in_ok-cede.cede c.in_ok-claims.ensures.claims.severity
    (subst (IsCedeOf u.agr) (sym c.in_ok-cede.ensures.made) cede) c.planned.result
    (subst (λ text. IfOk c.planned.result (λ made. made.name ≡ text)) c.as_slice.ensures made.name) made.severity
    (rw (is.same, is.number) at made.count)
    made.clause made.zero made.room
