-- What is read tells the faults of the text, and is the unit where there is none.
use Rattle.dl_rules.proofs.Common.{◌≡◌, refl, subst, GridUnit, IsGridUnit, Settings, cells_asked, IfOk, amount_fits, MixAst, IsClean, IsRead, grid_of, IsWithin, flaws_of, grid_is, within_is, HasFault, fault_of_text, most_asked, IsMixtureRead, bounds_asked}
use Rattle.dl_rules.proofs.Texts.{same_fault, part_keeps, unit_read}
use Rattle.dl_rules.proofs.UnitFacts.{asked_within, kept_as}
use Rattle.dl_rules.proofs.unit.check_text.Goals as goal

module _ (c : goal.After-unless_broken) (m : MixAst) (sev : IsMixtureRead c.args.settings.now m c.args.sev) where
  abbrev settings : Settings
  settings = c.args.settings.now

  abbrev part : GridUnit
  part = grid_of settings.bs c.args.unit.now m

  read : IsRead (flaws_of (bounds_asked settings) (most_asked settings) settings.bs c.args.unit.now m) part c.in_ok-made.made
  read =
      unit_read (bounds_asked settings) (most_asked settings) settings.bs c.args.unit.now m c.in_ok-made.made
      (rw (c.bounds_asked-bounds.ensures.value, c.most_asked.ensures.value) at (c.in_ok-made.ensures _ _ sev.right))

  told : HasFault (fault_of_text c.args.number
      (flaws_of (bounds_asked settings) (most_asked settings) settings.bs c.args.unit.now m)) c.unless_broken.result
  told = subst (λ fault. HasFault fault c.unless_broken.result) (same_fault c.args.number _ part c.in_ok-made.made read)
      (c.unless_broken.ensures.fault _ c.check_flaws-checked.ensures)

  -- what holds of the unit of a text without flaws
  keeps : (P : GridUnit → Type 0)
      → (IsClean (flaws_of (bounds_asked settings) (most_asked settings) settings.bs c.args.unit.now m) → P part) → IfOk c.unless_broken.result P
  keeps P h =
      kept_as P _ _ c.unless_broken.result c.unless_broken.ensures.same c.unless_broken.ensures.kept
      (part_keeps c.args.number _ part c.in_ok-made.made read P c.check_flaws-checked.result c.check_flaws-checked.ensures h)

pub returns-clause-fault : goal.returns-clause-fault
returns-clause-fault c = told c

pub returns-clause-same : goal.returns-clause-same
returns-clause-same c =
    λ m sev. keeps c m sev (λ made. made ≡ grid_of c.args.settings.now.bs c.args.unit.now m) (λ clean. refl)

pub returns-clause-grid : goal.returns-clause-grid
returns-clause-grid c =
    let settings = c.args.settings.now in
    let m = c.requires.sev.0 in
    keeps c m c.requires.sev.1 IsGridUnit
    (λ clean. grid_is (bounds_asked settings) (most_asked settings) settings.bs c.args.unit.now m clean (asked_within settings) (amount_fits (cells_asked settings))
    c.requires.formed c.requires.sev.1.formed)

pub returns-clause-within : goal.returns-clause-within
returns-clause-within c =
    let settings = c.args.settings.now in
    let m = c.requires.sev.0 in
    keeps c m c.requires.sev.1 (IsWithin (most_asked settings))
    (λ clean. within_is (bounds_asked settings) (most_asked settings) settings.bs c.args.unit.now m clean)
