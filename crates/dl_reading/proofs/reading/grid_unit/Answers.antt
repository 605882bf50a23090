-- The parts of the unit, in the order of the text.
use Rattle.dl_reading.proofs.Common.{IsRead, ap₂, sym, subst, refl, Flaws, GridUnit}
use Rattle.dl_reading.proofs.ReadUnits.{unit_read}
use Rattle.dl_reading.proofs.reading.grid_unit.Goals as goal

pub returns : goal.returns
returns c = λ flaws right severity.
    let parts = c.in_ok-parts.ensures in
    subst (IsRead _ _) (sym (ap₂ (λ (part : GridUnit) (flaws : Flaws). record { part = part; flaws = flaws })
    c.with_parts.ensures.part c.with_parts.ensures.flaws))
    (unit_read c.args.bounds c.args.most c.args.bs c.args.unit.now c.distribution-given.ensures parts.count c.unit_layer-layer.ensures
    severity parts.occ parts.agr refl refl refl refl refl)
