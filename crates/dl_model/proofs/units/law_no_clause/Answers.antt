use Rattle.dl_model.proofs.Common.{sym, refl, compound, mapped}
use Rattle.dl_model.proofs.FamilyLaws.{encloses_same}
use Rattle.dl_model.proofs.UnitLaws.{unit_plain}
use Rattle.dl_model.proofs.units.law_no_clause.Goals as goal

pub returns : goal.returns
returns c S K lo hi u h same =
    encloses_same S K lo hi (compound u.count u.severity) (mapped u) (λ y N. sym (unit_plain u h same y N)) (λ N. refl)
