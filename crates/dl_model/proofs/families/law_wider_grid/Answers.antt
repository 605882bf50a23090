use Rattle.dl_model.proofs.Common.{◌over◌, arith, mul-le-mul_right, over_le}
use Rattle.dl_model.proofs.Declared.{holds_wider}
use Rattle.dl_model.proofs.families.law_wider_grid.Goals as goal

pub returns : goal.returns
returns c S K K' lo hi lo' hi' F pos less low high e y b =
    holds_wider (F.cells y) F.all (lo y over S) (lo' y over S) (hi y over S) (hi' y over S)
    (over_le _ _ _ _ pos pos (mul-le-mul_right S (low y b))) (over_le _ _ _ _ pos pos (mul-le-mul_right S (high y b)))
    (e y (omega arith))
