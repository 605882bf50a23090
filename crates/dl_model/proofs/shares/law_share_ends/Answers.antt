use Rattle.dl_model.proofs.ShareEnds.{share_ends}
use Rattle.dl_model.proofs.shares.law_share_ends.Goals as goal

pub returns : goal.returns
returns c = share_ends
