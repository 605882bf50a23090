use Rattle.dl_sources.proofs.Common.{ℕ, ◌≡◌, ◌<◌, get_or, CedeLayer}
use Rattle.dl_sources.proofs.same.same_layers.Given as goal

abbrev pub invariant-loop-i : goal.invariant-loop-i
invariant-loop-i l = (k : ℕ) (d : CedeLayer) → k < l.i → get_or l.a k d ≡ get_or l.b k d
