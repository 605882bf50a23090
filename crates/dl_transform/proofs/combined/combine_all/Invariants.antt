use Rattle.dl_transform.proofs.Common.{ℕ, ◌≡◌, ◌*◌, ◌^◌, ◌<◌, get_or, Same}
use Rattle.dl_transform.proofs.Steps.{IsChanged}
use Rattle.dl_transform.proofs.combined.combine_all.Given as goal

abbrev pub invariant-loop-s : goal.invariant-loop-s
invariant-loop-s l =
    IsChanged (2 ^ 124)
    (λ k t z. (n : ℕ) → n < 2 ^ 123
    → Same l.setup.first.p (get_or l.x k 0 * get_or l.setup.first.scales.items l.levels 0) n
    → Same l.setup.second.p (get_or l.y k 0 * get_or l.setup.second.scales.items l.levels 0) n → z ≡ n)
    l.fn.out l.out l.s
