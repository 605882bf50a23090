use Rattle.dl_cert.proofs.Common.{ℕ, ◌≡◌, ◌+◌, ◌<◌, ◌≤◌, List, [], ◌∷◌, ◌++◌, length, get_or, arith, more_below, get_or_append_left, get_or-append_seam, length-append, count_by}
use Rattle.dl_cert.proofs.passed_steps.label_of.Goals as goal

-- one more number of which the same holds
one_more : (P : ℕ → ℕ → Type 0) (row : List ℕ) (n x : ℕ) → length row ≡ n → ((i : ℕ) → i < n → P i (get_or row i 0)) → P n x
    → (length (row ++ x ∷ []) ≡ n + 1) × ((i : ℕ) → i < n + 1 → P i (get_or (row ++ x ∷ []) i 0))
one_more P row n x long each here =
    let last : get_or (row ++ x ∷ []) n 0 ≡ x = rw (← long) (get_or-append_seam row x [] 0) in (
      omega (arith, long, length-append row (x ∷ [])),
      more_below (λ i. P i (get_or (row ++ x ∷ []) i 0)) n
          (λ i h. rw (get_or_append_left row (x ∷ []) 0 i (omega (arith, h, long))) (each i h))
          (rw last here),
    )

pub loop-unit-preserved : goal.loop-unit-preserved
loop-unit-preserved c =
    let so_far = c.loop-unit.invariant in
    let targets = c.args.targets.now in
    rw c.in_ok-push.ensures.items (one_more (λ i x. (x ≡ count_by c.args.labels.now (length targets) c.args.kind i)
    × (x ≤ get_or targets i 0)) c.loop-unit.row.items c.loop-unit.unit _ so_far.0 so_far.1
    (c.count_of-count.ensures, rw c.from.ensures at c.if-count-from.false))
