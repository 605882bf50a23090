-- A loop that writes one cell after the other.
use Rattle.dl_exact.proofs.Common.{ℕ, ◌≡◌, ◌+◌, ◌<◌, ◌≤◌, inl, inr, List, length, get_or, arith, sym, subst, ◌∙◌, set, get_or-set_same, get_or-set_other, cases_eq}

-- what holds of each cell and of the one that is written holds after the write
pub set_each : (Q : ℕ → ℕ → Type 0) (xs : List ℕ) (i v : ℕ) → i < length xs → ((k : ℕ) → Q k (get_or xs k 0))
    → Q i v → (k : ℕ) → Q k (get_or (set xs i v) k 0)
set_each Q xs i v b h q k = elim (cases_eq k i) [
  | inl e ↦ subst (λ j. Q j (get_or (set xs i v) j 0)) (sym e)
      (subst (λ t. Q i t) (sym (get_or-set_same xs i v 0 b)) q)
  | inr e ↦ subst (λ t. Q k t) (sym (get_or-set_other xs i k v 0 e)) (h k)
]

-- what holds of the cells before i and of the one that is written there
pub set_done : (Q : ℕ → ℕ → Type 0) (xs : List ℕ) (i v : ℕ) → i < length xs
    → ((k : ℕ) → k < i → Q k (get_or xs k 0)) → Q i v → (k : ℕ) → k < i + 1 → Q k (get_or (set xs i v) k 0)
set_done Q xs i v b h q k below = elim (cases_eq k i) [
  | inl e ↦ subst (λ j. Q j (get_or (set xs i v) j 0)) (sym e)
      (subst (λ t. Q i t) (sym (get_or-set_same xs i v 0 b)) q)
  | inr e ↦ subst (λ t. Q k t) (sym (get_or-set_other xs i k v 0 e)) (h k (omega arith))
]

-- the cells after i stay as they are
pub set_rest : (xs ys : List ℕ) (i v : ℕ) → ((k : ℕ) → i ≤ k → get_or xs k 0 ≡ get_or ys k 0) → (k : ℕ) → i + 1 ≤ k
    → get_or (set xs i v) k 0 ≡ get_or ys k 0
set_rest xs ys i v h k above = get_or-set_other xs i k v 0 (λ e. absurd (omega arith)) ∙ h k (omega arith)
