-- The numbers that the cells of a start are compared with, and cells that pass one after the other.
use Rattle.dl_cert.proofs.Common.{ℕ, zero, suc, ◌≡◌, ◌≢◌, ◌⊎◌, ◌+◌, ◌<◌, ◌≤◌, inl, inr, refl, sym, subst, subst₂, arith, Bool, true, false, List, length, length-take-le, take, get_or, cases_lt, most_cert_cells, most_cells_at, IsGridSize, Iv, low_at, high_at, Sev, Base, Share, one, low_share, high_share, low_base, high_base, PassesTo, low_at_read, high_at_read, low_take, high_take, low_next_same, high_next_same}
use Rattle.dl_cert.specs.declared.base.Base.TheVariants.{Nothing, Trial, Poisson, Geometric}

-- ---- a share

share_same : (b : Bool) (share : Share) (f g : ℕ → ℕ) (y : ℕ) → ((k : ℕ) → k < y → f k ≡ g k)
    → (low_share b share f y ≡ low_share b share g y) × (high_share b share f y ≡ high_share b share g y)
share_same b share f g zero same = (refl, refl)
share_same b share f g (suc s) same =
    let S = share.positive in
    let near : (k : ℕ) → k ≤ s → f k ≡ g k = λ k h. same k (omega (arith, h)) in (
      low_next_same b S.items S.total share.rate f g s near,
      high_next_same one b S.items S.total share.rate f g s near,
    )

-- only the ends before a cell count
pub base_same : (base : Base) (sev : Sev) (f g : ℕ → ℕ) (y : ℕ) → ((k : ℕ) → k < y → f k ≡ g k)
    → (low_base base sev f y ≡ low_base base sev g y) × (high_base base sev f y ≡ high_base base sev g y)
base_same Nothing sev f g y same = (refl, refl)
base_same (Trial chance) sev f g y same = (refl, refl)
base_same (Poisson share) sev f g y same = share_same true share f g y same
base_same (Geometric share) sev f g y same = share_same false share f g y same

-- so as many cells as come before it tell its numbers
pub base_taken : (base : Base) (sev : Sev) (cells : List (Iv 56)) (y : ℕ) → y ≤ length cells
    → (low_base base sev (low_at (take y cells)) (length (take y cells)) ≡ low_base base sev (low_at cells) y)
    × (high_base base sev (high_at (take y cells)) (length (take y cells)) ≡ high_base base sev (high_at cells) y)
base_taken base sev cells y inside = rw (length-take-le y cells inside) (
  (base_same base sev (low_at (take y cells)) (low_at cells) y (λ k near. low_take cells y k near)).0,
  (base_same base sev (high_at (take y cells)) (high_at cells) y (λ k near. high_take cells y k near)).1,
)

-- ---- one cell more

abbrev pub IsOutside : (cell number : Iv 56) → Type 0
IsOutside cell number = (cell.lo ≤ number.lo) × ((number.hi ≤ cell.hi) ⊎ (one ≤ cell.hi))

module _ {cells : List (Iv 56)} {lo hi : ℕ → ℕ} (y : ℕ) {cell : Iv 56} (number : Iv 56) (inside : y < length cells)
    (is : cell ≡ get_or cells y cell) (low : number.lo ≡ lo y) (high : number.hi ≡ hi y) where
  pub one_more_passes : PassesTo y cells lo hi → IsOutside cell number → PassesTo (y + 1) cells lo hi
  one_more_passes before (below, above) = record {
    low_ends = λ k near. elim (cases_lt k y) [
      | inl earlier ↦ before.low_ends k earlier
      | inr last ↦
          let e : y ≡ k = omega (arith, near, last) in
          subst (λ n. low_at cells n ≤ lo n) e (omega (arith, below, low_at_read cells y cell inside is, low))
    ];
    high_ends = λ k near. elim (cases_lt k y) [
      | inl earlier ↦ before.high_ends k earlier
      | inr last ↦
          let e : y ≡ k = omega (arith, near, last) in
          subst (λ n. (hi n ≤ high_at cells n) ⊎ (one ≤ high_at cells n)) e
          (subst₂ (λ m n. (m ≤ n) ⊎ (one ≤ n)) high (high_at_read cells y cell inside is) above)
    ];
  }

  pub passes_here : {n : ℕ} → y < n → PassesTo n cells lo hi → IsOutside cell number
  passes_here near all = (
    omega (arith, all.low_ends y near, low_at_read cells y cell inside is, low),
    subst₂ (λ m n. (m ≤ n) ⊎ (one ≤ n)) (sym high) (sym (high_at_read cells y cell inside is)) (all.high_ends y near),
  )

-- so many cells as a certificate has at most are a grid's
pub grid_size : (n : ℕ) → n ≢ 0 → n ≤ most_cert_cells → IsGridSize 56 n
unfolding most_cells_at
grid_size n some few = record {
  scale_above = omega arith;
  scale_below = omega arith;
  some = omega (arith, some);
  few = omega (arith, few);
}
