-- Lists of cells as loops make them: the cells so far, and the next.
use Rattle.dl_unit.proofs.Common.{ℕ, ◌≡◌, ◌+◌, ◌<◌, List, [], ◌∷◌, length, arith, sym, ◌∙◌, Iv, low_at, high_at, ◌++◌, low_at_front, high_at_front, low_at_pushed, high_at_pushed}
use borrow.Author.Count.{below_more as more_below}

-- ends that are those of the cells so far, and the next cell's
ends_pushed : (before after f : ℕ → ℕ) (n : ℕ) → ((s : ℕ) → s < n → after s ≡ before s)
    → ((s : ℕ) → s < n → before s ≡ f s) → after n ≡ f n → (s : ℕ) → s < n + 1 → after s ≡ f s
ends_pushed before after f n kept are last =
    more_below (λ s. after s ≡ f s) n (λ s h. kept s h ∙ are s h) last

pub low_pushed : {B : ℕ} (cells : List (Iv B)) (cell : Iv B) (n : ℕ) (f : ℕ → ℕ) → length cells ≡ n
    → ((s : ℕ) → s < n → low_at cells s ≡ f s) → cell.lo ≡ f n → (s : ℕ) → s < n + 1
    → low_at (cells ++ cell ∷ []) s ≡ f s
low_pushed cells cell n f e are last = ends_pushed (low_at cells) (low_at (cells ++ cell ∷ [])) f n
    (λ s h. low_at_front cells (cell ∷ []) s (omega arith)) are (low_at_pushed cells cell n (sym e) ∙ last)

pub high_pushed : {B : ℕ} (cells : List (Iv B)) (cell : Iv B) (n : ℕ) (f : ℕ → ℕ) → length cells ≡ n
    → ((s : ℕ) → s < n → high_at cells s ≡ f s) → cell.hi ≡ f n → (s : ℕ) → s < n + 1
    → high_at (cells ++ cell ∷ []) s ≡ f s
high_pushed cells cell n f e are last = ends_pushed (high_at cells) (high_at (cells ++ cell ∷ [])) f n
    (λ s h. high_at_front cells (cell ∷ []) s (omega arith)) are (high_at_pushed cells cell n (sym e) ∙ last)
