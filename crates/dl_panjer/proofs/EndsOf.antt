-- A grid from two lists that hold the ends of all cells is these cells.
use Rattle.dl_panjer.proofs.Common.{ℕ, ◌≡◌, ◌+◌, ◌<◌, ◌≤◌, ◌∙◌, List, [], ◌∷◌, ◌++◌, length, get_or, take, ap, map, take_all, Iv, low_ends, high_ends, map_more, IsGrid, AreEnds, ends_of_grid, same_cells}

-- the ends of one cell more
pub one_more : {B : ℕ} (end : Iv B → ℕ) (cells : List (Iv B)) (i : ℕ) (cell : Iv B) (made now : List ℕ) → i < length cells
    → cell ≡ get_or cells i cell → made ≡ map end (take i cells) → now ≡ made ++ (end cell ∷ [])
    → now ≡ map end (take (i + 1) cells)
one_more end cells i cell made now inside is before pushed =
    rw (pushed, before, map_more end cells i cell inside)
    (ap (λ t. map end (take i cells) ++ (end t ∷ [])) is)

pub both_lists : {B : ℕ} (cells : List (Iv B)) (n : ℕ) (lows highs : List ℕ) → IsGrid cells → length cells ≤ n
    → lows ≡ map (λ t. t.lo) (take n cells) → highs ≡ map (λ t. t.hi) (take n cells) → AreEnds B lows highs
both_lists cells n lows highs grid all low high = rw (low, high, take_all n cells all) (ends_of_grid cells grid)

pub cells_made : {B : ℕ} (cells g : List (Iv B)) (n : ℕ) (lows highs : List ℕ) → length cells ≤ n
    → lows ≡ map (λ t. t.lo) (take n cells) → highs ≡ map (λ t. t.hi) (take n cells) → low_ends g ≡ lows
    → high_ends g ≡ highs → g ≡ cells
cells_made cells g n lows highs all low high e h =
    same_cells g cells (e ∙ low ∙ ap (map (λ t. t.lo)) (take_all n cells all))
    (h ∙ high ∙ ap (map (λ t. t.hi)) (take_all n cells all))
