-- The text of cells, cell by cell.
use Rattle.dl_cert.proofs.Common.{ℕ, zero, suc, ◌≡◌, ◌+◌, ◌∙◌, sym, ap, refl, [], ◌++◌, append_assoc, add-one, append-nil, cell_text, cells_text}

pub no_cells : (lo hi : ℕ → ℕ) → cells_text lo hi 0 ≡ []
unfolding cells_text
no_cells lo hi = refl

more : (lo hi : ℕ → ℕ) (n : ℕ) → cells_text lo hi (suc n) ≡ cells_text lo hi n ++ cell_text (lo n) (hi n)
unfolding cells_text
more lo hi zero = append-nil (cell_text (lo zero) (hi zero))
more lo hi (suc n) =
    ap (λ t. cell_text (lo zero) (hi zero) ++ t) (more (λ x. lo (suc x)) (λ x. hi (suc x)) n)
    ∙ sym (append_assoc (cell_text (lo zero) (hi zero)) (cells_text (λ x. lo (suc x)) (λ x. hi (suc x)) n) _)

-- one cell more
pub one_more_cell : (lo hi : ℕ → ℕ) (n : ℕ)
    → cells_text lo hi (n + 1) ≡ cells_text lo hi n ++ cell_text (lo n) (hi n)
one_more_cell lo hi n = ap (cells_text lo hi) (add-one n) ∙ more lo hi n
