-- Parts of lists from a place on, and one number of a list beside their sum.
use Rattle.dl_exact.proofs.Common.{◌≡◌, ℕ, zero, suc, ◌+◌, ◌-◌, ◌≤◌, List, [], ◌∷◌, arith, ap, ◌∙◌, add-one, sum_by-cons, length, take, drop, get_or, length-drop, sum, take_all}

-- what follows a place, up to the end
pub rest_whole : {A : Type 0} (xs : List A) (i : ℕ) → take (length xs - i) (drop i xs) ≡ drop i xs
rest_whole xs i = take_all _ _ (omega (arith, length-drop i xs))

-- the same from the place after i
pub from_there : {A : Type 0} (i : ℕ) (xs : List A) → take (length xs - (i + 1)) (drop (i + 1) xs) ≡ drop (suc i) xs
from_there i xs = rest_whole xs (i + 1) ∙ ap (λ k. drop k xs) (add-one i)

pub item_le_total : (xs : List ℕ) (i : ℕ) → get_or xs i 0 ≤ sum xs
item_le_total [] i = omega arith
item_le_total (x ∷ xs) zero = omega (arith, sum_by-cons (λ n. n) x xs)
item_le_total (x ∷ xs) (suc i) = omega (arith, sum_by-cons (λ n. n) x xs, item_le_total xs i)
