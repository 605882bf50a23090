-- Fractions over their common denominator.
use Rattle.dl_severity.proofs.Common.{ℕ, ◌≡◌, ◌∙◌, ◌+◌, ◌<◌, List, [], ◌∷◌, map, sum, refl, sym, ap, ap₂, All, sum_by, ◌∣◌, All-head, All-tail, sum_by-cons, Fraction, ◌over◌, numerator_over, common_pos, den_divides}
use Rattle.dl_plan.specs.Fine.{common_denominator}
pub use Rattle.dl_plan.proofs.WholeParts.{share_is, sum_one, weight_more, part_within}

-- each weight over c is its fraction
shares_are : (xs : List Fraction) (c : ℕ) → 0 < c → All (λ x. x.den ∣ c) xs
    → map (λ w. w over c) (map (numerator_over c) xs) ≡ xs
shares_are [] c h d = refl
shares_are (x ∷ xs) c h d =
    ap₂ (λ y ys. y ∷ ys) (share_is x c h (All-head (λ y. y.den ∣ c) x xs d))
    (shares_are xs c h (All-tail (λ y. y.den ∣ c) x xs d))

pub shares_back : (xs : List Fraction) → map (λ w. w over common_denominator xs)
    (map (numerator_over (common_denominator xs)) xs) ≡ xs
shares_back xs = shares_are xs (common_denominator xs) (common_pos xs) (den_divides 1 xs)

pub sum_map : (f : Fraction → ℕ) (xs : List Fraction) → sum (map f xs) ≡ sum_by f xs
sum_map f [] = refl
sum_map f (x ∷ xs) = sum_by-cons (λ n. n) (f x) (map f xs) ∙ ap (λ n. f x + n) (sum_map f xs) ∙ sym (sum_by-cons f x xs)

pub weighed_shares : (xs : List Fraction) (ws : List ℕ) (c : ℕ) → ws ≡ map (numerator_over c) xs
    → c ≡ common_denominator xs
    → map (λ w. w over c) ws ≡ xs
weighed_shares xs ws c made common = rw (made, common) (shares_back xs)
