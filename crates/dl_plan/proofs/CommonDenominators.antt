-- The common denominator of a list of fractions.
use Rattle.dl_plan.proofs.Common.{ℕ, ◌≡◌, ◌∙◌, ◌+◌, ◌<◌, ◌≤◌, List, [], ◌∷◌, length, get_or, take, drop, fold, sym, ap, arith, mul-pos, All, All-cons, All-nil, ◌∣◌, dvd_trans, dvd_refl, Fraction, common_denominator, eq-zero-or-pos, take-append-drop, fold-append, fold_more, le_of_dvd, lcm, lcm_left, lcm_right, lcm_gcd}

-- the least common multiple of numbers above 0 is above 0
pub lcm_pos : (a b : ℕ) → 0 < a → 0 < b → 0 < lcm a b
lcm_pos a b ha hb = grind (arith, eq-zero-or-pos (lcm a b), mul-pos ha hb, lcm_gcd a b)

-- the common multiple of m and the denominators
abbrev pub common_from : ℕ → List Fraction → ℕ
common_from m xs = fold (λ k x. lcm k x.den) m xs

pub common_from_pos : (m : ℕ) (xs : List Fraction) → 0 < m → 0 < common_from m xs
common_from_pos m [] h = h
common_from_pos m (x ∷ xs) h = common_from_pos (lcm m x.den) xs (lcm_pos m x.den h x.positive)

pub common_from_divides : (m : ℕ) (xs : List Fraction) → m ∣ common_from m xs
common_from_divides m [] = dvd_refl m
common_from_divides m (x ∷ xs) = dvd_trans m (lcm_left m x.den) (common_from_divides (lcm m x.den) xs)

-- each denominator divides it
pub den_divides : (m : ℕ) (xs : List Fraction) → All (λ x. x.den ∣ common_from m xs) xs
den_divides m [] = All-nil (λ x. x.den ∣ m)
den_divides m (x ∷ xs) =
    All-cons (λ y. y.den ∣ common_from m (x ∷ xs)) x xs
    (dvd_trans x.den (lcm_right m x.den) (common_from_divides (lcm m x.den) xs))
    (den_divides (lcm m x.den) xs)

-- it does not fall as more of the list is read
pub common_take-le : (xs : List Fraction) (i : ℕ) → common_denominator (take i xs) ≤ common_denominator xs
common_take-le xs i =
    let whole_list : common_denominator xs ≡ common_from (common_denominator (take i xs)) (drop i xs) =
    ap common_denominator (sym (take-append-drop i xs)) ∙ fold-append (λ k x. lcm k x.den) 1 (take i xs) (drop i xs) in
    rw whole_list (le_of_dvd (common_from_pos _ (drop i xs) (common_from_pos 1 (take i xs) (omega arith)))
    (common_from_divides (common_denominator (take i xs)) (drop i xs)))

-- one fraction more
pub common_step : (xs : List Fraction) (i : ℕ) (x : Fraction) (common d : ℕ) → i < length xs
    → x ≡ get_or xs i x → d ≡ x.den
    → common ≡ common_denominator (take i xs) → common_denominator (take (i + 1) xs) ≡ lcm common d
common_step xs i x common d h is den so_far = grind (arith, fold_more (λ m (y : Fraction). lcm m y.den) 1 xs i x h)

pub common_pos : (xs : List Fraction) → 0 < common_denominator xs
common_pos xs = common_from_pos 1 xs (omega arith)
