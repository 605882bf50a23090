-- What encloses the sum of units that have one grid.
use Rattle.dl_totals.proofs.Common.{ℕ, zero, suc, ◌≡◌, ◌+◌, ◌-◌, ◌<◌, ◌≤◌, List, [], ◌∷◌, ◌++◌, length, get_or, take, drop, arith, refl, sym, ap, ap₂, subst, ◌∙◌, get_or_default, Iv, IsConvolution, Loss, AreDeclarable, total, GridEncloses, EncloseEach, IsTotal, replicate, take-replicate, drop-replicate, take-append-drop}
use Rattle.dl_totals.proofs.Added.{units_first, units_after, each_first, each_after, alone, first_cells, two_sums}

-- some of these units, and the others
pub first_ones : {B : ℕ} (m n : ℕ) (g : List (Iv B)) (us : List Loss) → m ≤ n → EncloseEach (replicate n g) us
    → EncloseEach (replicate m g) (take m us)
first_ones m n g us few e = subst (λ t. EncloseEach t (take m us)) (take-replicate m n g few)
    (each_first m (replicate n g) us e)

pub later_ones : {B : ℕ} (m k n : ℕ) (g : List (Iv B)) (us : List Loss) → m + k ≡ n
    → EncloseEach (replicate n g) us → EncloseEach (replicate k g) (drop m us)
later_ones m k n g us sum e =
    let left : n - m ≡ k = omega arith in
    subst (λ t. EncloseEach t (drop m us)) (drop-replicate m n g ∙ ap (λ i. replicate i g) left)
    (each_after m (replicate n g) us e)

-- the first grids of a list, where they are the same
pub all_same : {B : ℕ} (m : ℕ) (grids : List (List (Iv B))) (g : List (Iv B)) → m ≤ length grids
    → ((i : ℕ) → i < m → get_or grids i [] ≡ g) → take m grids ≡ replicate m g
all_same zero grids g few same = refl
all_same (suc m) [] g few same = absurd (omega arith)
all_same (suc m) (h ∷ hs) g few same = ap₂ (λ x xs. x ∷ xs) (same 0 (omega arith))
    (all_same m hs g (omega arith) (λ i inside. same (suc i) (omega arith)))

-- one unit alone
pub single : {B : ℕ} (g : List (Iv B)) (us : List Loss) → AreDeclarable us → EncloseEach (replicate 1 g) us
    → GridEncloses g (total us)
single g [] w e = absurd (omega (arith, e.as_many))
single g (u ∷ []) w e = alone g u w.0 (e.each 0 (omega arith))
single g (u ∷ v ∷ us) w e = absurd (omega (arith, e.as_many))

pub single_first : {B : ℕ} (g t : List (Iv B)) (k n : ℕ) (us : List Loss) → n ≡ 1 → k ≤ length g → t ≡ take k g
    → AreDeclarable us
    → EncloseEach (replicate n g) us → GridEncloses t (total us)
single_first g t k n us one within is w e =
    subst (λ s. GridEncloses s (total us)) (sym is)
    (first_cells g k (total us) within (single g us w (subst (λ i. EncloseEach (replicate i g) us) one e)))

-- two sums of these units
pub both_parts : {B : ℕ} (unit a b g : List (Iv B)) (k m l n : ℕ) (us : List Loss) → m + l ≡ n → k ≤ length a
    → k ≤ length b → length g ≡ k
    → IsConvolution k a b g
    → ((vs : List Loss) → AreDeclarable vs → EncloseEach (replicate m unit) vs → GridEncloses a (total vs))
    → ((vs : List Loss) → AreDeclarable vs → EncloseEach (replicate l unit) vs → GridEncloses b (total vs))
    → AreDeclarable us → EncloseEach (replicate n unit) us → GridEncloses g (total us)
both_parts unit a b g k m l n us sum in_a in_b cells conv of_a of_b w e =
    let front = units_first m us w in
    let back = units_after m us w in
    subst (λ t. GridEncloses g (total t)) (take-append-drop m us)
    (two_sums a b g k (take m us) (drop m us) front back in_a in_b cells conv
    (of_a (take m us) front (first_ones m n unit us (omega arith) e))
    (of_b (drop m us) back (later_ones m l n unit us sum e)))

-- the units that have the first grid, and the others
pub first_run : {B : ℕ} (grids : List (List (Iv B))) (g first : List (Iv B)) (m : ℕ) (us : List Loss)
    → m ≤ length grids
    → ((i : ℕ) → i < m → get_or grids i [] ≡ get_or grids 0 []) → 0 < length grids → first ≡ get_or grids 0 first
    → ((vs : List Loss) → AreDeclarable vs → EncloseEach (replicate m first) vs → GridEncloses g (total vs))
    → AreDeclarable us → EncloseEach grids us → GridEncloses g (total (take m us))
first_run grids g first m us few same some is of_g w e =
    let all : (i : ℕ) → i < m → get_or grids i [] ≡ first = λ i inside. same i inside
    ∙ get_or_default grids 0 [] first some ∙ sym is in
    of_g (take m us) (units_first m us w) (subst (λ t. EncloseEach t (take m us)) (all_same m grids first few all)
    (each_first m grids us e))

pub with_rest : {B : ℕ} (grids later : List (List (Iv B))) (first sum : List (Iv B)) (m : ℕ) (us : List Loss)
    → later ≡ drop m grids
    → ((ws vs : List Loss) → AreDeclarable ws → AreDeclarable vs → GridEncloses first (total ws)
    → EncloseEach later vs → GridEncloses sum (total (ws ++ vs)))
    → GridEncloses first (total (take m us)) → AreDeclarable us → EncloseEach grids us → GridEncloses sum (total us)
with_rest grids later first sum m us rest further of_first w e =
    subst (λ t. GridEncloses sum (total t)) (take-append-drop m us)
    (further (take m us) (drop m us) (units_first m us w) (units_after m us w) of_first
    (subst (λ t. EncloseEach t (drop m us)) (sym rest) (each_after m grids us e)))

-- ---- one unit alone, its grid as the total

pub only_total : {B : ℕ} (g : List (Iv B)) → IsTotal (length g) (g ∷ []) g
only_total g = record { cells = refl; encloses = λ us w e. single g us w e; narrow = omega arith }
