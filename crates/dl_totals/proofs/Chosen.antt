-- Units that are picked by their places: what encloses two sums of them encloses that of both together.
use Rattle.dl_totals.proofs.Common.{◌≡◌, ℕ, zero, suc, ◌<◌, ◌≤◌, ◌^◌, List, [], ◌∷◌, length, Some, arith, refl, sym, ap, ◌∙◌, Loss, AreDeclarable, IsLoss, total, unit_of, EncloseEach, GridEncloses, IsSumOfPart, IsConvolution, Iv, cases_eq, eq-eqb, ne_eqb, Fraction, ◌*ℚ◌, one_times, times_assoc, times_comm, low_at, high_at, convolve_comm, convolve_assoc, at_zero_convolve, encloses_same, convolution_encloses, chosen}
use Rattle.std.proofs.Common.{Bool, true, false, not, cond, ◌||◌, ◌&&◌, nat_eq, inl, inr}
use mathlib.Core.Path.{fun_ext}
use Rattle.dl_model.specs.Prelude.{convolve, at_zero, product, partial_sums, One, without}
use Rattle.dl_model.proofs.Outcomes.{no_units, total_more, total_more_all, total_proper}
unfoldable use Rattle.dl_model.specs.Program.{sum_over_outcomes}

pub chosen_declarable : (us : List Loss) (p : ℕ → Bool) → AreDeclarable us → AreDeclarable (chosen us p)
chosen_declarable [] p w = tt
chosen_declarable (u ∷ us) p w = step (p zero) (chosen_declarable us (λ i. p (suc i)) w.1)
  where
    step : (b : Bool) → AreDeclarable (chosen us (λ i. p (suc i)))
        → AreDeclarable (cond b (u ∷ chosen us (λ i. p (suc i))) (chosen us (λ i. p (suc i))))
    step true rest = (w.0, rest)
    step false rest = rest

-- ---- two sums of units that have none in common

-- the cells of a total at one level
abbrev sum_cells : List Loss → ℕ → ℕ → Fraction
sum_cells us N y = (total us).cells y N

cells_more : (u : Loss) (us : List Loss) → IsLoss u → (N : ℕ)
    → sum_cells (u ∷ us) N ≡ convolve (λ y. u.family.cells y N) (sum_cells us N)
cells_more u us h N = fun_ext (λ y. total_more u us h y N)

abbrev pub Apart : (ℕ → Bool) → (ℕ → Bool) → Type 0
Apart p q = (i : ℕ) → (p i && q i) ≡ false

-- what a list of units comes to, where one unit more is one factor more: two lists that have no unit in common make the
-- product of what each comes to
module _ {X : Type 0} (op : X → X → X) (assoc : (x y z : X) → op (op x y) z ≡ op x (op y z))
    (comm : (x y : X) → op x y ≡ op y x) (f : List Loss → X) (own : Loss → X) (none : op (f []) (f []) ≡ f [])
    (more : (u : Loss) (us : List Loss) → IsLoss u → f (u ∷ us) ≡ op (own u) (f us)) where
  first_of_both : (u : Loss) (xs ys zs : List Loss) (b d : Bool) → IsLoss u → (b && d) ≡ false
      → op (f xs) (f ys) ≡ f zs
      → op (f (cond b (u ∷ xs) xs)) (f (cond d (u ∷ ys) ys)) ≡ f (cond (b || d) (u ∷ zs) zs)
  first_of_both u xs ys zs true true h e rest = absurd (cc)
  first_of_both u xs ys zs true false h e rest =
      ap (λ x. op x (f ys)) (more u xs h) ∙ assoc (own u) (f xs) (f ys) ∙ ap (op (own u)) rest ∙ sym (more u zs h)
  first_of_both u xs ys zs false true h e rest =
      ap (op (f xs)) (more u ys h) ∙ sym (assoc (f xs) (own u) (f ys))
      ∙ ap (λ x. op x (f ys)) (comm (f xs) (own u))
      ∙ assoc (own u) (f xs) (f ys) ∙ ap (op (own u)) rest ∙ sym (more u zs h)
  first_of_both u xs ys zs false false h e rest = rest

  parts_both : (us : List Loss) (p q : ℕ → Bool) → AreDeclarable us → Apart p q
      → op (f (chosen us p)) (f (chosen us q)) ≡ f (chosen us (λ i. p i || q i))
  parts_both [] p q w apart = none
  parts_both (u ∷ us) p q w apart =
      first_of_both u (chosen us (λ i. p (suc i))) (chosen us (λ i. q (suc i)))
      (chosen us (λ i. p (suc i) || q (suc i))) (p zero) (q zero) w.0 (apart zero)
      (parts_both us (λ i. p (suc i)) (λ i. q (suc i)) w.1 (λ i. apart (suc i)))

cells_both : (us : List Loss) (p q : ℕ → Bool) → AreDeclarable us → Apart p q → (N : ℕ)
    → convolve (sum_cells (chosen us p) N) (sum_cells (chosen us q) N) ≡ sum_cells (chosen us (λ i. p i || q i)) N
cells_both us p q w apart N =
    let none : sum_cells [] N ≡ at_zero = fun_ext (λ y. no_units y N) in
    parts_both {X = ℕ → Fraction} (λ f g. convolve f g) convolve_assoc convolve_comm (λ vs. sum_cells vs N)
    (λ u y. u.family.cells y N)
    (ap (λ f. convolve f (sum_cells [] N)) none ∙ at_zero_convolve (sum_cells [] N))
    (λ u vs h. cells_more u vs h N) us p q w apart

all_both : (us : List Loss) (p q : ℕ → Bool) → AreDeclarable us → Apart p q → (N : ℕ)
    → partial_sums (chosen us p) One N *ℚ partial_sums (chosen us q) One N
    ≡ partial_sums (chosen us (λ i. p i || q i)) One N
unfolding sum_over_outcomes
all_both us p q w apart N = parts_both {X = Fraction} (λ x y. x *ℚ y) times_assoc times_comm
    (λ vs. partial_sums vs One N) (λ u. u.family.all N) (one_times _) (λ u vs h. total_more_all u vs h N) us p q w apart

pub both_chosen : {B : ℕ} (k : ℕ) (grids : List (List (Iv B))) (a b g : List (Iv B)) (p q : ℕ → Bool) → Apart p q
    → ((us : List Loss) → AreDeclarable us → EncloseEach grids us → GridEncloses a (total (chosen us p)))
    → ((us : List Loss) → AreDeclarable us → EncloseEach grids us → GridEncloses b (total (chosen us q)))
    → k ≤ length a → k ≤ length b → length g ≡ k → IsConvolution k a b g
    → IsSumOfPart k grids (λ us. chosen us (λ i. p i || q i)) (Some g)
both_chosen {B} k grids a b g p q apart of_a of_b in_a in_b cells conv = record {
  cells = cells;
  encloses = λ us w e.
      encloses_same (2 ^ B) (length g) (low_at g) (high_at g) (product (total (chosen us p)) (total (chosen us q)))
      (total (chosen us (λ i. p i || q i)))
      (λ x N. ap (λ f. f x) (cells_both us p q w apart N)) (λ N. all_both us p q w apart N)
      (convolution_encloses a b g k (total (chosen us p)) (total (chosen us q))
      (total_proper (chosen us p) (chosen_declarable us p w)) (total_proper (chosen us q) (chosen_declarable us q w))
      in_a in_b cells conv (of_a us w e) (of_b us w e));
}

-- ---- one unit, and all but one

suc_same : (i k : ℕ) → nat_eq (suc i) (suc k) ≡ nat_eq i k
suc_same i k = elim (cases_eq i k) [
  | inl e ↦ eq-eqb (suc i) (suc k) (ap suc e) ∙ sym (eq-eqb i k e)
  | inr n ↦ ne_eqb (suc i) (suc k) (λ e. n (omega (arith, e))) ∙ sym (ne_eqb i k n)
]

-- the first unit is taken or left
taken : (u : Loss) (us : List Loss) (p : ℕ → Bool) → p zero ≡ true
    → chosen (u ∷ us) p ≡ u ∷ chosen us (λ i. p (suc i))
taken u us p e = ap (λ b. cond b (u ∷ chosen us (λ i. p (suc i))) (chosen us (λ i. p (suc i)))) e

left : (u : Loss) (us : List Loss) (p : ℕ → Bool) → p zero ≡ false → chosen (u ∷ us) p ≡ chosen us (λ i. p (suc i))
left u us p e = ap (λ b. cond b (u ∷ chosen us (λ i. p (suc i))) (chosen us (λ i. p (suc i)))) e

pub none_chosen : (us : List Loss) (p : ℕ → Bool) → ((i : ℕ) → i < length us → p i ≡ false) → chosen us p ≡ []
none_chosen [] p h = refl
none_chosen (u ∷ us) p h = left u us p (h zero (omega arith))
    ∙ none_chosen us (λ i. p (suc i)) (λ i inside. h (suc i) (omega (arith, inside)))

-- the unit at a place
pub one_chosen : (us : List Loss) (i : ℕ) → i < length us → AreDeclarable us
    → (u : Loss) × (chosen us (nat_eq i) ≡ u ∷ []) × (unit_of us i ≡ u.family) × IsLoss u
one_chosen [] i h w = absurd (omega (arith, h))
one_chosen (u ∷ us) zero h w = (
  u,
  taken u us (nat_eq zero) (eq-eqb 0 0 refl)
      ∙ ap (λ vs. u ∷ vs) (none_chosen us (λ i. nat_eq zero (suc i)) (λ i inside. ne_eqb zero (suc i) (λ e. omega (arith, e)))),
  refl,
  w.0,
)
one_chosen (u ∷ us) (suc i) h w =
    let r = one_chosen us i (omega (arith, h)) w.1 in (
      r.0,
      left u us (nat_eq (suc i)) (ne_eqb (suc i) 0 (λ e. omega (arith, e)))
          ∙ ap (chosen us) (fun_ext (suc_same i)) ∙ r.1,
      r.2,
      r.3,
    )

pub every : (us : List Loss) (p : ℕ → Bool) → ((i : ℕ) → i < length us → p i ≡ true) → chosen us p ≡ us
every [] p h = refl
every (u ∷ us) p h =
    taken u us p (h zero (omega arith))
    ∙ ap (λ vs. u ∷ vs) (every us (λ i. p (suc i)) (λ i inside. h (suc i) (omega (arith, inside))))

pub all_but : (us : List Loss) (skip : ℕ) (p : ℕ → Bool)
    → ((i : ℕ) → i < length us → p i ≡ not (nat_eq i skip)) → chosen us p ≡ without us skip
all_but [] skip p h = refl
all_but (u ∷ us) zero p h =
    left u us p (h zero (omega arith) ∙ ap not (eq-eqb 0 0 refl))
    ∙ every us (λ i. p (suc i))
    (λ i inside. h (suc i) (omega (arith, inside)) ∙ ap not (ne_eqb (suc i) 0 (λ e. omega (arith, e))))
all_but (u ∷ us) (suc skip) p h =
    taken u us p (h zero (omega arith) ∙ ap not (ne_eqb 0 (suc skip) (λ e. omega (arith, e))))
    ∙ ap (λ vs. u ∷ vs) (all_but us skip (λ i. p (suc i))
    (λ i inside. h (suc i) (omega (arith, inside)) ∙ ap not (suc_same i skip)))
