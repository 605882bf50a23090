-- The joint mean from the grids of a unit and of the others.
use Rattle.dl_shares.proofs.Common.{◌≡◌, ℕ, suc, zero, ◌*◌, ◌<◌, arith, sym, ap, subst, subst₂, ◌∙◌, List, [], ◌∷◌, length, whole, ◌over◌, ◌*ℚ◌, over_same, over_mul, one_pos, le_refl, times_left_comm, times_le_both, Series, Rises, AtMost, AtLeast, Holds, times, count_pairs, Loss, AreDeclarable, One, Point, Joint, partial_sums, total, IsProper, Encloses, unit_of, without, scaled, at_most_times, at_least_times, loss_proper, total_proper, total_more_all, sum_pairs, sum_pairs_same, sum_at_most, sum_at_least, rises_times, nothing_proper, sum_pairs_over, without_units, joint_cells, total_more, convolve_first}
use Rattle.std.proofs.Common.{mul-pos}
use mathlib.Core.Path.{fun_ext}

unit_of_proper : (us : List Loss) (i : ℕ) → AreDeclarable us → IsProper (unit_of us i)
unit_of_proper [] i h = nothing_proper
unit_of_proper (u ∷ us) zero h = loss_proper u h.0
unit_of_proper (u ∷ us) (suc i) h = unit_of_proper us i h.1

pub all_split : (us : List Loss) → AreDeclarable us → (i N : ℕ) → i < length us
    → partial_sums us One N ≡ (unit_of us i).all N *ℚ partial_sums (without us i) One N
all_split [] h i N b = absurd (omega arith)
all_split (u ∷ us) h zero N b = total_more_all u us h.0 N
all_split (u ∷ us) h (suc i) N b =
    total_more_all u us h.0 N ∙ ap (λ t. u.family.all N *ℚ t) (all_split us h.1 i N (omega arith))
    ∙ times_left_comm _ _ _
    ∙ ap (λ t. (unit_of us i).all N *ℚ t) (sym (total_more_all u (without us i) h.0 N))

pub cells_split : (us : List Loss) → AreDeclarable us → (i k N : ℕ) → i < length us → partial_sums us (Point k) N
    ≡ sum_pairs k (λ y z. (unit_of us i).cells y N *ℚ partial_sums (without us i) (Point z) N)
cells_split [] h i k N b = absurd (omega arith)
cells_split (u ∷ us) h zero k N b = total_more u us h.0 k N
cells_split (u ∷ us) h (suc i) k N b =
    total_more u us h.0 k N
    ∙ sum_pairs_same k _ _ (λ y z e. ap (λ t. u.family.cells y N *ℚ t) (cells_split us h.1 i z N (omega arith)))
    ∙ convolve_first (λ y. (unit_of us i).cells y N) (λ y. u.family.cells y N)
    (λ z. partial_sums (without us i) (Point z) N) k
    ∙ sum_pairs_same k _ _ (λ y z e. ap (λ t. (unit_of us i).cells y N *ℚ t) (sym (total_more u (without us i) h.0 z N)))

term : (y a b S : ℕ) → 0 < S → whole y *ℚ a over S *ℚ b over S ≡ (y * a * b) over (S * S)
term y a b S s =
    ap (λ t. t *ℚ b over S) (over_mul y 1 a S one_pos s) ∙ over_mul (y * a) (1 * S) b S (mul-pos one_pos s) s
    ∙ over_same _ _ _ _ (mul-pos (mul-pos one_pos s) s) (mul-pos s s) (omega arith)

terms : (x S : ℕ) (f g : ℕ → ℕ) → 0 < S
    → sum_pairs x (λ y z. whole y *ℚ f y over S *ℚ g z over S) ≡ count_pairs x (λ y z. y * f y * g z) over (S * S)
terms x S f g s = sum_pairs_same x _ _ (λ y z e. term y (f y) (g z) S s)
    ∙ sum_pairs_over x (S * S) (λ y z. y * f y * g z) (mul-pos s s)

pub joint_ends : (us : List Loss) (S K K' : ℕ) (lo hi lo' hi' : ℕ → ℕ) (i x : ℕ) → AreDeclarable us → 0 < S
    → i < length us → x < K → x < K'
    → Encloses S K lo hi (unit_of us i) → Encloses S K' lo' hi' (total (without us i))
    → Holds (partial_sums us (Joint i x)) (partial_sums us One) (count_pairs x (λ y z. y * lo y * lo' z) over (S * S))
    (count_pairs x (λ y z. y * hi y * hi' z) over (S * S))
joint_ends us S K K' lo hi lo' hi' i x w s b xk xk' e f =
    let F = unit_of us i in
    let G = total (without us i) in
    let fp : IsProper F = unit_of_proper us i w in
    let gp : IsProper G = total_proper (without us i) (without_units us i w) in
    let R : partial_sums us One ≡ times F.all G.all = fun_ext (λ N. all_split us w i N b) in
    let Q : partial_sums us (Joint i x) ≡ (λ N. sum_pairs x (λ y z. whole y *ℚ F.cells y N *ℚ G.cells z N)) =
    fun_ext (λ N. joint_cells us w i x N b) in
    let P : ℕ → ℕ → Series = λ y z. times (λ N. whole y *ℚ F.cells y N) (G.cells z) in
    let unit : (y : ℕ) → y < K → Holds (λ N. whole y *ℚ F.cells y N) F.all (whole y *ℚ lo y over S)
    (whole y *ℚ hi y over S) =
    λ y h. scaled (whole y) (F.cells y) F.all (lo y over S) (hi y over S) (e y h) in
    let rise : (y : ℕ) → Rises (λ N. whole y *ℚ F.cells y N) =
    λ y N. times_le_both (whole y) (whole y) _ _ (le_refl _) (fp.cells_rise y N) in
    let low : AtLeast (λ N. sum_pairs x (λ y z. P y z N)) (times F.all G.all)
    (sum_pairs x (λ y z. whole y *ℚ lo y over S *ℚ lo' z over S)) =
    sum_at_least x P (times F.all G.all) (λ y z. whole y *ℚ lo y over S *ℚ lo' z over S)
    (λ y z h. rises_times (λ N. whole y *ℚ F.cells y N) (G.cells z) (rise y) (gp.cells_rise z))
    (λ y z h. at_least_times (λ N. whole y *ℚ F.cells y N) F.all (G.cells z) G.all (whole y *ℚ lo y over S)
    (lo' z over S) (rise y) (gp.cells_rise z) (unit y (omega arith)).0 (f z (omega arith)).0) in
    let high : AtMost (λ N. sum_pairs x (λ y z. P y z N)) (times F.all G.all)
    (sum_pairs x (λ y z. whole y *ℚ hi y over S *ℚ hi' z over S)) =
    sum_at_most x P (times F.all G.all) (λ y z. whole y *ℚ hi y over S *ℚ hi' z over S)
    (λ y z h. at_most_times (λ N. whole y *ℚ F.cells y N) F.all (G.cells z) G.all (whole y *ℚ hi y over S)
    (hi' z over S) fp.all_rises gp.all_rises (unit y (omega arith)).1 (f z (omega arith)).1) in
    subst₂ (λ Q R. Holds Q R (count_pairs x (λ y z. y * lo y * lo' z) over (S * S))
    (count_pairs x (λ y z. y * hi y * hi' z) over (S * S))) (sym Q) (sym R) (
      subst (λ t. AtLeast (λ N. sum_pairs x (λ y z. P y z N)) (times F.all G.all) t) (terms x S lo lo' s) low,
      subst (λ t. AtMost (λ N. sum_pairs x (λ y z. P y z N)) (times F.all G.all) t) (terms x S hi hi' s) high,
    )
