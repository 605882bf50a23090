-- Powers of the numbers that stand at the nodes.
use Rattle.dl_transform.proofs.Common.{ℕ, zero, suc, ◌≡◌, ◌+◌, ◌-◌, ◌*◌, ◌^◌, ◌<◌, ◌≤◌, inl, inr, List, length, slice_index, arith, refl, ap, ◌∙◌, pow-suc, mul-le-mul_left, pow-zero, pow_pos, cases_lt, Same, point, pow-add}
use Rattle.dl_transform.proofs.Residues.{same_of, same_by, same_trans, same_times}

-- the square of each root is the number at its node
abbrev pub IsTree : ℕ → List ℕ → Type 0
IsTree p roots = (k : ℕ) → k < length roots → Same p (slice_index roots k * slice_index roots k) (point p roots k)

pub point_even : (p : ℕ) (roots : List ℕ) (k : ℕ) → point p roots (2 * k) ≡ slice_index roots k
unfolding point
point_even p roots k = grind arith

pub point_odd : (p : ℕ) (roots : List ℕ) (k : ℕ) → point p roots (2 * k + 1) ≡ p - slice_index roots k
unfolding point
point_odd p roots k = grind arith

-- what a number lacks of p has the same square
lack_square : (p w : ℕ) → w ≤ p → Same p ((p - w) * (p - w)) (w * w)
lack_square p w h =
    let d = p - w in
    let e : d + w ≡ p = omega arith in
    same_by p (d * d) (w * w) w d (omega (arith, ap (λ t. w * t) e, ap (λ t. d * t) e))

pub even_square : (p : ℕ) (roots : List ℕ) (k : ℕ) → IsTree p roots → k < length roots
    → Same p (point p roots (2 * k) * point p roots (2 * k)) (point p roots k)
even_square p roots k tree b = rw (point_even p roots k) (tree k b)

pub odd_square : (p : ℕ) (roots : List ℕ) (k : ℕ) → IsTree p roots → slice_index roots k ≤ p → k < length roots
    → Same p (point p roots (2 * k + 1) * point p roots (2 * k + 1)) (point p roots k)
odd_square p roots k tree small b =
    rw (point_odd p roots k) (same_trans (lack_square p (slice_index roots k) small) (tree k b))

square_of_power : (x m : ℕ) → x ^ (m * 2) ≡ x ^ m * x ^ m
square_of_power x m =
    let e : m * 2 ≡ m + m = omega arith in
    rw (e, pow-add)

pub inside_roots : (node m R : ℕ) → 0 < m → (node + 1) * (m * 2) ≤ 2 * R → node < R
inside_roots node m R pos h = omega (arith, h, mul-le-mul_left (node + 1) pos)

-- each leaf below a node has, to the power of their number, the number at the node
pub node_power : (p : ℕ) (roots : List ℕ) → IsTree p roots → ((k : ℕ) → slice_index roots k ≤ p) → (l node k : ℕ)
    → k < 2 ^ l → (node + 1) * 2 ^ l ≤ 2 * length roots
    → Same p (point p roots (node * 2 ^ l + k) ^ 2 ^ l) (point p roots node)
node_power p roots tree small zero node k b inside =
    let o : 2 ^ 0 ≡ 1 = refl in
    let e : node * 2 ^ 0 + k ≡ node = omega (arith, o, b) in
    same_of p (ap (λ t. point p roots t ^ 1) e ∙ pow-one (point p roots node))
  where
    pow-one : (x : ℕ) → x ^ 1 ≡ x
    pow-one x = pow-suc x 0 ∙ ap (λ t. t * x) (pow-zero x) ∙ omega arith
node_power p roots tree small (suc l) node k b inside =
    let m = 2 ^ l in
    let s : 2 ^ suc l ≡ m * 2 = pow-suc 2 l in
    let inside2 = rw s at inside in
    let node_in : node < length roots = inside_roots node m (length roots) (pow_pos l) inside2 in
    elim (cases_lt k m) [
      | inl h ↦
          let e : node * 2 ^ suc l + k ≡ 2 * node * m + k = omega (arith, ap (λ t. node * t) s) in
          let ih = node_power p roots tree small l (2 * node) k h (omega (arith, inside2)) in
          rw (e, s, square_of_power) (same_trans (same_times ih ih) (even_square p roots node tree node_in))
      | inr h ↦
          let e : node * 2 ^ suc l + k ≡ (2 * node + 1) * m + (k - m) = omega (arith, ap (λ t. node * t) s, h) in
          let ih = node_power p roots tree small l (2 * node + 1) (k - m) (omega (arith, b, s, h))
          (omega (arith, inside2)) in
          rw (e, s, square_of_power) (same_trans (same_times ih ih) (odd_square p roots node tree (small node) node_in))
    ]
