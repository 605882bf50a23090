-- The two halves of a list, and what the passes make of them.
use Rattle.dl_transform.proofs.Common.{ℕ, suc, ◌≡◌, ◌+◌, ◌-◌, ◌*◌, ◌/◌, ◌^◌, ◌<◌, ◌≤◌, inl, inr, List, ◌++◌, take, drop, length, slice_index, get_or, arith, ap, ◌∙◌, pow-suc, get_or-take, get_or-drop, get_or_past, pow_pos, cases_lt, Same, eval, point, get_or-append_right, length-take, get_or-append}
use Rattle.dl_transform.proofs.Residues.{same_refl, same_of, same_sym, same_trans}
use Rattle.dl_transform.proofs.Nodes.{IsTree, point_even, point_odd, node_power, inside_roots}
use Rattle.dl_transform.proofs.Halves.{half_value, low_back, high_back}

pub take_small : (m B : ℕ) (xs : List ℕ) → ((i : ℕ) → get_or xs i 0 < B) → (i : ℕ) → get_or (take m xs) i 0 < B
take_small m B xs h i = elim (cases_lt i m) [
  | inl b ↦ rw (get_or-take m xs i 0 b) (h i)
  | inr b ↦ rw (get_or_past (take m xs) i 0 (omega (arith, length-take m xs))) (omega (arith, h 0))
]

pub drop_small : (m B : ℕ) (xs : List ℕ) → ((i : ℕ) → get_or xs i 0 < B) → (i : ℕ) → get_or (drop m xs) i 0 < B
drop_small m B xs h i = rw (get_or-drop m xs i 0) (h (m + i))

pub join_small : (B : ℕ) (xs ys : List ℕ) → ((i : ℕ) → get_or xs i 0 < B) → ((i : ℕ) → get_or ys i 0 < B) → (i : ℕ)
    → get_or (xs ++ ys) i 0 < B
join_small B xs ys h k i = grind (arith, get_or-append, get_or-append_right)

-- the two halves of a list of n items, and the nodes for them below a node, where levels are left
pub record IsBelow (levels node R n : ℕ) : Type 0 where
  pub inside : node < R
  pub first : (2 * node + 1) * 2 ^ (levels - 1) ≤ 2 * R
  pub second : (2 * node + 1 + 1) * 2 ^ (levels - 1) ≤ 2 * R
  pub half : n / 2 ≡ 2 ^ (levels - 1)
  pub rest : n - n / 2 ≡ 2 ^ (levels - 1)
  pub twice : 2 ^ levels ≡ 2 ^ (levels - 1) * 2

pub below : (levels node R n : ℕ) → (levels ≡ 0 → ⊥) → (node + 1) * 2 ^ levels ≤ 2 * R → n ≡ 2 ^ levels
    → IsBelow levels node R n
below levels node R n some h size =
    let l = levels - 1 in
    let m = 2 ^ l in
    let e : levels ≡ suc l = omega (arith, some) in
    let twice : 2 ^ levels ≡ m * 2 = ap (λ t. 2 ^ t) e ∙ pow-suc 2 l in
    let k = rw twice at h in
    record {
      inside = inside_roots node m R (pow_pos l) k;
      first = omega (arith, k);
      second = omega (arith, k);
      half = omega (arith, size, twice);
      rest = omega (arith, size, twice);
      twice = twice;
    }

low_power : (p node m : ℕ) (roots : List ℕ) (l : ℕ) → m ≡ 2 ^ l → IsTree p roots
    → ((k : ℕ) → slice_index roots k ≤ p) → (node + 1) * (m * 2) ≤ 2 * length roots
    → (k : ℕ) → k < m → Same p (point p roots (2 * node * m + k) ^ m) (slice_index roots node)
low_power p node m roots l em tree small inside k h =
    grind (arith, same_of p (point_even p roots node), same_trans, node_power)

high_power : (p node m : ℕ) (roots : List ℕ) (l : ℕ) → m ≡ 2 ^ l → IsTree p roots
    → ((k : ℕ) → slice_index roots k ≤ p) → (node + 1) * (m * 2) ≤ 2 * length roots
    → (k : ℕ) → k < m → Same p (point p roots ((2 * node + 1) * m + k) ^ m) (p - slice_index roots node)
high_power p node m roots l em tree small inside k h =
    grind (arith, same_of p (point_odd p roots node), same_trans, node_power)

low_index : (node m w k : ℕ) → w ≡ m * 2 → 2 * node * m + k ≡ node * w + k
low_index node m w k e = omega (arith, ap (λ t. node * t) e)

high_index : (node m w k : ℕ) → w ≡ m * 2 → m ≤ k → (2 * node + 1) * m + (k - m) ≡ node * w + k
high_index node m w k e h = omega (arith, ap (λ t. node * t) e)

next_index : (node m w i : ℕ) → w ≡ m * 2 → (2 * node + 1) * m + i ≡ node * w + (m + i)
next_index node m w i e = omega (arith, ap (λ t. node * t) e)

twice_sum : (m w : ℕ) → w ≡ m * 2 → m + m ≡ w
twice_sum m w e = omega (arith, e)

-- the values of the two halves are those of the whole
pub values_step : (p node m w : ℕ) (roots x a b low high first second : List ℕ) (l : ℕ) → m ≡ 2 ^ l → w ≡ m * 2
    → IsTree p roots → ((k : ℕ) → slice_index roots k ≤ p) → (node + 1) * (m * 2) ≤ 2 * length roots
    → a ≡ take m x → b ≡ drop m x
    → ((i : ℕ) → i < m → Same p (get_or low i 0) (get_or a i 0 + slice_index roots node * get_or b i 0))
    → ((i : ℕ) → i < m → Same p (get_or high i 0) (get_or a i 0 + (p - slice_index roots node) * get_or b i 0))
    → length first ≡ m
    → ((k : ℕ) → k < m → Same p (get_or first k 0)
    (eval m (λ i. get_or low i 0) (point p roots (2 * node * m + k))))
    → ((k : ℕ) → k < m → Same p (get_or second k 0)
    (eval m (λ i. get_or high i 0) (point p roots ((2 * node + 1) * m + k))))
    → (k : ℕ) → k < w → Same p (get_or (first ++ second) k 0)
    (eval w (λ i. get_or x i 0) (point p roots (node * w + k)))
values_step p node m w roots x a b low high first second l em twice tree small inside ea eb lows highs len firsts
    seconds k below = elim (cases_lt k m) [
      | inl h ↦
          let c = slice_index roots node in
          rw (get_or-append first second 0 k (omega (arith, len, h)), ← low_index node m w k twice, ← twice_sum m w twice)
          (same_trans (firsts k h) (half_value p m (λ i. get_or x i 0) (λ i. get_or low i 0) c _
          (low_power p node m roots l em tree small inside k h)
          (λ i inside. rw (ea, eb, get_or-take m x i 0 inside, get_or-drop m x i 0) at (lows i inside))))
      | inr h ↦
          let c = p - slice_index roots node in
          let j = k - m in
          let inside_j : j < m = omega (arith, below, twice, h) in
          rw (get_or-append_right first second m k 0 len h, ← high_index node m w k twice h, ← twice_sum m w twice)
          (same_trans (seconds j inside_j) (half_value p m (λ i. get_or x i 0) (λ i. get_or high i 0) c _
          (high_power p node m roots l em tree small inside j inside_j)
          (λ i inside. rw (ea, eb, get_or-take m x i 0 inside, get_or-drop m x i 0) at (highs i inside))))
    ]

-- what the halves' values give back is the whole, twice
pub items_step : (p node m w v : ℕ) (roots x a b low high first second : List ℕ) (l : ℕ) → m ≡ 2 ^ l → w ≡ m * 2
    → 0 < p
    → IsTree p roots → ((k : ℕ) → slice_index roots k ≤ p) → (node + 1) * (m * 2) ≤ 2 * length roots
    → Same p (slice_index roots node * v) 1 → a ≡ take m x → b ≡ drop m x
    → ((z : ℕ → ℕ) → ((k : ℕ) → k < m → Same p (get_or a k 0) (eval m z (point p roots (2 * node * m + k))))
    → (k : ℕ) → k < m → Same p (get_or low k 0) (m * z k))
    → ((z : ℕ → ℕ) → ((k : ℕ) → k < m → Same p (get_or b k 0) (eval m z (point p roots ((2 * node + 1) * m + k))))
    → (k : ℕ) → k < m → Same p (get_or high k 0) (m * z k))
    → length first ≡ m
    → ((i : ℕ) → i < m → Same p (get_or first i 0) (get_or low i 0 + get_or high i 0))
    → ((i : ℕ) → i < m → Same p (get_or second i 0 + v * get_or high i 0) (v * get_or low i 0))
    → (y : ℕ → ℕ) → ((k : ℕ) → k < w → Same p (get_or x k 0) (eval w y (point p roots (node * w + k))))
    → (k : ℕ) → k < w → Same p (get_or (first ++ second) k 0) (w * y k)
items_step p node m w v roots x a b low high first second l em twice pos tree small inside one ea eb lowered raised
    len firsts seconds y known k below =
    let c = slice_index roots node in
    let lows : (i : ℕ) → i < m → Same p (get_or low i 0) (m * (y i + c * y (m + i))) =
    lowered (λ i. y i + c * y (m + i)) (λ i inside_i.
    rw (ea, get_or-take m x i 0 inside_i)
    (same_trans (rw (← low_index node m w i twice, ← twice_sum m w twice) at (known i (omega (arith, twice))))
    (same_sym (half_value p m y (λ i. y i + c * y (m + i)) c (point p roots (2 * node * m + i))
    (low_power p node m roots l em tree small inside i inside_i) (λ i _. same_refl p (y i + c * y (m + i))))))) in
    let highs : (i : ℕ) → i < m → Same p (get_or high i 0) (m * (y i + (p - c) * y (m + i))) =
    raised (λ i. y i + (p - c) * y (m + i)) (λ i inside_i.
    rw (eb, get_or-drop m x i 0)
    (same_trans (rw (← next_index node m w i twice, ← twice_sum m w twice) at (known (m + i) (omega (arith, twice))))
    (same_sym (half_value p m y (λ i. y i + (p - c) * y (m + i)) (p - c) (point p roots ((2 * node + 1) * m + i))
    (high_power p node m roots l em tree small inside i inside_i)
    (λ i _. same_refl p (y i + (p - c) * y (m + i))))))) in
    rw (← twice_sum m w twice) (elim (cases_lt k m) [
      | inl h ↦
          rw (get_or-append first second 0 k (omega (arith, len, h)))
          (low_back p m (y k) (y (m + k)) c (get_or low k 0) (get_or high k 0) (get_or first k 0)
          (small node) (lows k h) (highs k h) (firsts k h))
      | inr h ↦
          let j = k - m in
          let inside_j : j < m = omega (arith, below, twice, h) in
          let e : m + j ≡ k = omega (arith, h) in
          rw (get_or-append_right first second m k 0 len h) (rw e at
          (high_back p m (y j) (y (m + j)) c v (get_or low j 0) (get_or high j 0) (get_or second j 0)
          pos (small node) one (lows j inside_j) (highs j inside_j) (seconds j inside_j)))
    ])

pub values_leaf : (p levels : ℕ) (x : ℕ → ℕ) (r : ℕ → ℕ) → levels ≡ 0 → (k : ℕ) → k < 2 ^ levels
    → Same p (x k) (eval (2 ^ levels) x (r k))
unfolding eval
values_leaf p levels x r e k b =
    let z : k ≡ 0 = omega (arith, ap (λ t. 2 ^ t) e, b) in
    rw (e, z) (same_of p (omega arith))

pub items_leaf : (p levels : ℕ) (x y : ℕ → ℕ) (r : ℕ → ℕ) → levels ≡ 0
    → ((k : ℕ) → k < 2 ^ levels → Same p (x k) (eval (2 ^ levels) y (r k))) → (k : ℕ) → k < 2 ^ levels
    → Same p (x k) (2 ^ levels * y k)
unfolding eval
items_leaf p levels x y r e h k b =
    let z : k ≡ 0 = omega (arith, ap (λ t. 2 ^ t) e, b) in
    rw (e, z) (same_trans (rw (e, z) at (h k b)) (same_of p (omega arith)))

pub roots_small : (p : ℕ) (roots : List ℕ) → ((k : ℕ) → k < length roots → slice_index roots k < p) → (k : ℕ)
    → slice_index roots k ≤ p
roots_small p roots h k = grind (arith, get_or_past)
