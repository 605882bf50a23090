-- A polynomial of 2 * m items at a number whose power m is c is one of m items there.
use Rattle.dl_transform.proofs.Common.{ℕ, ◌≡◌, ◌+◌, ◌-◌, ◌*◌, ◌^◌, ◌<◌, ◌≤◌, arith, sym, ap, Same, eval}
use Rattle.dl_transform.proofs.Residues.{same_refl, same_of, same_by, same_sym, same_trans, same_times, same_plus, same_cancel}
use Rattle.dl_transform.proofs.Values.{eval_same, eval_linear, eval_split}

pub half_value : (p m : ℕ) (x u : ℕ → ℕ) (c r : ℕ) → Same p (r ^ m) c
    → ((i : ℕ) → i < m → Same p (u i) (x i + c * x (m + i))) → Same p (eval m u r) (eval (m + m) x r)
half_value p m x u c r h k =
    let z : ℕ → ℕ = λ i. x (m + i) in
    let a : Same p (eval m u r) (eval m (λ i. x i + c * z i) r) = eval_same p m u (λ i. x i + c * z i) r k in
    let b : Same p (eval m x r + c * eval m z r) (eval m x r + r ^ m * eval m z r) =
    same_plus (same_refl p (eval m x r)) (same_times (same_sym h) (same_refl p (eval m z r))) in
    same_trans a (same_trans (same_of p (eval_linear m c x z r))
    (same_trans b (same_of p (sym (eval_split m m x r)))))

-- the sum of both halves' items is twice the low item
pub low_back : (p m y z w a b s : ℕ) → w ≤ p → Same p a (m * (y + w * z)) → Same p b (m * (y + (p - w) * z))
    → Same p s (a + b) → Same p s ((m + m) * y)
low_back p m y z w a b s h k l t =
    let d = p - w in
    let e : d + w ≡ p = omega arith in
    same_trans t (same_trans (same_plus k l)
    (same_by p (m * (y + w * z) + m * (y + d * z)) ((m + m) * y) 0 (m * z) (omega (arith, ap (λ x. m * z * x) e))))

-- their difference over the root is twice the high item
pub high_back : (p m y z w v a b s : ℕ) → 0 < p → w ≤ p → Same p (w * v) 1 → Same p a (m * (y + w * z))
    → Same p b (m * (y + (p - w) * z)) → Same p (s + v * b) (v * a) → Same p s ((m + m) * z)
high_back p m y z w v a b s pos h one k l t =
    let d = p - w in
    let e : d + w ≡ p = omega arith in
    let C = v * (m * (y + d * z)) in
    let D = v * (m * (y + w * z)) in
    let left : Same p (s + C) D =
    same_trans (same_plus (same_refl p s) (same_times (same_refl p v) (same_sym l)))
    (same_trans t (same_times (same_refl p v) k)) in
    let right : Same p ((m + m) * z * (w * v) + C) D =
    same_by p ((m + m) * z * (w * v) + C) D 0 (v * m * z) (omega (arith, ap (λ x. v * m * z * x) e)) in
    let with_one : Same p ((m + m) * z * (w * v) + C) ((m + m) * z * 1 + C) =
    same_plus (same_times (same_refl p ((m + m) * z)) one) (same_refl p C) in
    let f : (m + m) * z * 1 + C ≡ (m + m) * z + C = omega arith in
    same_cancel p s ((m + m) * z) C pos
    (same_trans left (same_trans (same_sym right) (same_trans with_one (same_of p f))))
