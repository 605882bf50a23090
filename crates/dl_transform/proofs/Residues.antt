-- Remainders keep sums and products.
use Rattle.dl_transform.proofs.Common.{ℕ, zero, suc, ◌≡◌, ◌+◌, ◌-◌, ◌*◌, ◌%◌, ◌<◌, arith, refl, sym, ap, ◌∙◌, mod-eq_of_lt, Same, add-mod, add-mul-mod_self_right, mod-mod, mul-mod}

pub same_refl : (p a : ℕ) → Same p a a
same_refl p a = record { is = refl }

pub same_of : (p : ℕ) {a b : ℕ} → a ≡ b → Same p a b
same_of p e = record { is = ap (λ t. t % p) e }

pub same_sym : {p a b : ℕ} → Same p a b → Same p b a
same_sym h = record { is = sym h.is }

pub same_trans : {p a b c : ℕ} → Same p a b → Same p b c → Same p a c
same_trans h k = record { is = h.is ∙ k.is }

pub same_plus : {p a b c d : ℕ} → Same p a b → Same p c d → Same p (a + c) (b + d)
same_plus {p = p} {a = a} {b = b} {c = c} {d = d} h k = grind (arith, add-mod a c p, add-mod b d p)

pub same_times : {p a b c d : ℕ} → Same p a b → Same p c d → Same p (a * c) (b * d)
same_times {p = p} {a = a} {b = b} {c = c} {d = d} h k = grind (arith, mul-mod a c p, mul-mod b d p)

pub same_mod : (p a : ℕ) → Same p (a % p) a
same_mod p a = record { is = mod-mod a p }

-- multiples of p make no difference
pub same_multiple : (p a k : ℕ) → Same p (a + k * p) a
same_multiple p a k = record { is = add-mul-mod_self_right a k p }

-- two numbers that differ by multiples of p
pub same_by : (p a b k l : ℕ) → a + k * p ≡ b + l * p → Same p a b
same_by p a b k l e = same_trans (same_sym (same_multiple p a k)) (same_trans (same_of p e) (same_multiple p b l))

pub same_cancel : (p a b c : ℕ) → 0 < p → Same p (a + c) (b + c) → Same p a b
same_cancel p a b c pos h =
    let k : Same p (a + c + (p - 1) * c) (b + c + (p - 1) * c) = same_plus h (same_refl p ((p - 1) * c)) in
    let e : (p - 1) * c + c ≡ c * p = pred_times p c pos in
    same_trans (same_by p a (a + c + (p - 1) * c) c 0 (omega (arith, e)))
    (same_trans k (same_by p (b + c + (p - 1) * c) b 0 c (omega (arith, e))))
  where
    pred_times : (p c : ℕ) → 0 < p → (p - 1) * c + c ≡ c * p
    pred_times zero c h = omega arith
    pred_times (suc q) c h = let e : suc q - 1 ≡ q = omega arith in rw e (omega arith)

pub same_below : {p a b : ℕ} → Same p a b → a < p → b < p → a ≡ b
same_below h p q = sym (mod-eq_of_lt p) ∙ h.is ∙ mod-eq_of_lt q
