-- The units without one of them.
use Rattle.dl_model.proofs.Common.{◌≡◌, ℕ, suc, zero, ◌+◌, ◌<◌, arith, refl, sym, ap, ◌∙◌, List, [], ◌∷◌, ◌++◌, length, Loss, AreDeclarable, unit_of, without, take, drop, add-one}
use Rattle.std.proofs.Common.{get_or}

pub without_suc : (us : List Loss) (i : ℕ) → without us i ≡ take i us ++ drop (suc i) us
without_suc [] zero = refl
without_suc [] (suc i) = refl
without_suc (u ∷ us) zero = refl
without_suc (u ∷ us) (suc i) = ap (λ vs. u ∷ vs) (without_suc us i)

pub without_is : (us : List Loss) (i : ℕ) → without us i ≡ take i us ++ drop (i + 1) us
without_is us i = without_suc us i ∙ ap (λ n. take i us ++ drop n us) (sym (add-one i))

pub unit_is : (us : List Loss) (i : ℕ) (d : Loss) → i < length us → unit_of us i ≡ (get_or us i d).family
unit_is [] i d h = absurd (omega arith)
unit_is (u ∷ us) zero d h = refl
unit_is (u ∷ us) (suc i) d h = unit_is us i d (omega arith)

pub without_units : (us : List Loss) (i : ℕ) → AreDeclarable us → AreDeclarable (without us i)
without_units [] i h = h
without_units (u ∷ us) zero h = h.1
without_units (u ∷ us) (suc i) h = (h.0, without_units us i h.1)
