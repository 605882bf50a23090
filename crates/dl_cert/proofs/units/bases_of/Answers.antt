use Rattle.dl_cert.proofs.Common.{ℕ, ◌≡◌, ◌+◌, ◌<◌, List, [], ◌∷◌, ◌++◌, length, get_or, arith, more_below, get_or_append_left, get_or_default, get_or-append_seam, length-append, IsBaseOf}
use Rattle.dl_cert.proofs.units.bases_of.Goals as goal

-- one more item beside one more of the others
more : {A B : Type 0} (P : A → B → Type 0) (xs : List A) (ys : List B) (i : ℕ) (x : A) (y : B) → length ys ≡ i
    → ((u : ℕ) (a : A) (b : B) → u < i → P (get_or xs u a) (get_or ys u b))
    → i < length xs → x ≡ get_or xs i x → P x y
    → (u : ℕ) (a : A) (b : B) → u < i + 1 → P (get_or xs u a) (get_or (ys ++ y ∷ []) u b)
more P xs ys i x y long each inside is here u a b =
    let last : get_or (ys ++ y ∷ []) i b ≡ y = rw (← long) (get_or-append_seam ys y [] b) in
    more_below (λ k. P (get_or xs k a) (get_or (ys ++ y ∷ []) k b)) i
    (λ k h. rw (get_or_append_left ys (y ∷ []) b k (omega (arith, h, long))) (each k a b h))
    (rw (last, get_or_default xs i a x inside, ← is) here) u

pub loop-unit-preserved : goal.loop-unit-preserved
loop-unit-preserved c =
    let so_far = c.loop-unit.invariant in
    let bases = c.loop-unit.bases.items in (
      rw (c.in_ok-push.ensures.items, length-append bases (c.in_ok-base.base ∷ [])) (omega (arith, so_far.0)),
      rw c.in_ok-push.ensures.items (more IsBaseOf c.args.units.now bases _ _ c.in_ok-base.base so_far.0 so_far.1
          c.loop-unit-test.true c.unit-item.is c.in_ok-base.ensures),
    )
