-- A list is cut at the first place of an element in one way only.
use Rattle.dl_report.proofs.Common.{ℕ, ◌≡◌, ◌≢◌, List, [], ◌∷◌, ◌++◌, refl, sym, ap₂, All, All-head, All-tail}

tail_is : (x y : ℕ) (xs ys : List ℕ) → x ∷ xs ≡ y ∷ ys → (x ≡ y) × (xs ≡ ys)
tail_is x y xs ys e = (cc, cc)

-- two lists with no c, each with c and a list behind it, are the same, and so are the lists behind
pub parted : (c : ℕ) (x y r s : List ℕ) → All (λ byte. byte ≢ c) x → All (λ byte. byte ≢ c) y → x ++ c ∷ r ≡ y ++ c ∷ s
    → (x ≡ y) × (r ≡ s)
parted c [] [] r s no_x no_y e = (refl, (tail_is c c r s e).1)
parted c [] (b ∷ y) r s no_x no_y e = absurd
    (All-head (λ byte. byte ≢ c) b y no_y (sym (tail_is c b r (y ++ c ∷ s) e).0))
parted c (b ∷ x) [] r s no_x no_y e = absurd (All-head (λ byte. byte ≢ c) b x no_x (tail_is b c (x ++ c ∷ r) s e).0)
parted c (a ∷ x) (b ∷ y) r s no_x no_y e =
    let both = tail_is a b (x ++ c ∷ r) (y ++ c ∷ s) e in
    let rest = parted c x y r s (All-tail (λ byte. byte ≢ c) a x no_x) (All-tail (λ byte. byte ≢ c) b y no_y) both.1 in
    (ap₂ (λ h t. h ∷ t) both.0 rest.0, rest.1)
