-- Layers that do not overlap take, together, at most what there is.
use Rattle.dl_plan.proofs.Common.{ℕ, zero, suc, ◌≡◌, ◌∙◌, ◌+◌, ◌*◌, ◌/◌, ◌≤◌, ◌⊎◌, List, [], ◌∷◌, Option, Some, None, true, false, refl, sym, ap, ap₂, arith, inl, inr, All, AllPairs, sum_by, All-head, All-tail, sum_by-cons, whole, ◌≤ℚ◌, CedeLayer, Clause, layer, Overlap, IsClause, layer_parts, kept_parts, IsBelowTop}
use Rattle.dl_plan.proofs.Clauses.{scaled_le}

-- what of x lies in a layer
abbrev pub taken : ℕ → CedeLayer → ℕ
taken x l = layer l.limit l.attach x

-- x is a bucket of the layer
pub record IsIn (x : ℕ) (l : CedeLayer) : Type 0 where
  pub attached : l.attach ≤ x
  pub below : IsBelowTop l.limit l.attach x

-- the bucket x adds nothing to a layer, or one, and then it is in it
grows_by : (limit : Option ℕ) (a x : ℕ) → (layer limit a (x + 1) ≡ layer limit a x)
    ⊎ ((layer limit a (x + 1) ≡ layer limit a x + 1) × (a ≤ x) × IsBelowTop limit a x)
grows_by None a x = grind arith
grows_by (Some l) a x = grind arith

below_less : (limit : Option ℕ) (b a x : ℕ) → a ≤ x → IsBelowTop limit b x → IsBelowTop limit b a
below_less None b a x h below = tt
below_less (Some m) b a x h below = omega (arith, h, below)

-- two layers that share a bucket overlap
overlap : (l m : CedeLayer) (x : ℕ) → IsIn x l → IsIn x m → Overlap l m
overlap l m x p q = grind (arith, below_less)

grows : (l : CedeLayer) (x : ℕ) → (taken (x + 1) l ≡ taken x l) ⊎ ((taken (x + 1) l ≡ taken x l + 1) × IsIn x l)
grows l x = grind (arith, grows_by l.limit l.attach x)

part_same : (c x y : ℕ) (l : CedeLayer) → taken y l ≡ taken x l → layer_parts c y l ≡ layer_parts c x l
part_same c x y l e = ap (λ n. l.share.num * (c / l.share.den) * n) e

-- a bucket of a layer adds nothing to layers that are apart from it
others_same : (c : ℕ) (l : CedeLayer) (ls : List CedeLayer) (x : ℕ) → IsIn x l → All (λ m. ¬ Overlap l m) ls
    → sum_by (layer_parts c (x + 1)) ls ≡ sum_by (layer_parts c x) ls
others_same c l [] x p apart = refl
others_same c l (m ∷ ms) x p apart =
    sum_by-cons (layer_parts c (x + 1)) m ms
    ∙ ap₂ (λ a b. a + b) (same_one (grows m x)) (others_same c l ms x p (All-tail (λ k. ¬ Overlap l k) m ms apart))
    ∙ sym (sum_by-cons (layer_parts c x) m ms)
  where
    same_one : (taken (x + 1) m ≡ taken x m) ⊎ ((taken (x + 1) m ≡ taken x m + 1) × IsIn x m)
        → layer_parts c (x + 1) m ≡ layer_parts c x m
    same_one (inl e) = part_same c x (x + 1) m e
    same_one (inr e) = absurd (All-head (λ k. ¬ Overlap l k) m ms apart (overlap l m x p e.1))

pub first_apart : (l : CedeLayer) (ls : List CedeLayer) → AllPairs (λ k m. ¬ Overlap k m) (l ∷ ls)
    → All (λ m. ¬ Overlap l m) ls
first_apart l ls apart = λ k d h. apart zero (suc k) d (omega arith) (omega (arith, h))

pub rest_apart : (l : CedeLayer) (ls : List CedeLayer) → AllPairs (λ k m. ¬ Overlap k m) (l ∷ ls)
    → AllPairs (λ k m. ¬ Overlap k m) ls
rest_apart l ls apart = λ i j d p q. apart (suc i) (suc j) d (omega (arith, p)) (omega (arith, q))

-- one bucket more: what is ceded does not fall, and grows by one bucket's parts at most
ceded_more : (c x : ℕ) (ls : List CedeLayer) → AllPairs (λ k m. ¬ Overlap k m) ls → All (λ l. l.share ≤ℚ whole 1) ls
    → (sum_by (layer_parts c x) ls ≤ sum_by (layer_parts c (x + 1)) ls)
    × (sum_by (layer_parts c (x + 1)) ls ≤ sum_by (layer_parts c x) ls + c)
ceded_more c x [] apart within = (omega arith, omega arith)
ceded_more c x (l ∷ ls) apart within =
    let now = sum_by-cons (layer_parts c x) l ls in
    let next = sum_by-cons (layer_parts c (x + 1)) l ls in
    elim (grows l x) [
      | inl e ↦
          let one = part_same c x (x + 1) l e in
          let more = ceded_more c x ls (rest_apart l ls apart) (All-tail (λ k. k.share ≤ℚ whole 1) l ls within) in
          (omega (arith, now, next, one, more.0), omega (arith, now, next, one, more.1))
      | inr e ↦
          let one : layer_parts c (x + 1) l ≡ layer_parts c x l + l.share.num * (c / l.share.den) =
          ap (λ n. l.share.num * (c / l.share.den) * n) e.0 ∙ omega arith in
          let same = others_same c l ls x e.1 (first_apart l ls apart) in
          let most = scaled_le l.share c (All-head (λ k. k.share ≤ℚ whole 1) l ls within) in
          (omega (arith, now, next, one, same), omega (arith, now, next, one, same, most))
    ]

taken_none : (limit : Option ℕ) (a : ℕ) → layer limit a 0 ≡ 0
taken_none None a = omega arith
taken_none (Some l) a = omega arith

none_ceded : (c : ℕ) (ls : List CedeLayer) → sum_by (layer_parts c 0) ls ≡ 0
none_ceded c [] = refl
none_ceded c (l ∷ ls) = grind (arith, taken_none l.limit l.attach, sum_by-cons (layer_parts c 0) l ls, none_ceded c ls)

-- what is ceded of x is at most x
pub ceded_le : (clause : Clause) (c x : ℕ) → IsClause clause → sum_by (layer_parts c x) clause.1 ≤ x * c
ceded_le clause c zero accepted = omega (arith, none_ceded c clause.1)
ceded_le clause c (suc x) accepted =
    grind (arith, ceded_more c x clause.1 accepted.apart accepted.within, ceded_le clause c x accepted)

pub kept_le : (clause : Clause) (c x : ℕ) → IsClause clause → kept_parts clause c x ≤ x * c
kept_le (true, layers) c x accepted = omega arith
kept_le (false, layers) c x accepted = ceded_le (false, layers) c x accepted

pub kept_none : (clause : Clause) (c : ℕ) → kept_parts clause c 0 ≡ 0
kept_none (true, layers) c = omega arith
kept_none (false, layers) c = none_ceded c layers

kept_more : (clause : Clause) (c x : ℕ) → IsClause clause → kept_parts clause c x ≤ kept_parts clause c (x + 1)
kept_more (true, layers) c x accepted =
    omega (arith, (ceded_more c x layers accepted.apart accepted.within).1, ceded_le (true, layers) c x accepted)
kept_more (false, layers) c x accepted = (ceded_more c x layers accepted.apart accepted.within).0

-- what is kept never falls
pub kept_rises : (clause : Clause) (c x n : ℕ) → IsClause clause → kept_parts clause c x ≤ kept_parts clause c (x + n)
kept_rises clause c x zero accepted = grind arith
kept_rises clause c x (suc n) accepted =
    grind (arith, kept_more clause c (x + n) accepted, kept_rises clause c x n accepted)
