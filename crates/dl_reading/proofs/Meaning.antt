-- What a severity means tells what each step makes of it.
use Rattle.dl_reading.proofs.Common.{ℕ, zero, suc, ◌≡◌, ◌≢◌, ◌∙◌, ◌+◌, ◌*◌, ◌/◌, ◌<◌, ◌≤◌, ◌⊎◌, List, [], ◌∷◌, ◌++◌, map, filter, Bool, true, false, cond, nat_lt, ◌==◌, refl, sym, ap, ap₂, arith, inl, inr, cases_lt, lt-ltb, le-ltb, Fraction, whole, ◌over◌, ◌+ℚ◌, ◌*ℚ◌, ◌/ℚ◌, zero_plus, times_zero, zero_or_pos, zero_times, Sev, Pairs, probability, mass, conditioned, pairs_of, HasDistribution, whole_num, whole_den, scaled, mixture_of, with_amounts, AllZip, mixed, div_times, one_times, ring, times_assoc, times_cancel, times_one, times_plus, sum_over_map, sum_to_longer, sum_to_plus, sum_to_same, sum_to_zero, sum_over_same, sum_over_append, sum_over_times, probability-shares}
use Rattle.dl_exact.specs.Prelude.{gcd, nought, read_as, sum_over, sum_to}
use Rattle.dl_exact.proofs.Over.{same}
use Rattle.dl_plan.proofs.Means.{severity_total as total_pos}

-- ---- a sum over pairs, by amounts

-- an amount of the list is at most this
abbrev pub bound : Pairs → ℕ
bound [] = 0
bound (p ∷ ps) = p.0 + bound ps

abbrev pub scored : (ℕ → Fraction) → Pairs → Fraction
scored g ps = sum_over ps (λ p. g p.0 *ℚ p.1)

abbrev at : ℕ → Fraction → ℕ → Fraction
at a p x = cond (a == x) p (whole 0)

none_at : (a x : ℕ) (g : ℕ → Fraction) (p : Fraction) → a ≢ x → g x *ℚ at a p x ≡ whole 0
none_at a x g p h = let none : at a p x ≡ whole 0 = grind arith in rw none (times_zero (g x))

last_amount : (a : ℕ) (g : ℕ → Fraction) (p : Fraction) → sum_to a (λ x. g x *ℚ at a p x) ≡ g a *ℚ p
unfolding sum_to
last_amount zero g p = refl
last_amount (suc a) g p =
    let here : at (suc a) p (suc a) ≡ p = grind arith in
    rw (sum_to_zero a (λ x. g x *ℚ at (suc a) p x) (λ x b. none_at (suc a) x g p (λ e. omega (arith, b, e))), here) (zero_plus _)

one_amount : (n a : ℕ) (g : ℕ → Fraction) (p : Fraction) → a ≤ n → sum_to n (λ x. g x *ℚ at a p x) ≡ g a *ℚ p
one_amount n a g p h = sum_to_longer a n (λ x. g x *ℚ at a p x) h (λ x lt. none_at a x g p (λ e. omega (arith, lt, e)))
    ∙ last_amount a g p

-- the sum of a score over the pairs is that over the amounts, by their probabilities
pub by_amounts : (n : ℕ) (g : ℕ → Fraction) (ps : Pairs) → bound ps ≤ n
    → scored g ps ≡ sum_to n (λ x. g x *ℚ probability ps x)
unfolding sum_over
by_amounts n g [] h = sym (sum_to_zero n (λ x. g x *ℚ whole 0) (λ x b. times_zero (g x)))
by_amounts n g (p ∷ ps) h =
    ap₂ (λ s t. s +ℚ t) (sym (one_amount n p.0 g p.1 (omega (arith, h)))) (by_amounts n g ps (omega (arith, h)))
    ∙ sym (sum_to_plus n (λ x. g x *ℚ at p.0 p.1 x) (λ x. g x *ℚ probability ps x))
    ∙ sum_to_same n _ _ (λ x b. sym (times_plus (g x) (at p.0 p.1 x) (probability ps x)))

-- the pairs give each amount the same probability
abbrev pub Alike : Pairs → Pairs → Type 0
Alike ps qs = (x : ℕ) → probability ps x ≡ probability qs x

pub scored_alike : (g : ℕ → Fraction) (ps qs : Pairs) → Alike ps qs → scored g ps ≡ scored g qs
scored_alike g ps qs h =
    let n = bound ps + bound qs in
    by_amounts n g ps (omega arith) ∙ sum_to_same n _ _ (λ x b. ap (λ t. g x *ℚ t) (h x))
    ∙ sym (by_amounts n g qs (omega arith))

-- ---- amounts mapped

abbrev pub mark : Bool → Fraction
mark b = cond b (whole 1) (whole 0)

marked : (b : Bool) (p : Fraction) → cond b p (whole 0) ≡ mark b *ℚ p
marked true p = sym (one_times p)
marked false p = sym (zero_times p)

mapped_score : (f : ℕ → ℕ) (ps : Pairs) (y : ℕ) → probability (with_amounts f ps) y ≡ scored (λ x. mark (f x == y)) ps
mapped_score f ps y =
    sum_over_map (λ pair. (f pair.0, pair.1)) (λ pair. cond (pair.0 == y) pair.1 (whole 0)) ps
    ∙ sum_over_same _ (λ pair. mark (f pair.0 == y) *ℚ pair.1) ps (λ pair. marked (f pair.0 == y) pair.1)

pub mapped_alike : (f : ℕ → ℕ) (ps qs : Pairs) → Alike ps qs → Alike (with_amounts f ps) (with_amounts f qs)
mapped_alike f ps qs h y = mapped_score f ps y ∙ scored_alike (λ x. mark (f x == y)) ps qs h ∙ sym (mapped_score f qs y)

-- ---- amounts above an attachment

read_none : (n d : ℕ) (p : (d ≡ 0) ⊎ (0 < d)) (q : (((gcd n d == 1) ≡ true) × (gcd n d ≡ 1))
    ⊎ (((gcd n d == 1) ≡ false) × (gcd n d ≡ 1 → ⊥))) → d ≡ 0 → read_as n d p q ≡ nought
unfolding read_as
read_none n d (inl none) q e = refl
read_none n d (inr some) (inl lowest) e = absurd (omega (arith, some, e))
read_none n d (inr some) (inr common) e = refl

over_nothing : (n : ℕ) → n over 0 ≡ whole 0
unfolding ◌over◌ nought
over_nothing n =
    read_none (n / gcd n 0) (0 / gcd n 0) _ _ (omega arith) ∙ same nought (whole 0) (sym (whole_num 0)) (sym (whole_den 0))

div_nothing : (x : Fraction) → x /ℚ whole 0 ≡ whole 0
unfolding ◌/ℚ◌
div_nothing x =
    let none : x.den * (whole 0).num ≡ 0 = rw (whole_num 0) (omega arith) in
    rw none (over_nothing (x.num * (whole 0).den))

-- a quotient is a product with the inverse, which is 0 for 0
pub div_as_times : (x y : Fraction) → x /ℚ y ≡ x *ℚ (whole 1 /ℚ y)
div_as_times x y = elim (zero_or_pos y) [
  | inl none ↦ rw none (div_nothing x ∙ sym (rw (div_nothing (whole 1)) (times_zero x)))
  | inr some ↦ times_cancel (x /ℚ y) (x *ℚ (whole 1 /ℚ y)) y some
      (div_times x y some ∙ sym (times_assoc x (whole 1 /ℚ y) y ∙ rw (div_times (whole 1) y some) (times_one x)))
]

abbrev pub above : ℕ → Pairs → Pairs
above a ps = filter (λ p. nat_lt a p.0) ps

-- a sum over the pairs above a
above_score : (a : ℕ) (g : ℕ → Fraction) (ps : Pairs)
    → scored g (above a ps) ≡ scored (λ x. cond (nat_lt a x) (g x) (whole 0)) ps
unfolding sum_over
above_score a g [] = refl
above_score a g (p ∷ ps) = elim (cases_lt a p.0) [
  | inl h ↦ rw (lt-ltb a p.0 h) (ap (λ t. g p.0 *ℚ p.1 +ℚ t) (above_score a g ps))
  | inr h ↦ rw (le-ltb a p.0 h, zero_times p.1, zero_plus (scored (λ x. cond (nat_lt a x) (g x) (whole 0)) ps)) (above_score a g ps)
]

above_alike : (a : ℕ) (g : ℕ → Fraction) (ps qs : Pairs) → Alike ps qs → scored g (above a ps) ≡ scored g (above a qs)
above_alike a g ps qs h =
    above_score a g ps ∙ scored_alike (λ x. cond (nat_lt a x) (g x) (whole 0)) ps qs h ∙ sym (above_score a g qs)

mass_score : (ps : Pairs) → mass ps ≡ scored (λ _. whole 1) ps
mass_score ps = sum_over_same (λ p. p.1) (λ p. whole 1 *ℚ p.1) ps (λ p. sym (one_times p.1))

pub mass_alike : (a : ℕ) (ps qs : Pairs) → Alike ps qs → mass (above a ps) ≡ mass (above a qs)
mass_alike a ps qs h = mass_score (above a ps) ∙ above_alike a (λ _. whole 1) ps qs h ∙ sym (mass_score (above a qs))

marked_quotient : (b : Bool) (p m : Fraction) → cond b (p /ℚ m) (whole 0) ≡ mark b *ℚ (whole 1 /ℚ m) *ℚ p
marked_quotient b p m = marked b (p /ℚ m) ∙ ap (λ t. mark b *ℚ t) (div_as_times p m) ∙ simp ring

conditioned_score : (a : ℕ) (ps : Pairs) (y : ℕ)
    → probability (conditioned a ps) y ≡ scored (λ x. mark (x == y) *ℚ (whole 1 /ℚ mass (above a ps))) (above a ps)
conditioned_score a ps y =
    let m = mass (above a ps) in
    sum_over_map (λ pair. (pair.0, pair.1 /ℚ m)) (λ pair. cond (pair.0 == y) pair.1 (whole 0)) (above a ps)
    ∙ sum_over_same _ (λ pair. mark (pair.0 == y) *ℚ (whole 1 /ℚ m) *ℚ pair.1) (above a ps)
    (λ pair. marked_quotient (pair.0 == y) pair.1 m)

pub conditioned_alike : (a : ℕ) (ps qs : Pairs) → Alike ps qs → Alike (conditioned a ps) (conditioned a qs)
conditioned_alike a ps qs h y =
    conditioned_score a ps y
    ∙ ap (λ m. scored (λ x. mark (x == y) *ℚ (whole 1 /ℚ m)) (above a ps)) (mass_alike a ps qs h)
    ∙ above_alike a (λ x. mark (x == y) *ℚ (whole 1 /ℚ mass (above a qs))) ps qs h
    ∙ sym (conditioned_score a qs y)

-- ---- the steps of a severity

pub alike_own : (sev : Sev) (ps : Pairs) → HasDistribution sev ps → Alike (pairs_of sev) ps
alike_own sev ps h x = probability-shares sev.items sev.total x (total_pos sev) ∙ h x

pub own_means : (sev : Sev) → HasDistribution sev (pairs_of sev)
own_means sev x = sym (probability-shares sev.items sev.total x (total_pos sev))

pub means_alike : (sev : Sev) (ps qs : Pairs) → HasDistribution sev ps → Alike ps qs → HasDistribution sev qs
means_alike sev ps qs h alike x = h x ∙ alike x

pub conditioned_means : (sev made : Sev) (ps : Pairs) (a : ℕ) → HasDistribution sev ps
    → HasDistribution made (conditioned a (pairs_of sev)) → HasDistribution made (conditioned a ps)
conditioned_means sev made ps a h m = means_alike made _ _ m
    (conditioned_alike a (pairs_of sev) ps (alike_own sev ps h))

pub mapped_means : (sev made : Sev) (ps : Pairs) (f : ℕ → ℕ) → HasDistribution sev ps
    → HasDistribution made (with_amounts f (pairs_of sev)) → HasDistribution made (with_amounts f ps)
mapped_means sev made ps f h m = means_alike made _ _ m (mapped_alike f (pairs_of sev) ps (alike_own sev ps h))

-- ---- mixtures

times_if : (b : Bool) (w p : Fraction) → cond b (w *ℚ p) (whole 0) ≡ w *ℚ cond b p (whole 0)
times_if true w p = refl
times_if false w p = sym (times_zero w)

pub probability-append : (ps qs : Pairs) (x : ℕ) → probability (ps ++ qs) x ≡ probability ps x +ℚ probability qs x
probability-append ps qs x = sum_over_append (λ pair. cond (pair.0 == x) pair.1 (whole 0)) ps qs

pub probability-scaled : (w : Fraction) (ps : Pairs) (x : ℕ) → probability (scaled w ps) x ≡ w *ℚ probability ps x
probability-scaled w ps x =
    sum_over_map (λ pair. (pair.0, w *ℚ pair.1)) (λ pair. cond (pair.0 == x) pair.1 (whole 0)) ps
    ∙ sum_over_same _ (λ pair. w *ℚ cond (pair.0 == x) pair.1 (whole 0)) ps (λ pair. times_if (pair.0 == x) w pair.1)
    ∙ sum_over_times w (λ pair. cond (pair.0 == x) pair.1 (whole 0)) ps

-- the mixture of severities by whole weights is that of what they mean
pub mixture_alike : (t : ℕ) (atoms : List Sev) (ws : List ℕ) (lists : List Pairs) → AllZip HasDistribution atoms lists
    → Alike (mixture_of t atoms ws) (mixed (map (λ w. w over t) ws) lists)
mixture_alike t (a ∷ atoms) (w ∷ ws) (ps ∷ lists) h x =
    probability-append (scaled (w over t) (pairs_of a)) (mixture_of t atoms ws) x
    ∙ ap₂ (λ s r. s +ℚ r)
    (probability-scaled (w over t) (pairs_of a) x ∙ ap (λ s. w over t *ℚ s) (alike_own a ps h.0 x)
    ∙ sym (probability-scaled (w over t) ps x))
    (mixture_alike t atoms ws lists h.1 x)
    ∙ sym (probability-append (scaled (w over t) ps) (mixed (map (λ v. v over t) ws) lists) x)
mixture_alike t [] ws (ps ∷ lists) h x = absurd h
mixture_alike t (a ∷ atoms) ws [] h x = absurd h
mixture_alike t [] (w ∷ ws) [] h x = refl
mixture_alike t atoms ws lists h x = refl
