-- Atoms one after another, with their amounts and their probabilities apart.
use Rattle.dl_severity.proofs.Common.{ℕ, ◌≡◌, ◌∙◌, ◌+◌, ◌*◌, ◌<◌, ◌≤◌, List, [], ◌∷◌, ◌++◌, length, map, zip, get_or, take, sum, refl, sym, ap, ap₂, subst, arith, append_assoc, mul-pos, mul-le-mul, length-take-le, take_more, map-append, map_more, append-nil, take_all, sum_by-cons, Fraction, whole, ◌over◌, ◌+ℚ◌, ◌*ℚ◌, over_mul, over_same, sum_over, Item, Sev, amounts_of, weight_sum, shares, pairs_of, over_plus, Weights, sum_of, mixture_of, mixed_probability, weighed, severity_total, All, inl, inr, zero, suc, common_pos, den_divides, length-append, ◌⊎◌, length-map, get_or_append_left, get_or-append-add, get_or-map, le_of_dvd, sum_by_more_le, zero_plus, plus_assoc, times_plus, times_zero, times_one, frac_bound, most_weights, over_le, IsTooFine, num_le_den, Pairs, over_zero, scaled, ◌∣◌, dvd_of_mod-eq-zero, probability, probability_of, probability-shares, weight_at, RefusesMixture, RefusesProducts, MixFault}
use Rattle.dl_exact.specs.Fraction.{◌≤ℚ◌}
use Rattle.dl_exact.specs.Gcd.{gcd}
use Rattle.dl_exact.specs.Multiples.{lcm}
use Rattle.dl_exact.proofs.GcdLaws.{gcd_is}
use Rattle.dl_exact.proofs.Laws.{one_times}
use Rattle.dl_exact.proofs.Multiples.{lcm_least, part_divides}
use Rattle.dl_exact.proofs.Over.{over_den}
use Rattle.dl_plan.proofs.CommonDenominators.{common_from}
use Rattle.dl_plan.specs.Fine.{common_denominator}
use Rattle.dl_severity.specs.declared.fault.MixFault.TheVariants.{TooFine, OutOfMemory}

abbrev pub firsts : Pairs → List ℕ
firsts ps = map (λ pair. pair.0) ps

abbrev pub seconds : Pairs → List Fraction
seconds ps = map (λ pair. pair.1) ps

firsts-scaled : (s : Fraction) (t : ℕ) (items : List Item) → firsts (scaled s (shares items t)) ≡ amounts_of items
firsts-scaled s t [] = refl
firsts-scaled s t (x ∷ xs) = ap (λ ns. x.amount ∷ ns) (firsts-scaled s t xs)

seconds-scaled : (s : Fraction) (t : ℕ) (items : List Item)
    → seconds (scaled s (shares items t)) ≡ map (mixed_probability s t) items
seconds-scaled s t [] = refl
seconds-scaled s t (x ∷ xs) = ap (λ ys. mixed_probability s t x ∷ ys) (seconds-scaled s t xs)

mixture-push : (t : ℕ) (atoms : List Sev) (ws : List ℕ) (a : Sev) (w : ℕ) → length atoms ≡ length ws
    → mixture_of t (atoms ++ a ∷ []) (ws ++ w ∷ []) ≡ mixture_of t atoms ws ++ scaled (w over t) (pairs_of a)
mixture-push t [] [] a w e = append-nil (scaled (w over t) (pairs_of a))
mixture-push t [] (v ∷ ws) a w e = absurd (omega (arith, e))
mixture-push t (b ∷ atoms) [] a w e = absurd (omega (arith, e))
mixture-push t (b ∷ atoms) (v ∷ ws) a w e =
    ap (λ ps. scaled (v over t) (pairs_of b) ++ ps) (mixture-push t atoms ws a w (omega (arith, e)))
    ∙ sym (append_assoc (scaled (v over t) (pairs_of b)) (mixture_of t atoms ws) (scaled (w over t) (pairs_of a)))

mixture-more : (t : ℕ) (atoms : List Sev) (ws : List ℕ) (i d : ℕ) (a : Sev) → i < length atoms
    → length atoms ≡ length ws → a ≡ get_or atoms i a
    → mixture_of t (take (i + 1) atoms) (take (i + 1) ws) ≡ mixture_of t (take i atoms) (take i ws) ++ scaled
    (get_or ws i d over t) (pairs_of a)
mixture-more t atoms ws i d a h e is =
    let below : i < length ws = omega (arith, h, e) in
    ap₂ (mixture_of t) (take_more atoms i a h) (take_more ws i d below)
    ∙ mixture-push t (take i atoms) (take i ws) (get_or atoms i a) (get_or ws i d)
    (length-take-le i atoms (omega (arith, h)) ∙ sym (length-take-le i ws (omega (arith, below))))
    ∙ ap (λ (b : Sev). mixture_of t (take i atoms) (take i ws) ++ scaled (get_or ws i d over t) (pairs_of b)) (sym is)

-- ---- one atom more

module _ (t : ℕ) (atoms : List Sev) (ws : List ℕ) (i d : ℕ) (a : Sev) (h : i < length atoms)
    (e : length atoms ≡ length ws) (is : a ≡ get_or atoms i a) where
  so_far : Pairs
  so_far = mixture_of t (take i atoms) (take i ws)

  pub amounts-more : (old new : List ℕ) → old ≡ firsts (mixture_of t (take i atoms) (take i ws))
      → new ≡ old ++ amounts_of a.items → new ≡ firsts (mixture_of t (take (i + 1) atoms) (take (i + 1) ws))
  amounts-more old new before pushed =
      pushed ∙ ap₂ (λ xs ys. xs ++ ys) before (sym (firsts-scaled (get_or ws i d over t) a.total a.items))
      ∙ sym (map-append (λ pair. pair.0) (mixture_of t (take i atoms) (take i ws))
      (scaled (get_or ws i d over t) (pairs_of a)))
      ∙ ap firsts (sym (mixture-more t atoms ws i d a h e is))

  pub probs-more : (old new : List Fraction) → old ≡ seconds (mixture_of t (take i atoms) (take i ws))
      → new ≡ old ++ map (mixed_probability (get_or ws i d over t) a.total) a.items
      → new ≡ seconds (mixture_of t (take (i + 1) atoms) (take (i + 1) ws))
  probs-more old new before pushed =
      pushed ∙ ap₂ (λ xs ys. xs ++ ys) before (sym (seconds-scaled (get_or ws i d over t) a.total a.items))
      ∙ sym (map-append (λ pair. pair.1) (mixture_of t (take i atoms) (take i ws))
      (scaled (get_or ws i d over t) (pairs_of a)))
      ∙ ap seconds (sym (mixture-more t atoms ws i d a h e is))

-- ---- pairs put together again

zip-over : (t : ℕ) (xs ws : List ℕ) → map (λ pair. (pair.0, pair.1 over t)) (zip xs ws) ≡ zip xs
    (map (λ w. w over t) ws)
zip-over t [] ws = refl
zip-over t (x ∷ xs) [] = refl
zip-over t (x ∷ xs) (w ∷ ws) = ap (λ ps. (x, w over t) ∷ ps) (zip-over t xs ws)

zip-apart : (ps : Pairs) → zip (firsts ps) (seconds ps) ≡ ps
zip-apart [] = refl
zip-apart (p ∷ ps) = ap (λ qs. p ∷ qs) (zip-apart ps)

pub weighed-back : (ps : Pairs) (xs : List ℕ) (whole : Weights) → xs ≡ firsts ps
    → map (λ w. w over whole.total) whole.weights ≡ seconds ps → weighed xs whole ≡ ps
weighed-back ps xs whole amounts probs =
    zip-over whole.total xs whole.weights ∙ ap₂ (λ ys zs. zip ys zs) amounts probs ∙ zip-apart ps

pub as_many : (ps : Pairs) (xs : List ℕ) (whole : Weights) → xs ≡ firsts ps
    → map (λ w. w over whole.total) whole.weights ≡ seconds ps → length xs ≡ length whole.weights
as_many ps xs whole amounts probs =
    (simp length-map at (ap length amounts)) ∙ sym (simp length-map at (ap length probs))

-- ---- one product

-- a product of a share and a probability that is no fraction of 62 bits has a large denominator
pub coarse_product : (w t : ℕ) (atom : Sev) (i : ℕ) (d : Item) → i < length atom.items → 0 < t → w ≤ t
    → IsTooFine (w over t *ℚ (get_or atom.items i d).weight over atom.total)
    → frac_bound ≤ (w over t *ℚ (get_or atom.items i d).weight over atom.total).den
coarse_product w t atom i d h pos part = by_part (num_le_den _ within)
  where
    v : ℕ
    v = (get_or atom.items i d).weight

    small : v ≤ atom.total
    small = omega (arith, sum_by_more_le (λ (j : Item). j.weight) atom.items i d h, atom.weighted.sum)

    within : w over t *ℚ v over atom.total ≤ℚ whole 1
    within = subst (λ x. x ≤ℚ whole 1) (sym (over_mul w t v atom.total pos (severity_total atom)))
        (over_le (w * v) (t * atom.total) 1 1 (mul-pos pos (severity_total atom)) (omega arith)
        (omega (arith, mul-le-mul part small)))

    by_part : {n e : ℕ} → n ≤ e → (frac_bound ≤ n) ⊎ (frac_bound ≤ e) → frac_bound ≤ e
    by_part le (inl far) = omega (arith, le, far)
    by_part le (inr far) = far

front : (P : Fraction → Type 0) (xs ys : List Fraction) → All P (xs ++ ys) → All P xs
front P xs ys all k d h = subst P (get_or_append_left xs ys d k h) (all k d (omega (arith, h, length-append xs ys)))

back : (P : Fraction → Type 0) (xs ys : List Fraction) → All P (xs ++ ys) → All P ys
back P xs ys all k d h = subst P (get_or-append-add xs ys k d)
    (all (length xs + k) d (omega (arith, h, length-append xs ys)))

-- what holds of all probabilities of a mixture holds of those of each atom
of_atom : (P : Fraction → Type 0) (t : ℕ) (atoms : List Sev) (ws : List ℕ) (i d : ℕ) (a : Sev) → i < length atoms
    → length atoms ≡ length ws → a ≡ get_or atoms i a → All P (seconds (mixture_of t atoms ws))
    → All P (map (mixed_probability (get_or ws i d over t) a.total) a.items)
of_atom P t [] ws i d a h e is all = absurd (omega (arith, h))
of_atom P t (b ∷ atoms) [] i d a h e is all = absurd (omega (arith, e))
of_atom P t (b ∷ atoms) (w ∷ ws) zero d a h e is all =
    rw is (subst (All P) (seconds-scaled (w over t) b.total b.items)
    (front P _ _ (subst (All P)
    (map-append (λ pair. pair.1) (scaled (w over t) (pairs_of b)) (mixture_of t atoms ws)) all)))
of_atom P t (b ∷ atoms) (w ∷ ws) (suc i) d a h e is all =
    of_atom P t atoms ws i d a (omega (arith, h)) (omega (arith, e)) is
    (back P _ _ (subst (All P)
    (map-append (λ pair. pair.1) (scaled (w over t) (pairs_of b)) (mixture_of t atoms ws)) all))

-- a denominator is at most the common one
den_within : (xs : List Fraction) → All (λ x. x.den ≤ common_denominator xs) xs
den_within xs k d h = le_of_dvd (common_pos xs) (den_divides 1 xs k d h)

-- a mixture with a probability of a large denominator is refused
pub coarse_mixture : (most : ℕ) (atoms : List Sev) (weights : Weights) (i d : ℕ) (a : Sev) (fault : MixFault)
    → most ≤ most_weights → i < length atoms → length atoms ≡ length weights.weights → a ≡ get_or atoms i a
    → RefusesProducts (get_or weights.weights i d over weights.total) a fault → RefusesMixture most atoms weights fault
coarse_mixture most atoms weights i d a TooFine few h e is (k, item, inside, there, far) = λ fine.
    let probs = seconds (mixture_of weights.total atoms weights.weights) in
    let all = of_atom (λ x. x.den ≤ common_denominator probs) weights.total atoms weights.weights i d a h e is
    (den_within probs) in
    let f = mixed_probability (get_or weights.weights i d over weights.total) a.total in
    let one = all k (f item) (subst (λ n. k < n) (sym (length-map a.items f)) inside) in
    let same = get_or-map f a.items k item (f item) inside ∙ ap f there in
    absurd (omega (arith, one, ap (λ (x : Fraction). x.den) same, far, fine, few))
coarse_mixture most atoms weights i d a OutOfMemory few h e is refused = tt

pub product_is : (w v t u : ℕ) → 0 < t → 0 < u → (w * v) over (t * u) ≡ w over t *ℚ v over u
product_is w v t u p q = sym (over_mul w t v u p q)

pub shares-more : (s : Fraction) (t i : ℕ) (items : List Item) (d : Item) (start old new : List Fraction)
    (x : Fraction) → i < length items
    → old ≡ start ++ map (mixed_probability s t) (take i items) → new ≡ old ++ x ∷ []
    → x ≡ mixed_probability s t (get_or items i d)
    → new ≡ start ++ map (mixed_probability s t) (take (i + 1) items)
shares-more s t i items d start old new x h before pushed value =
    pushed ∙ ap₂ (λ ys y. ys ++ y ∷ []) before value
    ∙ append_assoc start (map (mixed_probability s t) (take i items)) (mixed_probability s t (get_or items i d) ∷ [])
    ∙ ap (λ ys. start ++ ys) (sym (map_more (mixed_probability s t) items i d h))

pub mixture_whole : (t : ℕ) (atoms : List Sev) (ws : List ℕ) (i : ℕ) → length atoms ≤ i → length atoms ≡ length ws
    → mixture_of t (take i atoms) (take i ws) ≡ mixture_of t atoms ws
mixture_whole t atoms ws i h e = ap₂ (mixture_of t) (take_all i atoms h) (take_all i ws (subst (λ n. n ≤ i) e h))

-- ---- the probabilities of a mixture sum to 1

sum_of-append : (xs ys : List Fraction) → sum_of (xs ++ ys) ≡ sum_of xs +ℚ sum_of ys
unfolding sum_over
sum_of-append [] ys = sym (zero_plus (sum_of ys))
sum_of-append (x ∷ xs) ys = ap (λ s. x +ℚ s) (sum_of-append xs ys) ∙ sym (plus_assoc x (sum_of xs) (sum_of ys))

sum_of-shares : (s : Fraction) (t : ℕ) (items : List Item) → 0 < t
    → sum_of (map (mixed_probability s t) items) ≡ s *ℚ (weight_sum items over t)
unfolding sum_over
sum_of-shares s t [] h = sym (ap (λ y. s *ℚ y) (over_zero t h) ∙ times_zero s)
sum_of-shares s t (x ∷ xs) h =
    ap (λ y. mixed_probability s t x +ℚ y) (sum_of-shares s t xs h)
    ∙ sym (times_plus s (x.weight over t) (weight_sum xs over t))
    ∙ ap (λ y. s *ℚ y) (over_plus x.weight (weight_sum xs) t h
    ∙ ap (λ n. n over t) (sym (sum_by-cons (λ (i : Item). i.weight) x xs)))

sum_of-atom : (s : Fraction) (a : Sev) → sum_of (map (mixed_probability s a.total) a.items) ≡ s
sum_of-atom s a =
    let pos = severity_total a in
    sum_of-shares s a.total a.items pos
    ∙ ap (λ y. s *ℚ y) (ap (λ n. n over a.total) a.weighted.sum
    ∙ over_same a.total a.total 1 1 pos (omega arith) (omega arith))
    ∙ times_one s

sum_of-mixture : (t : ℕ) (atoms : List Sev) (ws : List ℕ) → 0 < t → length atoms ≡ length ws
    → sum_of (seconds (mixture_of t atoms ws)) ≡ sum ws over t
unfolding sum_over
sum_of-mixture t [] [] h e = sym (over_zero t h)
sum_of-mixture t [] (w ∷ ws) h e = absurd (omega (arith, e))
sum_of-mixture t (a ∷ atoms) [] h e = absurd (omega (arith, e))
sum_of-mixture t (a ∷ atoms) (w ∷ ws) h e =
    ap sum_of (map-append (λ pair. pair.1) (scaled (w over t) (pairs_of a)) (mixture_of t atoms ws))
    ∙ sum_of-append (seconds (scaled (w over t) (pairs_of a))) (seconds (mixture_of t atoms ws))
    ∙ ap₂ (λ x y. x +ℚ y) (ap sum_of (seconds-scaled (w over t) a.total a.items) ∙ sum_of-atom (w over t) a)
    (sum_of-mixture t atoms ws h (omega (arith, e)))
    ∙ over_plus w (sum ws) t h
    ∙ ap (λ n. n over t) (sym (sum_by-cons (λ n. n) w ws))

pub mixture_one : (t : ℕ) (atoms : List Sev) (ws : List ℕ) → 0 < t → length atoms ≡ length ws → sum ws ≡ t
    → sum_of (seconds (mixture_of t atoms ws)) ≡ whole 1
mixture_one t atoms ws h e all =
    sum_of-mixture t atoms ws h e ∙ ap (λ n. n over t) all ∙ over_same t t 1 1 h (omega arith) (omega arith)

-- ---- one atom alone

scaled-whole : (ps : Pairs) → scaled (whole 1) ps ≡ ps
scaled-whole [] = refl
scaled-whole (p ∷ ps) = ap₂ (λ x qs. (p.0, x) ∷ qs) (one_times p.1) (scaled-whole ps)

-- one atom, with all of the weight, is the mixture
pub mixture-alone : (t : ℕ) (atoms : List Sev) (ws : List ℕ) (a : Sev) → length atoms ≡ 1
    → length atoms ≡ length ws → sum ws ≡ t → 1 ≤ t → a ≡ get_or atoms 0 a → mixture_of t atoms ws ≡ pairs_of a
mixture-alone t [] ws a one e all h is = absurd (omega (arith, one))
mixture-alone t (b ∷ c ∷ atoms) ws a one e all h is = absurd (omega (arith, one))
mixture-alone t (b ∷ []) [] a one e all h is = absurd (omega (arith, e))
mixture-alone t (b ∷ []) (w ∷ v ∷ ws) a one e all h is = absurd (omega (arith, e))
mixture-alone t (b ∷ []) (w ∷ []) a one e all h is =
    let weight : w ≡ t = omega (arith, all, sum_by-cons (λ n. n) w []) in
    append-nil (scaled (w over t) (pairs_of b))
    ∙ ap₂ scaled (ap (λ n. n over t) weight ∙ over_same t t 1 1 h (omega arith) (omega arith)) (ap pairs_of (sym is))
    ∙ scaled-whole (pairs_of a)

den_over : (n d : ℕ) → 0 < d → (n over d).den ∣ d
den_over n d h = subst (λ k. k ∣ d) (sym (over_den n d h)) (part_divides d (gcd n d) (gcd_is n d).1)

multiple_divides : (m t : ℕ) (items : List Item) → 0 < t → m ∣ t → common_from m (seconds (shares items t)) ∣ t
multiple_divides m t [] h d = d
multiple_divides m t (x ∷ xs) h d =
    let y : Fraction = x.weight over t in
    multiple_divides (lcm m y.den) t xs h (lcm_least m y.den t y.positive d (den_over x.weight t h))

-- the probabilities of an atom are as fine as its total
pub alone_fine : (a : Sev) → common_denominator (seconds (pairs_of a)) ≤ a.total
alone_fine a =
    le_of_dvd (severity_total a) (multiple_divides 1 a.total a.items (severity_total a) (dvd_of_mod-eq-zero 1 (omega arith)))

-- a severity of the same items is the mixture of the atom alone
pub means-alone : (made a : Sev) (ps : Pairs) (x : ℕ) → made.items ≡ a.items → made.total ≡ a.total
    → ps ≡ pairs_of a → probability_of made x ≡ probability ps x
means-alone made a ps x items total is =
    ap₂ (λ (is : List Item) (t : ℕ). weight_at is x over t) items total
    ∙ sym (ap (λ qs. probability qs x) is ∙ probability-shares a.items a.total x (severity_total a))
