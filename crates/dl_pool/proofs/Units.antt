-- The expected numbers of claims of units, one unit after another, and the part of all claims that each has.
use Rattle.dl_pool.proofs.Common.{ℕ, ◌≡◌, ◌∙◌, refl, ◌+◌, ◌<◌, ◌≤◌, List, [], ◌∷◌, ◌++◌, length, map, take, get_or, ap, ap₂, sym, subst, arith, take_more, map_more, Fraction, whole, ◌+ℚ◌, ◌*ℚ◌, ◌/ℚ◌, ◌≤ℚ◌, ◌<ℚ◌, sum_over, le_trans, zero, suc, plus_zero, plus_comm, div_times, times_cancel, one_times, times_comm, sum_over_append, sum_over_same, sum_over_times, sum_over_map, FitsFrac, UnitOfPlan, Bor, Freq, Poisson, Sev, Bool, true, false, cond, Option, None, Some, inl, inr, arith, ◌*◌, lent, can_share, true_shares, shares_true, IsPoisson, IsClaimCount, All, pairs_of, shares, map-append, over_self, over_le, le_over, one_pos, IsFineTo40Bits, common_denominator, expected_count, expected_of, unit_share, le_plus, times_le_cancel, length-map, get_or-map, sum_of, count_weights, HasPartsOf48Bits, All-head, All-tail, All-cons, All-nil, CanShare, Gives, poisson, num_le_den, common_pos, den_divides, le_of_dvd}
use Rattle.std.proofs.Common.{Result, Ok, Err, filter, IsSome}

sum_over_alone : {A : Type 0} (f : A → Fraction) (x : A) → sum_over (x ∷ []) f ≡ f x
unfolding sum_over
sum_over_alone f x = plus_zero (f x)

pub sum_over_more : {A : Type 0} (f : A → Fraction) (xs : List A) (i : ℕ) (x : A) → i < length xs
    → x ≡ get_or xs i x → sum_over (take (i + 1) xs) f ≡ sum_over (take i xs) f +ℚ f x
sum_over_more f xs i x h is =
    ap (λ ys. sum_over ys f) (take_more xs i x h) ∙ sum_over_append f (take i xs) (get_or xs i x ∷ [])
    ∙ ap (λ t. sum_over (take i xs) f +ℚ t) (sum_over_alone f (get_or xs i x) ∙ ap f (sym is))

-- a part of a sum is at most the sum
pub item_le_all : {A : Type 0} (f : A → Fraction) (xs : List A) (i : ℕ) (x : A) → i < length xs
    → x ≡ get_or xs i x → f x ≤ℚ sum_over xs f
unfolding sum_over
item_le_all f [] i x h is = absurd (omega arith)
item_le_all f (y ∷ ys) zero x h is = subst (λ t. f t ≤ℚ f y +ℚ sum_over ys f) (sym is) (le_plus (f y) (sum_over ys f))
item_le_all f (y ∷ ys) (suc i) x h is =
    le_trans _ _ _ (item_le_all f ys i x (omega arith) is)
    (subst (λ t. sum_over ys f ≤ℚ t) (plus_comm (sum_over ys f) (f y)) (le_plus (sum_over ys f) (f y)))

-- so its share is at most 1
pub share_le_one : (v n : Fraction) → whole 0 <ℚ v → n ≤ℚ v → n /ℚ v ≤ℚ whole 1
share_le_one v n some within = times_le_cancel (n /ℚ v) (whole 1) v some
    (subst (λ t. t ≤ℚ whole 1 *ℚ v) (sym (div_times n v some)) (subst (λ t. n ≤ℚ t) (sym (one_times v)) within))

-- a fine fraction of at most 1 fits
pub fine_fits : (xs : List Fraction) (i : ℕ) (x : Fraction) → i < length xs → get_or xs i x ≡ x
    → IsFineTo40Bits xs → x ≤ℚ whole 1 → FitsFrac x
fine_fits xs i x h is fine one =
    let den : x.den ≤ common_denominator xs =
    subst (λ (y : Fraction). y.den ≤ common_denominator xs) is
    (le_of_dvd (common_pos xs) (den_divides 1 xs i x h)) in
    record { num = omega (arith, num_le_den x one); den = omega arith }

pub share_fits : (units : List UnitOfPlan) (v : Fraction) (i : ℕ) (u : UnitOfPlan) → i < length units
    → u ≡ get_or units i u → v ≡ expected_of units → whole 0 <ℚ v → IsFineTo40Bits (map (unit_share v) units)
    → FitsFrac (expected_count u.freq /ℚ v)
share_fits units v i u h is all some fine =
    fine_fits (map (unit_share v) units) i (unit_share v u) (subst (λ n. i < n) (sym (length-map units (unit_share v))) h)
    (get_or-map (unit_share v) units i u (unit_share v u) h ∙ ap (unit_share v) (sym is)) fine
    (share_le_one v (expected_count u.freq) some (subst (λ t. expected_count u.freq ≤ℚ t) (sym all)
    (item_le_all (λ (w : UnitOfPlan). expected_count w.freq) units i u h is)))

pub shares_step : (units : List UnitOfPlan) (v : Fraction) (i : ℕ) (u : UnitOfPlan) (old new : List Fraction)
    (x : Fraction) → i < length units
    → u ≡ get_or units i u → old ≡ map (unit_share v) (take i units) → new ≡ old ++ x ∷ []
    → x ≡ unit_share v u → new ≡ map (unit_share v) (take (i + 1) units)
shares_step units v i u old new x h is before pushed value =
    pushed ∙ ap₂ (λ xs y. xs ++ y ∷ []) before (value ∙ ap (unit_share v) is)
    ∙ sym (map_more (unit_share v) units i u h)

-- ---- units that are lent

pub lent_inside : (units : List (Bor UnitOfPlan)) (i : ℕ) → i < length units → i < length (lent units)
lent_inside units i h = subst (λ n. i < n) (sym (length-map units (λ (b : Bor UnitOfPlan). b.now))) h

pub lent_item : (units : List (Bor UnitOfPlan)) (i : ℕ) (b : Bor UnitOfPlan) → i < length units → b ≡ get_or units i b
    → b.now ≡ get_or (lent units) i b.now
lent_item units i b h is = ap (λ (x : Bor UnitOfPlan). x.now) is
    ∙ sym (get_or-map (λ (x : Bor UnitOfPlan). x.now) units i b b.now h)

pub of_each : (P : UnitOfPlan → Type 0) (units : List (Bor UnitOfPlan)) (i : ℕ) (b : Bor UnitOfPlan) → i < length units
    → b ≡ get_or units i b → All P (lent units) → P b.now
of_each P units i b h is all = subst P (sym (lent_item units i b h is)) (all i b.now (lent_inside units i h))

-- one more severity
pub severities_step : (units : List UnitOfPlan) (i : ℕ) (u : UnitOfPlan) (old new : List Sev) (made : Sev) → i < length units
    → u ≡ get_or units i u → map pairs_of old ≡ map (λ (w : UnitOfPlan). pairs_of w.sev) (take i units)
    → new ≡ old ++ made ∷ [] → made.items ≡ u.sev.items → made.total ≡ u.sev.total
    → map pairs_of new ≡ map (λ (w : UnitOfPlan). pairs_of w.sev) (take (i + 1) units)
severities_step units i u old new made h is before pushed items total =
    ap (map pairs_of) pushed ∙ map-append pairs_of old (made ∷ [])
    ∙ ap₂ (λ xs y. xs ++ y ∷ []) before (ap₂ shares items total ∙ ap (λ (w : UnitOfPlan). pairs_of w.sev) is)
    ∙ sym (map_more (λ (w : UnitOfPlan). pairs_of w.sev) units i u h)

-- ---- which can be pooled

poisson_is : (freq : Freq) → IsPoisson freq → freq ≡ Poisson (expected_count freq)
poisson_is (Poisson mean) h = refl
poisson_is freq h = absurd h

pub poisson_counts : (freq : Freq) → IsPoisson freq → IsClaimCount freq
poisson_counts freq h = subst IsClaimCount (sym (poisson_is freq h)) tt

pub poisson_weights : (freq : Freq) → IsPoisson freq → count_weights freq ≡ poisson (expected_count freq)
poisson_weights freq h = ap count_weights (poisson_is freq h)

pub sharing_share : (units : List UnitOfPlan) → All CanShare (filter can_share units)
sharing_share [] = All-nil CanShare
sharing_share (u ∷ us) = step (can_share u) refl (sharing_share us)
  where
    step : (b : Bool) → can_share u ≡ b → All CanShare (filter can_share us)
        → All CanShare (cond b (u ∷ filter can_share us) (filter can_share us))
    step true e rest = All-cons CanShare u (filter can_share us) (true_shares u e) rest
    step false e rest = rest

pub all_sharing : (units : List UnitOfPlan) → All CanShare units → filter can_share units ≡ units
all_sharing [] h = refl
all_sharing (u ∷ us) h =
    ap (λ b. cond b (u ∷ filter can_share us) (filter can_share us)) (shares_true u (All-head CanShare u us h))
    ∙ ap (λ xs. u ∷ xs) (all_sharing us (All-tail CanShare u us h))

pub none_there : {A : Type 0} (o : Option A) → o ≡ None → IsSome o → ⊥
none_there None e h = absurd (cc)
none_there (Some x) e h = absurd (cc)

-- each of them has a count that can be asked for what it expects, in admitted parts
pub each_counts : (units : List (Bor UnitOfPlan)) (i : ℕ) (b : Bor UnitOfPlan) → i < length units → b ≡ get_or units i b
    → All CanShare (lent units) → IsClaimCount b.now.freq
each_counts units i b h is all = poisson_counts b.now.freq (of_each CanShare units i b h is all).count

pub each_admitted : (units : List (Bor UnitOfPlan)) (i : ℕ) (b : Bor UnitOfPlan) → i < length units
    → b ≡ get_or units i b → All (λ u. HasPartsOf48Bits (expected_count u.freq)) (lent units)
    → HasPartsOf48Bits (expected_count b.now.freq)
each_admitted units i b h is all = of_each (λ (u : UnitOfPlan). HasPartsOf48Bits (expected_count u.freq)) units i b h is all

-- ---- sums that fit

pub not_refused : {E : Type 0} (r : Result Fraction E) (x : Fraction) (e : E) → Gives r x → r ≡ Err e → FitsFrac x → ⊥
not_refused (Ok y) x e given is fits = absurd (cc)
not_refused (Err f) x e (inl far) is fits = omega (arith, far, fits.num)
not_refused (Err f) x e (inr far) is fits = omega (arith, far, fits.den)

pub at_most : (x y : Fraction) (n : ℕ) → x ≡ y → x.num ≤ n * x.den → y ≤ℚ whole n
at_most x y n e h = subst (λ t. t ≤ℚ whole n) (over_self x ∙ e)
    (over_le x.num x.den n 1 x.positive one_pos (omega (arith, h)))

pub few_parts : (x y : Fraction) (n : ℕ) → x ≡ y → y ≤ℚ whole n → x.num ≤ n * x.den
few_parts x y n e h = omega (
  arith,
  le_over x.num x.den n 1 x.positive one_pos
      (subst (λ t. t ≤ℚ whole n) (sym (over_self x ∙ e)) h),
)

-- ---- the sum so far

pub sum_none : whole 0 ≡ expected_of []
unfolding sum_over
sum_none = refl

pub sum_step : (units : List UnitOfPlan) (i : ℕ) (u : UnitOfPlan) (sum n : Fraction) → i < length units
    → u ≡ get_or units i u → sum ≡ expected_of (take i units) → n ≡ expected_count u.freq
    → sum +ℚ n ≡ expected_of (take (i + 1) units)
sum_step units i u sum n h is before own =
    ap₂ (λ x y. x +ℚ y) before own
    ∙ sym (sum_over_more (λ (w : UnitOfPlan). expected_count w.freq) units i u h is)

-- ---- the parts of all claims add up to 1

pub shares_one : (units : List UnitOfPlan) (v : Fraction) → v ≡ expected_of units → whole 0 <ℚ v
    → sum_of (map (unit_share v) units) ≡ whole 1
shares_one units v all some =
    times_cancel _ _ v some
    (ap (λ t. t *ℚ v) (sum_over_map (unit_share v) (λ x. x) units) ∙ times_comm _ v
    ∙ sym (sum_over_times v (unit_share v) units)
    ∙ sum_over_same _ (λ (u : UnitOfPlan). expected_count u.freq) units
    (λ u. times_comm v _ ∙ div_times (expected_count u.freq) v some)
    ∙ sym all ∙ sym (one_times v))
