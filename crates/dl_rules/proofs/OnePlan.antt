-- A program and settings have one plan.
use mathlib.Core.HLevel.{is_prop→PathP}
use Rattle.dl_rules.proofs.Common.{◌≡◌, ◌∙◌, ℕ, zero, suc, ◌*◌, ◌<◌, ◌==◌, cond, false, List, [], ◌∷◌, map, Option, Some, None, inl, inr, refl, sym, ap, ap₂, subst, arith, mul-pos, All, All-head, All-tail, sum_by-cons, eqb_tells, Fraction, whole, whole_num, ◌over◌, Item, Sev, Pairs, HasDistribution, Plan, Settings, Program, UnitAst, GridUnit, GridCount, Exposed, Listed, Fixed, Poisson, Bernoulli, Binomial, Gamma, final_severity, ℕ_set, eq_of_mul-eq-mul_right, AllZip, cases_lt, same_from_all_zip, le_of_eq, le_over, Freq, UnitOfPlan, IsClaimCount, IsWeighted, weight_at, common_weight, Rising, rises, none_later, grid_of, ValueList, Shares, MixAst, Numeral, PortHead, SevDef, IsTableOf, IsCountOf, IsUnitOn, IsUnitOf, IsWrittenShape, IsSharedShape, IsPlanOf, le_prop, common_from, common-times, times, weight_sum_pos}
use Rattle.dl_plan.specs.declared.plan.Freq.TheVariants as of_plan

-- ---- whole weights are told by the probabilities that they mean

-- two lists of items have the same amounts, with weights in the ratio T to V
abbrev Alike : ℕ → ℕ → Item → Item → Type 0
Alike T V x y = (x.amount ≡ y.amount) × (x.weight * V ≡ y.weight * T)

abbrev InRatio : ℕ → ℕ → List Item → List Item → Type 0
InRatio T V xs ys = (a : ℕ) → weight_at xs a * V ≡ weight_at ys a * T

abbrev Positive : List Item → Type 0
Positive xs = All (λ (i : Item). 0 < i.weight) xs

-- the weight of the first amount, and of the others
pub first_weight : (x : Item) (xs : List Item) → Rising (x ∷ xs) → weight_at (x ∷ xs) x.amount ≡ x.weight
first_weight x xs rising = omega (
  arith,
  sum_by-cons (λ (j : Item). cond (j.amount == x.amount) j.weight 0) x xs,
  itself x.amount x.weight,
  none_later xs x.amount rising.0,
)
  where
    itself : (a w : ℕ) → cond (a == a) w 0 ≡ w
    itself a w = grind arith

pub other_weight : (x : Item) (xs : List Item) (a : ℕ) → (x.amount == a) ≡ false → weight_at (x ∷ xs) a ≡ weight_at xs a
other_weight x xs a other = omega (
  arith,
  sum_by-cons (λ (j : Item). cond (j.amount == a) j.weight 0) x xs,
  ap (λ b. cond b x.weight 0) other,
)

-- an amount below all has no weight
no_weight : (x : Item) (xs : List Item) (a : ℕ) → Rising (x ∷ xs) → a < x.amount → weight_at (x ∷ xs) a ≡ 0
no_weight x xs a rising h = none_later (x ∷ xs) a above
  where
    above : All (λ (i : Item). a < i.amount) (x ∷ xs)
    above zero d b = h
    above (suc k) d b = omega (arith, h, rising.0 k d (omega (arith, b)))

-- the first amount of a list in the ratio has a weight in the other list
some_weight : (T V : ℕ) (x : Item) (xs ys : List Item) → 0 < V → Rising (x ∷ xs) → Positive (x ∷ xs)
    → weight_at (x ∷ xs) x.amount * V ≡ weight_at ys x.amount * T → weight_at ys x.amount ≡ 0 → ⊥
some_weight T V x xs ys vpos rising some h none =
    let e : x.weight * V ≡ 0 * T = ap (λ n. n * V) (sym (first_weight x xs rising)) ∙ h ∙ ap (λ n. n * T) none in
    omega (arith, mul-pos (All-head (λ (i : Item). 0 < i.weight) x xs some) vpos, e)

-- what is alike has the same image
pub map_alike : {A B C : Type 0} (R : A → C → Type 0) (f : A → B) (g : C → B) → ((x : A) (y : C) → R x y → f x ≡ g y)
    → (xs : List A) (ys : List C) → AllZip R xs ys → map f xs ≡ map g ys
map_alike R f g alike [] [] h = refl
map_alike R f g alike [] (y ∷ ys) h = absurd h
map_alike R f g alike (x ∷ xs) [] h = absurd h
map_alike R f g alike (x ∷ xs) (y ∷ ys) h = ap₂ (λ z zs. z ∷ zs) (alike x y h.0) (map_alike R f g alike xs ys h.1)

pub same_item : (x y : Item) → x.amount ≡ y.amount → x.weight ≡ y.weight → x ≡ y
same_item x y a w = λ i. record { amount = a i; weight = w i }

module _ (T V : ℕ) (tpos : 0 < T) (vpos : 0 < V) where
  in_ratio : (xs ys : List Item) → Rising xs → Rising ys → Positive xs → Positive ys → InRatio T V xs ys
      → AllZip (Alike T V) xs ys
  in_ratio [] [] rx ry px py h = tt
  in_ratio [] (y ∷ ys) rx ry px py h = absurd (some_weight V T y ys [] tpos ry py (sym (h y.amount)) refl)
  in_ratio (x ∷ xs) [] rx ry px py h = absurd (some_weight T V x xs [] vpos rx px (h x.amount) refl)
  in_ratio (x ∷ xs) (y ∷ ys) rx ry px py h = elim (cases_lt x.amount y.amount) [
    | inl lt ↦ absurd (some_weight T V x xs (y ∷ ys) vpos rx px (h x.amount) (no_weight y ys x.amount ry lt))
    | inr ge ↦ elim (cases_lt y.amount x.amount) [
      | inl lt ↦ absurd (some_weight V T y ys (x ∷ xs) tpos ry py (sym (h y.amount)) (no_weight x xs y.amount rx lt))
      | inr le ↦
          let same : x.amount ≡ y.amount = omega (arith, ge, le) in
          let first : x.weight * V ≡ y.weight * T =
          ap (λ n. n * V) (sym (first_weight x xs rx)) ∙ h x.amount ∙ ap (λ a. weight_at (y ∷ ys) a * T) same
          ∙ ap (λ n. n * T) (first_weight y ys ry) in (
            (same, first),
            in_ratio xs ys rx.1 ry.1 (All-tail (λ (i : Item). 0 < i.weight) x xs px)
                (All-tail (λ (i : Item). 0 < i.weight) y ys py) (λ a. elim (eqb_tells x.amount a) [
                  | inl here ↦
                      ap (λ n. n * V) (none_later xs a (subst (λ b. All (λ (i : Item). b < i.amount) xs) here.1 rx.0))
                      ∙ both_none V T ∙ sym (ap (λ n. n * T)
                      (none_later ys a (subst (λ b. All (λ (i : Item). b < i.amount) ys) (sym same ∙ here.1) ry.0)))
                  | inr other ↦
                      ap (λ n. n * V) (sym (other_weight x xs a other.0)) ∙ h a
                      ∙ ap (λ n. n * T) (other_weight y ys a (ap (λ b. b == a) (sym same) ∙ other.0))
                ]),
          )
    ]
  ]
    where
      both_none : (m n : ℕ) → 0 * m ≡ 0 * n
      both_none m n = omega arith

module _ (xs : List Item) (t : ℕ) (ys : List Item) (v : ℕ) (w : IsWeighted xs t) (z : IsWeighted ys v)
    (same : (a : ℕ) → weight_at xs a over t ≡ weight_at ys a over v) where
  tpos : 0 < t
  tpos = subst (λ n. 0 < n) w.sum (weight_sum_pos xs w.some w.positive)

  vpos : 0 < v
  vpos = subst (λ n. 0 < n) z.sum (weight_sum_pos ys z.some z.positive)

  alike : AllZip (Alike t v) xs ys
  alike =
      in_ratio t v tpos vpos xs ys (rises xs w.rising) (rises ys z.rising) w.positive z.positive (λ a. omega (
        arith,
        le_over (weight_at xs a) t (weight_at ys a) v tpos vpos (le_of_eq _ _ (same a)),
        le_over (weight_at ys a) v (weight_at xs a) t vpos tpos (le_of_eq _ _ (sym (same a))),
      ))

  pub one_total : t ≡ v
  one_total =
      let left : common_weight (map (times v) xs) ≡ v = common_of xs v vpos w.lowest in
      let right : common_weight (map (times t) ys) ≡ t = common_of ys t tpos z.lowest in
      sym right ∙ ap common_weight (sym (map_alike (Alike t v) (times v) (times t)
      (λ x y h. same_item (times v x) (times t y) h.0 h.1) xs ys alike)) ∙ left
    where
      nought : (g : ℕ) → 0 ≡ 0 * g
      nought g = omega arith

      one_times : (g : ℕ) → 1 * g ≡ g
      one_times g = omega arith

      common_of : (is : List Item) (g : ℕ) → 0 < g → common_weight is ≡ 1 → common_weight (map (times g) is) ≡ g
      common_of is g pos lowest =
          ap (λ d. common_from d (map (times g) is)) (nought g) ∙ common-times g 0 is pos ∙ ap (λ n. n * g) lowest
          ∙ one_times g

  pub one_list : xs ≡ ys
  one_list =
      sym (same_from_all_zip (Alike t v) xs ys alike
      (λ x y h. same_item y x (sym h.0) (sym (eq_of_mul-eq-mul_right t tpos x.weight y.weight
      (ap (λ n. x.weight * n) one_total ∙ h.1)))))

-- ---- severities and counts

weighted_prop : (items : List Item) (total : ℕ) (x y : IsWeighted items total) → x ≡ y
weighted_prop items total x y = λ i. record {
  some = le_prop x.some y.some i;
  rising = λ k h. le_prop (x.rising k h) (y.rising k h) i;
  positive = λ k d h. le_prop (x.positive k d h) (y.positive k d h) i;
  sum = ℕ_set _ _ x.sum y.sum i;
  within = le_prop x.within y.within i;
  lowest = ℕ_set _ _ x.lowest y.lowest i;
}

one_severity : (s u : Sev) (ps : Pairs) → HasDistribution s ps → HasDistribution u ps → s ≡ u
one_severity s u ps a b =
    let same : (x : ℕ) → weight_at s.items x over s.total ≡ weight_at u.items x over u.total =
    λ x. a x ∙ sym (b x) in
    let items = one_list s.items s.total u.items u.total s.weighted u.weighted same in
    let total = one_total s.items s.total u.items u.total s.weighted u.weighted same in
    λ i. record {
      items = items i;
      total = total i;
      weighted = is_prop→PathP (λ j. IsWeighted (items j) (total j)) (λ j. weighted_prop (items j) (total j))
          s.weighted u.weighted i;
    }

whole_same : (m n : ℕ) (x : Fraction) → whole m ≡ x → whole n ≡ x → m ≡ n
whole_same m n x p q = sym (whole_num m) ∙ ap (λ (y : Fraction). y.num) (p ∙ sym q) ∙ whole_num n

one_table : (counts : ValueList) (probs : Option Shares) (f g : Freq) → IsTableOf counts probs f → IsClaimCount f
    → IsTableOf counts probs g → IsClaimCount g → f ≡ g
one_table counts probs f g (xs, t, fs, a) vf (ys, v, gs, b) vg =
    let w : IsWeighted xs t = (subst IsClaimCount fs vf).0 in
    let z : IsWeighted ys v = (subst IsClaimCount gs vg).0 in
    let same : (x : ℕ) → weight_at xs x over t ≡ weight_at ys x over v = λ x. a x ∙ sym (b x) in
    fs ∙ ap₂ of_plan.Table (one_list xs t ys v w z same) (one_total xs t ys v w z same) ∙ sym gs

one_count : (bs : Fraction) (u : GridUnit) (k : GridCount) (f g : Freq) → IsCountOf bs u k f → IsCountOf bs u k g
    → f ≡ g
one_count bs u (Exposed e (Fixed _)) f g (m, mw, fm) (n, nw, gn) =
    fm ∙ ap of_plan.Fixed (whole_same m n _ mw nw) ∙ sym gn
one_count bs u (Exposed e (Poisson _)) f g p q = p ∙ sym q
one_count bs u (Exposed e (Bernoulli _)) f g p q = p ∙ sym q
one_count bs u (Exposed e (Binomial p _)) f g (m, mw, fm) (n, nw, gn) =
    fm ∙ ap (λ k. of_plan.Binomial k p) (whole_same m n _ mw nw) ∙ sym gn
one_count bs u (Exposed e (Gamma c _)) f g p q = p ∙ sym q
one_count bs u (Listed counts probs) f g (p, vp) (q, vq) = one_table counts probs f g p vp q vq

-- ---- units and plans

one_on : (bs : Fraction) (text : List ℕ) (g : GridUnit) (m n : UnitOfPlan) → IsUnitOn bs text g m
    → IsUnitOn bs text g n → m ≡ n
one_on bs text g m n p q =
    let name = p.name ∙ sym q.name in
    let sev = one_severity m.sev n.sev (final_severity g) p.severity q.severity in
    let freq = one_count bs g g.count m.freq n.freq p.count q.count in
    let cede = p.clause ∙ sym q.clause in
    let zeroes = p.zero ∙ sym q.zero in
    λ i. record { name = name i; sev = sev i; freq = freq i; cede = cede i; zero = zeroes i }

one_mixture : (o : Option MixAst) (a b : MixAst) → o ≡ Some a → o ≡ Some b → a ≡ b
one_mixture o a b p q = let both : Some a ≡ Some b = sym p ∙ q in cc

one_unit : (bs : Fraction) (sevs : List SevDef) (u : UnitAst) (m n : UnitOfPlan) → IsUnitOf bs sevs u m
    → IsUnitOf bs sevs u n → m ≡ n
one_unit bs sevs u m n p q =
    let same : q.mix ≡ p.mix = one_mixture _ q.mix p.mix q.named p.named in
    one_on bs u.name.text (grid_of bs u p.mix) m n p.unit
    (subst (λ x. IsUnitOn bs u.name.text (grid_of bs u x) n) same q.unit)

one_units : (bs : Fraction) (sevs : List SevDef) (us : List UnitAst) (ms ns : List UnitOfPlan)
    → AllZip (IsUnitOf bs sevs) us ms → AllZip (IsUnitOf bs sevs) us ns → ms ≡ ns
one_units bs sevs [] [] [] p q = refl
one_units bs sevs [] [] (n ∷ ns) p q = absurd q
one_units bs sevs [] (m ∷ ms) ns p q = absurd p
one_units bs sevs (u ∷ us) [] ns p q = absurd p
one_units bs sevs (u ∷ us) (m ∷ ms) [] p q = absurd q
one_units bs sevs (u ∷ us) (m ∷ ms) (n ∷ ns) p q =
    ap₂ (λ x xs. x ∷ xs) (one_unit bs sevs u m n p.0 q.0) (one_units bs sevs us ms ns p.1 q.1)

one_written : (c : Option Numeral) (a b : Option Fraction) → IsWrittenShape c a → IsWrittenShape c b → a ≡ b
one_written None a b p q = p ∙ sym q
one_written (Some c) a b p q = p ∙ sym q

one_shape : (port : Option PortHead) (a b : Option Fraction) → IsSharedShape port a → IsSharedShape port b → a ≡ b
one_shape None a b p q = p ∙ sym q
one_shape (Some h) a b p q = one_written h.common a b p q

pub one_plan : (program : Program) (settings : Settings) (a b : Plan) → IsPlanOf program settings a
    → IsPlanOf program settings b → a ≡ b
one_plan program settings a b p q =
    let bucket = p.bucket ∙ sym q.bucket in
    let cells = p.cells ∙ sym q.cells in
    let units = one_units settings.bs program.sevs program.units a.units b.units p.units q.units in
    let common = one_shape program.port a.common b.common p.common q.common in
    λ i. record { bs = bucket i; cells = cells i; units = units i; common = common i }
