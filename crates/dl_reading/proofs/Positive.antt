-- The amounts of positive probability, step by step.
use Rattle.dl_reading.proofs.Common.{◌≡◌, ◌∙◌, ℕ, ◌+◌, ◌<◌, ◌≤◌, ◌&&◌, List, [], ◌∷◌, ◌++◌, map, filter, zip, length, take, get_or, nat_lt, Bool, true, false, Option, Some, None, cond, refl, sym, ap, ap₂, subst, arith, inl, inr, append_assoc, All, lt-ltb, le-ltb, map-append, map_more, take_more, take_all, length-map, append-nil, list_any_none, All-nil, All-cons, All-head, All-tail, All-weaker, Fraction, whole, ◌*ℚ◌, ◌/ℚ◌, ◌≤ℚ◌, ◌<ℚ◌, zero_or_pos, times_zero, zero_times, lt_of_lt_of_le, le_plus, plus_comm, num_pos, whole_num, Pairs, mass, conditioned, layer, scaled, with_amounts, layered, GridSev, GridLayer, GridUnit, mixed, mixed_pairs, is_conditioned, layer_pairs, support, cases_Bool, length-take-le, get_or-zip, length-zip, filter-append, map-map, none_above}
use Rattle.dl_exact.specs.Sum.{sum_over}
use Rattle.dl_exact.proofs.Laws.{times_pos, div_pos, le_trans}
use Rattle.dl_reading.proofs.Meaning.{above, div_as_times}

abbrev pub is_positive : Fraction → Bool
is_positive x = nat_lt 0 x.num

pub positive_yes : (x : Fraction) → whole 0 <ℚ x → is_positive x ≡ true
positive_yes x h = lt-ltb 0 x.num (num_pos x h)

pub positive_no : (x : Fraction) → x ≡ whole 0 → is_positive x ≡ false
positive_no x e = le-ltb 0 x.num (subst (λ n. n ≤ 0) (sym (ap (λ (y : Fraction). y.num) e ∙ whole_num 0)) (omega arith))

positive_times : (w p : Fraction) → is_positive (w *ℚ p) ≡ (is_positive w && is_positive p)
positive_times w p = elim (zero_or_pos w) [
  | inl e ↦ rw (e, zero_times p, positive_no (whole 0) refl) refl
  | inr h ↦ elim (zero_or_pos p) [
    | inl f ↦ rw (f, times_zero w, positive_yes w h) refl
    | inr k ↦ rw (positive_yes w h, positive_yes p k) (positive_yes (w *ℚ p) (times_pos w p h k))
  ]
]

-- a quotient by what is at least as large is positive with it
positive_div : (p m : Fraction) → p ≤ℚ m → is_positive (p /ℚ m) ≡ is_positive p
positive_div p m h = elim (zero_or_pos p) [
  | inl e ↦ rw (e, div_as_times (whole 0) m, zero_times (whole 1 /ℚ m)) refl
  | inr k ↦ positive_yes (p /ℚ m) (div_pos p m k (lt_of_lt_of_le (whole 0) p m k h)) ∙ sym (positive_yes p k)
]

-- ---- the steps

pub support-append : (ps qs : Pairs) → support (ps ++ qs) ≡ support ps ++ support qs
support-append ps qs =
    rw (filter-append (λ pair. is_positive pair.1) ps qs) (map-append (λ pair. pair.0) _ _)

pub support_step : (p : ℕ × Fraction) (ps : Pairs)
    → support (p ∷ ps) ≡ cond (is_positive p.1) (p.0 ∷ support ps) (support ps)
support_step p ps = elim (cases_Bool (is_positive p.1)) [ inl e ↦ rw e refl | inr e ↦ rw e refl ]

pub support-scaled : (w : Fraction) (ps : Pairs) → support (scaled w ps) ≡ cond (is_positive w) (support ps) []
support-scaled w [] = elim (cases_Bool (is_positive w)) [ inl e ↦ rw e refl | inr e ↦ rw e refl ]
support-scaled w (p ∷ ps) = elim (cases_Bool (is_positive w)) [
  | inr e ↦ rw (positive_times w p.1, e) (rw e at (support-scaled w ps))
  | inl e ↦ elim (cases_Bool (is_positive p.1)) [
    | inl f ↦ rw (positive_times w p.1, e, f) (ap (λ xs. p.0 ∷ xs) (rw e at (support-scaled w ps)))
    | inr f ↦ rw (positive_times w p.1, e, f) (rw e at (support-scaled w ps))
  ]
]

-- a test of what is mapped is one of what it is mapped to
filter-mapped : {X Y : Type 0} (p : Y → Bool) (f : X → Y) (xs : List X)
    → filter p (map f xs) ≡ map f (filter (λ x. p (f x)) xs)
filter-mapped p f [] = refl
filter-mapped p f (x ∷ xs) = elim (cases_Bool (p (f x))) [
  | inl e ↦ rw e (ap (λ ys. f x ∷ ys) (filter-mapped p f xs))
  | inr e ↦ rw e (filter-mapped p f xs)
]

filter-turned : {X : Type 0} (p q : X → Bool) (xs : List X) → filter p (filter q xs) ≡ filter q (filter p xs)
filter-turned p q [] = refl
filter-turned p q (x ∷ xs) = split (p x) (q x) refl refl (filter-turned p q xs)
  where
    split : (a b : Bool) → p x ≡ a → q x ≡ b → filter p (filter q xs) ≡ filter q (filter p xs)
        → filter p (cond (q x) (x ∷ filter q xs) (filter q xs)) ≡ filter q (cond (p x) (x ∷ filter p xs) (filter p xs))
    split true true e f same = rw (e, f, e) (ap (λ ys. x ∷ ys) same)
    split true false e f same = rw (e, f) same
    split false true e f same = rw (e, f, e) same
    split false false e f same = rw (e, f) same

pub support-mapped : (f : ℕ → ℕ) (ps : Pairs) → support (with_amounts f ps) ≡ map f (support ps)
support-mapped f ps =
    let kept : Pairs = filter (λ pair. is_positive pair.1) ps in
    ap (map (λ pair. pair.0))
    (filter-mapped (λ pair. is_positive pair.1) (λ (pair : ℕ × Fraction). (f pair.0, pair.1)) ps)
    ∙ map-map (λ pair. pair.0) (λ (pair : ℕ × Fraction). (f pair.0, pair.1)) kept
    ∙ sym (map-map f (λ pair. pair.0) kept)

support-above : (a : ℕ) (ps : Pairs) → support (above a ps) ≡ filter (nat_lt a) (support ps)
support-above a ps =
    ap (map (λ pair. pair.0)) (filter-turned (λ pair. is_positive pair.1) (λ pair. nat_lt a pair.0) ps)
    ∙ sym (filter-mapped (nat_lt a) (λ pair. pair.0) (filter (λ pair. is_positive pair.1) ps))

-- each probability is at most that of all
mass_bounds : (qs : Pairs) → All (λ q. q.1 ≤ℚ mass qs) qs
unfolding sum_over
mass_bounds [] = All-nil (λ q. q.1 ≤ℚ mass [])
mass_bounds (q ∷ qs) =
    All-cons (λ r. r.1 ≤ℚ mass (q ∷ qs)) q qs (le_plus q.1 (mass qs))
    (All-weaker (λ r. r.1 ≤ℚ mass qs) (λ r. r.1 ≤ℚ mass (q ∷ qs))
    (λ r h. le_trans r.1 (mass qs) (mass (q ∷ qs)) h
    (rw (plus_comm q.1 (mass qs)) (le_plus (mass qs) q.1))) qs (mass_bounds qs))

abbrev over_mass : Fraction → Pairs → Pairs
over_mass m qs = map (λ pair. (pair.0, pair.1 /ℚ m)) qs

support-over : (m : Fraction) (qs : Pairs) → All (λ q. q.1 ≤ℚ m) qs → support (over_mass m qs) ≡ support qs
support-over m [] h = refl
support-over m (q ∷ qs) h =
    support_step (q.0, q.1 /ℚ m) (over_mass m qs)
    ∙ ap₂ (λ b xs. cond b (q.0 ∷ xs) xs) (positive_div q.1 m (All-head (λ r. r.1 ≤ℚ m) q qs h))
    (support-over m qs (All-tail (λ r. r.1 ≤ℚ m) q qs h))
    ∙ sym (support_step q qs)

pub support-conditioned : (a : ℕ) (ps : Pairs) → support (conditioned a ps) ≡ filter (nat_lt a) (support ps)
support-conditioned a ps = support-over (mass (above a ps)) (above a ps) (mass_bounds (above a ps)) ∙ support-above a ps

-- ---- one more amount, and one more atom

-- the amounts of the first i pairs
abbrev pub support_to : List ℕ → List Fraction → ℕ → List ℕ
support_to xs ys i = support (take i (zip xs ys))

support_to-more : (xs : List ℕ) (ys : List Fraction) (i d : ℕ) (e : Fraction) → i < length xs → length xs ≡ length ys
    → support_to xs ys (i + 1) ≡ support_to xs ys i ++ support ((get_or xs i d, get_or ys i e) ∷ [])
support_to-more xs ys i d e h same =
    ap support (take_more (zip xs ys) i (d, e) (omega (arith, h, same, length-zip xs ys)))
    ∙ support-append (take i (zip xs ys)) (get_or (zip xs ys) i (d, e) ∷ [])
    ∙ ap (λ p. support_to xs ys i ++ support (p ∷ [])) (get_or-zip xs ys i (d, e) h (omega (arith, h, same)))

module _ (start made : List ℕ) (xs : List ℕ) (ys : List Fraction) (i d : ℕ) (p : Fraction) (b : Bool) (h : i < length xs)
    (same : length xs ≡ length ys) (test : b ≡ is_positive (get_or ys i p)) (so_far : made ≡ start ++ support_to xs ys i) where
  pub amount-more : made ++ cond b (get_or xs i d ∷ []) [] ≡ start ++ support_to xs ys (i + 1)
  amount-more = rw (so_far, test, support_to-more xs ys i d p h same, support_step (get_or xs i d, get_or ys i p) [])
      (append_assoc start (support_to xs ys i) _)

mixed-push : (ws : List Fraction) (lists : List Pairs) (w : Fraction) (ps : Pairs) → length ws ≡ length lists
    → mixed (ws ++ w ∷ []) (lists ++ ps ∷ []) ≡ mixed ws lists ++ scaled w ps
mixed-push [] [] w ps e = append-nil (scaled w ps)
mixed-push [] (qs ∷ lists) w ps e = absurd (omega (arith, e))
mixed-push (v ∷ ws) [] w ps e = absurd (omega (arith, e))
mixed-push (v ∷ ws) (qs ∷ lists) w ps e =
    ap (λ rs. scaled v qs ++ rs) (mixed-push ws lists w ps (omega (arith, e)))
    ∙ sym (append_assoc (scaled v qs) (mixed ws lists) (scaled w ps))

-- the amounts of the first i atoms
abbrev pub mixed_to : {A : Type 0} → (A → Pairs) → List Fraction → List A → ℕ → Pairs
mixed_to g ws atoms i = mixed (take i ws) (map g (take i atoms))

mixed_to-more : {A : Type 0} (g : A → Pairs) (ws : List Fraction) (atoms : List A) (i : ℕ) (w : Fraction) (a : A)
    → i < length atoms → length ws ≡ length atoms
    → mixed_to g ws atoms (i + 1) ≡ mixed_to g ws atoms i ++ scaled (get_or ws i w) (g (get_or atoms i a))
mixed_to-more g ws atoms i w a h same =
    let below : i < length ws = omega (arith, h, same) in
    ap₂ mixed (take_more ws i w below) (map_more g atoms i a h)
    ∙ mixed-push (take i ws) (map g (take i atoms)) (get_or ws i w) (g (get_or atoms i a))
    (length-take-le i ws (omega (arith, below))
    ∙ sym (length-map (take i atoms) g ∙ length-take-le i atoms (omega (arith, h))))

module _ {A : Type 0} (g : A → Pairs) (ws : List Fraction) (atoms : List A) (i : ℕ) (w : Fraction) (a : A) (b : Bool)
    (made : List ℕ) (h : i < length atoms) (same : length ws ≡ length atoms)
    (test : b ≡ is_positive (get_or ws i w)) (is : a ≡ get_or atoms i a)
    (so_far : made ≡ support (mixed_to g ws atoms i)) where
  pub atom-more : made ++ cond b (support (g a)) [] ≡ support (mixed_to g ws atoms (i + 1))
  atom-more = sym (ap support (mixed_to-more g ws atoms i w a h same
      ∙ ap (λ (c : A). mixed_to g ws atoms i ++ scaled (get_or ws i w) (g c)) (sym is))
      ∙ support-append (mixed_to g ws atoms i) (scaled (get_or ws i w) (g a))
      ∙ ap₂ (λ zs ps. zs ++ ps) (sym so_far)
      (support-scaled (get_or ws i w) (g a) ∙ ap (λ t. cond t (support (g a)) []) (sym test)))

pub all-atoms : {A : Type 0} (g : A → Pairs) (ws : List Fraction) (atoms : List A) (i : ℕ) → length atoms ≤ i
    → length ws ≡ length atoms → support (mixed_to g ws atoms i) ≡ support (mixed ws (map g atoms))
all-atoms g ws atoms i le same = ap₂ (λ vs xs. support (mixed vs (map g xs)))
    (take_all i ws (omega (arith, le, same))) (take_all i atoms le)

-- ---- the layer

support_if : (b : Bool) (a : ℕ) (ps : Pairs) → support (cond b (conditioned a ps) ps)
    ≡ cond b (filter (nat_lt a) (support ps)) (support ps)
support_if true a ps = support-conditioned a ps
support_if false a ps = refl

layer_support : (b : Bool) (limit : Option ℕ) (a : ℕ) (ps : Pairs)
    → support (layered limit a (cond b (conditioned a ps) ps))
    ≡ map (layer limit a) (cond b (filter (nat_lt a) (support ps)) (support ps))
layer_support b limit a ps = support-mapped (layer limit a) (cond b (conditioned a ps) ps)
    ∙ ap (map (layer limit a)) (support_if b a ps)

-- what the layer takes of the amounts
pub taken_support : (o : Option GridLayer) (l : GridLayer) (bang : Bool) (s : GridSev) (xs made : List ℕ) (large : Bool)
    → o ≡ Some l → xs ≡ support (mixed_pairs s) → large ≡ is_conditioned bang l
    → made ≡ map (layer l.limit l.attach) (cond large (filter (nat_lt l.attach) xs) xs)
    → made ≡ support (layer_pairs o bang s)
taken_support o l bang s xs made large is amounts test e =
    rw (is, e, amounts, test) (sym (layer_support (is_conditioned bang l) l.limit l.attach (mixed_pairs s)))

-- what the layer makes of the mixture
pub in_layer_is : (o : Option GridLayer) (l : GridLayer) (bang : Bool) (s : GridSev) (large : Bool) → o ≡ Some l
    → is_conditioned bang l ≡ large
    → layered l.limit l.attach (cond large (conditioned l.attach (mixed_pairs s)) (mixed_pairs s)) ≡ layer_pairs o bang s
in_layer_is o l bang s large is test =
    rw (is, test) refl

-- an amount exceeds the attachment where it should
pub reached : (u : GridUnit) (l : GridLayer) → u.layer ≡ Some l → is_conditioned u.bang l ≡ true → none_above u ≡ None
    → All (λ x. x ≤ l.attach) (support (mixed_pairs u.sev)) → ⊥
unfolding none_above
reached u l is large none all =
    let under = list_any_none (nat_lt l.attach) (support (mixed_pairs u.sev)) (λ k d h. le-ltb l.attach _ (all k d h)) in
    let told : Some l.span ≡ None = rw (is, large, under) at none in
    absurd (cc)
