-- Steps of each kind whose ends are their numbers, and what they count.
use Rattle.dl_cert.proofs.Common.{fun_ext, ℕ, zero, suc, ◌≡◌, ◌+◌, ◌*◌, ◌/◌, ◌<◌, ◌≤◌, ◌^◌, ◌∙◌, inl, inr, refl, sym, ap₂, subst, arith, List, [], ◌∷◌, ◌++◌, length, map, get_or, append_assoc, append-nil, Option, Some, None, pow-suc, cases_lt, lt-ltb, le-ltb, nat_tests, get_or_past, length-map, pow_pos, more_below, most_cells_at, IsGridSize, Iv, low_at, high_at, all_at_zero, IsGrid, IsConvolution, Plan, UnitOfPlan, thinned_mean, IsCertPlan, Factor, One, Start, Times, Label, together, no_unit, low_start, high_start, IsExactStart, Made, target, unit_parts, All-nil, text_of, line_of, CanBeWritten, IsWritten, IsMade, EndsWith, often, first_of, IsSum, IsBefore}
use Rattle.dl_cert.proofs.Tests.{start_is}
use Rattle.dl_cert.proofs.WrittenSteps.{exact_step, made_kept}

-- ---- labels

pub often_le : (u n : ℕ) (most : Label) → n ≤ most u → (i : ℕ) → often u n i ≤ most i
often_le u n most h i = grind (arith, nat_tests)

pub often_both : (u m n k : ℕ) → m + n ≡ k → (i : ℕ) → often u m i + often u n i ≡ often u k i
often_both u m n k e i = grind (arith, nat_tests)

pub both_le : (u m n k : ℕ) (most : Label) → m + n ≡ k → k ≤ most u → (i : ℕ) → often u m i + often u n i ≤ most i
both_le u m n k most e h i = omega (arith, often_both u m n k e i, often_le u k most h i)

module _ {plan : Plan} where
  -- ---- what was written before, and what came later

  pub joined : {text : List ℕ} {count : ℕ} {made : List Made} (later : List Made) {k : ℕ} {cells : List (Iv 56)} {x y : Label}
      → EndsWith plan text count (made ++ later) k cells x → ((i : ℕ) → x i ≡ y i)
      → EndsWith plan text count made k cells y
  joined {text} {count} {made} later {k} {cells} e same = subst (EndsWith plan text count made k cells) (fun_ext same) (record {
    later = later ++ e.later;
    written = rw (← append_assoc made later e.later) e.written;
    step = rw (← append_assoc made later e.later) e.step;
    last = rw (← append_assoc made later e.later) e.last;
  })

  -- the same label, written otherwise
  pub renamed : {text : List ℕ} {count : ℕ} {made : List Made} {k : ℕ} {cells : List (Iv 56)} {x y : Label}
      → EndsWith plan text count made k cells x → ((i : ℕ) → x i ≡ y i) → EndsWith plan text count made k cells y
  renamed {text} {count} {made} {k} {cells} e same = subst (EndsWith plan text count made k cells) (fun_ext same) e

  pub already : {text : List ℕ} {count : ℕ} {made : List Made} {k : ℕ} {cells : List (Iv 56)} {x : Label}
      → IsWritten plan text count made → IsMade made k cells x → suc k ≡ length made
      → EndsWith plan text count made k cells x
  already {made = made} w m last = record {
    later = [];
    written = rw (append-nil made) w;
    step = rw (append-nil made) m;
    last = rw (append-nil made) last;
  }

  -- ---- a step of each kind

  pub times_step : {text text' : List ℕ} {count count' : ℕ} {made : List Made} {a b : ℕ} {A B : List (Iv 56)}
      (g : List (Iv 56)) {x y : Label} → IsWritten plan text count made → count < 10 ^ 9
      → text' ≡ text ++ (line_of (record { kind = Times a b; cells = g }) ++ (10 ∷ [])) → count' ≡ count + 1
      → IsMade made a A x → IsMade made b B y → ((i : ℕ) → x i + y i ≤ target plan i)
      → IsConvolution plan.cells A B g → IsGrid g → length g ≡ plan.cells
      → EndsWith plan text' count' made count g (together x y)
  times_step {a = a} {b} g {x} {y} w few is more m n within conv grid long =
      exact_step (Times a b) g (together x y) w is more
      (omega (arith, m.there, w.many, few), omega (arith, n.there, w.many, few)) (m.there, n.there) grid long
      (λ i. ap₂ (λ s t. s + t) (m.label_is i) (n.label_is i)) within
      (record {
        low = λ z inside. rw (m.same, n.same) (conv.low z inside);
        high = λ z inside. rw (m.same, n.same) (conv.high z inside);
      })

  pub start_step : {text text' : List ℕ} {count count' : ℕ} {made : List Made} (u : ℕ) {unit : UnitOfPlan} (g : List (Iv 56))
      → IsWritten plan text count made → u < length plan.units → u < 10 ^ 9 → unit ≡ get_or plan.units u unit
      → text' ≡ text ++ (line_of (record { kind = Start u; cells = g }) ++ (10 ∷ [])) → count' ≡ count + 1
      → IsExactStart unit.freq unit.sev (thinned_mean unit) g → IsGrid g → length g ≡ plan.cells
      → 1 ≤ target plan u → EndsWith plan text' count' made count g (often u 1)
  start_step u {unit} g w inside few here is more exact grid long counted =
      exact_step (Start u) g (often u 1) w is more few inside grid long (λ i. refl) (often_le u 1 (target plan) counted)
      (record {
        low = λ y below. exact.low y (omega (arith, below, long))
            ∙ start_is plan.units u unit inside here (λ z. low_start z.freq z.sev (thinned_mean z) (low_at g) y);
        high = λ y below. exact.high y (omega (arith, below, long))
            ∙ start_is plan.units u unit inside here (λ z. high_start z.freq z.sev (thinned_mean z) (high_at g) y);
      })

  pub one_step : {text text' : List ℕ} {count count' : ℕ} {made : List Made} (g : List (Iv 56)) → IsWritten plan text count made
      → text' ≡ text ++ (line_of (record { kind = One; cells = g }) ++ (10 ∷ [])) → count' ≡ count + 1
      → ((y : ℕ) → low_at g y ≡ all_at_zero (2 ^ 56) y) → ((y : ℕ) → high_at g y ≡ all_at_zero (2 ^ 56) y)
      → IsGrid g → length g ≡ plan.cells → EndsWith plan text' count' made count g no_unit
  one_step g w is more low high grid long =
      exact_step One g no_unit w is more tt tt grid long (λ i. refl)
      (λ i. omega arith) (record { low = λ y inside. low y; high = λ y inside. high y })

-- ---- binary digits

-- one digit fewer
pub digit_fewer : (n k : ℕ) → 2 ≤ n → n < 2 ^ k → (j : ℕ) × (k ≡ suc j) × (n / 2 < 2 ^ j)
digit_fewer n zero some h = absurd (omega (arith, some, h))
digit_fewer n (suc j) some h = (j, refl, half_below n (2 ^ j) (omega (arith, h, pow-suc 2 j)))
  where
    half_below : (m p : ℕ) → m < 2 * p → m / 2 < p
    half_below m p below = omega (arith, below)

-- a plan with few cells has a grid at the finer scale
pub cert_size : (plan : Plan) → IsCertPlan plan → IsGridSize 56 plan.cells
unfolding most_cells_at
cert_size plan h = record {
  scale_above = omega arith;
  scale_below = omega arith;
  some = rw h.valid.cells.3 (pow_pos h.valid.cells.0);
  few = omega (arith, h.few);
}

-- ---- sums of units

pub none_first : (plan : Plan) (u : ℕ) → ((i : ℕ) → i < u → target plan i ≡ 0) → (i : ℕ) → 0 ≡ first_of plan u i
none_first plan u none i = grind (arith, nat_tests, none)

-- one unit more
pub first_more : (plan : Plan) (u i : ℕ) → first_of plan u i + often u (target plan u) i ≡ first_of plan (u + 1) i
first_more plan u i = grind (arith, nat_tests)

pub first_le : (plan : Plan) (u i : ℕ) → first_of plan u i ≤ target plan i
first_le plan u i = grind (arith, nat_tests)

-- a unit that does not count
pub first_same : (plan : Plan) (u i : ℕ) → target plan u ≡ 0 → first_of plan u i ≡ first_of plan (u + 1) i
first_same plan u i none = omega (arith, first_more plan u i, often_le u (target plan u) (λ j. 0) (omega (arith, none)) i)

-- all units
pub first_all : (plan : Plan) (i : ℕ) → first_of plan (length plan.units) i ≡ target plan i
first_all plan i = elim (cases_lt i (length plan.units)) [
  | inl before ↦ rw (lt-ltb i (length plan.units) before) refl
  | inr after ↦ rw (le-ltb i (length plan.units) after)
      (sym (get_or_past (map unit_parts plan.units) i 0 (omega (arith, length-map plan.units unit_parts, after))))
]

module _ (plan : Plan) (u : ℕ) where
  -- the sum of the units before, and the power of this unit, added up
  pub sum_more : (text text1 : List ℕ) {text2 : List ℕ} (count count1 : ℕ) {count2 : ℕ} (sum : Option Factor) (p f : Factor)
      → IsSum plan u text count sum
      → ((made : List Made) → IsWritten plan text count made
      → EndsWith plan text1 count1 made p.step p.grid (often u (target plan u)))
      → ((made : List Made) → IsWritten plan text1 count1 made → IsMade made p.step p.grid (often u (target plan u))
      → suc p.step ≡ length made → IsBefore plan u made sum
      → EndsWith plan text2 count2 made f.step f.grid (first_of plan (u + 1)))
      → EndsWith plan text2 count2 [] f.step f.grid (first_of plan (u + 1))
  sum_more text text1 count count1 None p f s power all =
      let e = power [] s.0 in
      joined e.later (all e.later e.written e.step e.last s.1) (λ i. refl)
  sum_more text text1 count count1 (Some b) p f s power all =
      let e = power s.later s.written in
      joined (s.later ++ e.later)
      (all (s.later ++ e.later) e.written e.step e.last (made_kept e.later s.step)) (λ i. refl)

  -- a unit that does not count changes nothing
  pub sum_same : (text : List ℕ) (count : ℕ) (sum : Option Factor) → target plan u ≡ 0
      → IsSum plan u text count sum → IsSum plan (u + 1) text count sum
  sum_same text count None none s = (s.0, more_below (λ i. target plan i ≡ 0) u s.1 none)
  sum_same text count (Some b) none s = joined s.later (already s.written s.step s.last) (λ i. first_same plan u i none)

-- no step yet
pub nothing_written : (plan : Plan) {text : List ℕ} {count : ℕ} → text ≡ [] → count ≡ 0 → IsSum plan 0 text count None
unfolding text_of
nothing_written plan empty none = (
  record {
    steps = [];
    lines = empty;
    can_be = All-nil (CanBeWritten plan);
    pass = tt;
    exact = tt;
    makes = refl;
    many = sym none;
  },
  λ i h. absurd (omega (arith, h)),
)
