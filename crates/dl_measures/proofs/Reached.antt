-- From the running sums of a grid to the bracket of a quantile.
use Rattle.dl_measures.proofs.Common.{ℕ, suc, ◌≡◌, inl, inr, ◌+◌, ◌*◌, ◌^◌, ◌<◌, ◌≤◌, min, List, length, arith, refl, subst, subst₂, Option, Some, None, mul-le-mul, mul-le-mul_right, pow_pos, cases_lt, Fraction, whole, ◌over◌, ◌≤ℚ◌, ◌<ℚ◌, over_self, over_le, over_lt, le_trans, Iv, low_at, high_at, spread, one_fits, count_below, Loss, AreDeclarable, One, total, GridEncloses, IsQuantile, IsBracketed, AreDeclared, low_cdf, high_cdf, IsTight, below_more, are_units, quantity_bounded, IsFirstAtLeast, IsFirstFound, partial_sums, num_below, min-eq_left, min-eq_right, min-le_right, whole_positive, quantile_inside, Mark, IsRunningOf, end_at}
use Rattle.dl_measures.proofs.FoundBrackets.{bracket, tight, high_rises}
use Rattle.dl_measures.proofs.Sums.{apart}
use Rattle.std.proofs.Math.Nat.{le_refl}

-- ---- a sum of units against the probability

module _ (S c : ℕ) (p : Fraction) (s : 0 < S) where
  short : c * p.den < p.num * S → c over S <ℚ p
  short h = subst (λ t. c over S <ℚ t) (over_self p) (over_lt c S p.num p.den s p.positive h)

  reaches : p.num * S ≤ c * p.den → p ≤ℚ c over S
  reaches h = subst (λ t. t ≤ℚ c over S) (over_self p) (over_le p.num p.den c S p.positive s h)

-- the lesser of the scale and what reaches a probability below 1 reaches it
lesser_reaches : (S c : ℕ) (p : Fraction) → p <ℚ whole 1 → p.num * S ≤ c * p.den → p.num * S ≤ min S c * p.den
lesser_reaches S c p below h = elim (cases_lt S c) [
  | inl l ↦
      let less : S ≤ c = omega arith in
      rw (min-eq_left less) (omega (arith, mul-le-mul_right S (num_below p below)))
  | inr l ↦ rw (min-eq_right l) h
]

-- ---- sums of one cell more

pub more : (f : ℕ → ℕ) (x s t : ℕ) → s ≡ count_below x f → t ≡ f x → s + t ≡ count_below (suc x) f
unfolding count_below
more f x s t e h = omega arith

pub next_sum : (f : ℕ → ℕ) (x s t : ℕ) → s ≡ count_below x f → t ≡ f x → s + t ≡ count_below (x + 1) f
next_sum f x s t e h = omega (arith, below_more x f)

-- ---- what a search in the running sums has found

-- The ends of the distribution at the cells: the running sums, or the lesser of the scale and these.
module _ (B n : ℕ) (f : ℕ → ℕ) (p : Fraction) {den goal : ℕ} (e : den ≡ p.den) (g : goal ≡ p.num * 2 ^ B)
    (end : ℕ → ℕ) (least : (c : ℕ) → end c ≤ c)
    (enough : (c : ℕ) → p.num * 2 ^ B ≤ c * p.den → p.num * 2 ^ B ≤ end c * p.den) where
  found_end : (a : ℕ) → a ≤ n → ((x : ℕ) → x < a → count_below (suc x) f * den < goal)
      → (a < n → goal ≤ count_below (suc a) f * den)
      → IsFirstAtLeast (λ x. end (count_below (suc x) f) over 2 ^ B) p n a
  found_end a within before reached = record {
    within = within;
    before = λ y i. short (2 ^ B) (end (count_below (suc y) f)) p (pow_pos B)
        (omega (arith, rw (e, g) at before y i, mul-le-mul_right p.den (least (count_below (suc y) f))));
    reached = λ i. reaches (2 ^ B) (end (count_below (suc a) f)) p (pow_pos B)
        (enough (count_below (suc a) f) (rw (e, g) at reached i));
  }

module _ {B unit : ℕ} (cells : List (Iv B)) {ends : List ℕ} {marks : List Mark} (p : Fraction) {den goal : ℕ}
    (e : den ≡ p.den) (g : goal ≡ p.num * 2 ^ B) (a : ℕ) (within : a ≤ length ends)
    (before : (x : ℕ) → x < a → count_below (suc x) (end_at ends) * den < goal)
    (reached : a < length ends → goal ≤ count_below (suc a) (end_at ends) * den) where
  pub found_high : IsRunningOf (2 ^ B) (high_at cells) (length cells) unit ends marks → p <ℚ whole 1
      → IsFirstAtLeast (high_cdf (2 ^ B) (high_at cells)) p (length cells) a
  found_high of below = subst₂ (λ f n. IsFirstAtLeast (high_cdf (2 ^ B) f) p n a) of.each of.long
      (found_end B (length ends) (end_at ends) p e g (min (2 ^ B)) (min-le_right (2 ^ B)) (λ c. lesser_reaches (2 ^ B) c p below) a
      within before reached)

  pub found_low : IsRunningOf (2 ^ B) (low_at cells) (length cells) unit ends marks
      → IsFirstAtLeast (low_cdf (2 ^ B) (low_at cells)) p (length cells) a
  found_low of = subst₂ (λ f n. IsFirstAtLeast (low_cdf (2 ^ B) f) p n a) of.each of.long
      (found_end B (length ends) (end_at ends) p e g (λ c. c) le_refl (λ c h. h) a within before reached)

-- ---- what the bracket holds

module _ {B : ℕ} (cells : List (Iv B)) (p : Fraction) (a : ℕ) (b : Option ℕ)
    (first : IsFirstAtLeast (high_cdf (2 ^ B) (high_at cells)) p (length cells) a)
    (found : IsFirstFound (low_cdf (2 ^ B) (low_at cells)) p (length cells) b) where
  there : (x : ℕ) → b ≡ Some x → (x < length cells) × (p ≤ℚ low_cdf (2 ^ B) (low_at cells) x)
  there x is =
      let f : IsFirstFound (low_cdf (2 ^ B) (low_at cells)) p (length cells) (Some x) = rw is at found in
      (f.0, f.1.reached f.0)

  not_yet : (b : Option ℕ) → IsFirstFound (low_cdf (2 ^ B) (low_at cells)) p (length cells) b → (x : ℕ)
      → x < length cells → ((y : ℕ) → b ≡ Some y → x < y) → low_cdf (2 ^ B) (low_at cells) x <ℚ p
  not_yet None f x inside before = f.before x inside
  not_yet (Some h) f x inside before = f.1.before x (before h refl)

  pub is_bracket : (us : List Loss) → AreDeclarable us → GridEncloses cells (total us)
      → IsBracketed (partial_sums us) a b p
  is_bracket us w e = bracket us (2 ^ B) (length cells) (low_at cells) (high_at cells) p a b w (pow_pos B) e first.within
      first.before there

  pub is_tight : (us : List Loss) → AreDeclarable us → GridEncloses cells (total us)
      → IsTight (partial_sums us) (length cells) a b p (spread cells over 2 ^ B)
  is_tight us w e = tight us (2 ^ B) (length cells) (low_at cells) (high_at cells) p a b (spread cells) w (pow_pos B) e
      (λ x from inside. le_trans _ _ _ (first.reached (omega arith))
      (high_rises (2 ^ B) (high_at cells) a x (pow_pos B) from)) (not_yet b found) (λ x i. apart cells (suc x))

  pub is_around : (us : List Loss) (q : ℕ) → AreDeclared us → GridEncloses cells (total us)
      → IsQuantile (partial_sums us) q p → (a ≤ q) × ((x : ℕ) → b ≡ Some x → q ≤ x)
  is_around us q d e is =
      let bound = quantity_bounded us One d tt in
      let some = whole_positive us d in
      quantile_inside us bound.0 p some.0 q a b (are_units us d) bound.1 some.1 is (is_bracket us (are_units us d) e)

-- ---- sizes

pub goal_fits : (p : Fraction) (B num one : ℕ) → B ≤ 56 → p <ℚ whole 1 → p.den ≤ 1000000000 → num ≡ p.num → one ≡ 2 ^ B
    → num * one < 2 ^ 128
goal_fits p B num one scale below small e h =
    let first : num ≤ 1000000000 = omega (arith, num_below p below) in
    let second : one ≤ 2 ^ 56 = omega (arith, one_fits B scale) in
    let most : num * one ≤ 1000000000 * 2 ^ 56 = mul-le-mul first second in
    omega arith
