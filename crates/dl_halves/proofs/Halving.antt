-- What the three products of halves make, as the code has them: lists of elements that stand for numbers.
use Rattle.dl_halves.proofs.Common.{ℕ, zero, suc, ◌≡◌, ◌+◌, ◌-◌, ◌*◌, ◌/◌, ◌%◌, ◌^◌, ◌<◌, ◌≤◌, List, [], ◌∷◌, ◌++◌, length, take, drop, map, arith, refl, sym, ap, ap₂, inl, inr, ◌∙◌, get_or-eq_default, mod-eq_of_lt, pow_pos, cases_lt, length-map, length-take, length-take-le, length-drop, take_all, get_or-take, IsSame, pair_sum, IsHalvable, ◌≢◌, mod-mod, take-map, drop-map, map-append, get_or-drop, get_or_append_left, get_or-append-add}
use Rattle.dl_halves.proofs.Same.{same, same_then, same_times, same_pairs}
use Rattle.dl_halves.proofs.Karatsuba.{item, AreThree, joined}

-- ---- lengths

record IsOnce (n k : ℕ) : Type 0 where
  less : ℕ
  one_less : k ≡ suc less
  half : n / 2 ≡ 32 * 2 ^ less
  even : n ≡ 2 * (n / 2)

once : (n k : ℕ) → n ≡ 32 * 2 ^ k → n ≢ 32 → IsOnce n k
once n zero e other = absurd (other (omega (arith, e)))
once n (suc k) e other =
    let twice : n ≡ 2 * (32 * 2 ^ k) = omega (arith, e) in
    record { less = k; one_less = refl; half = omega (arith, twice); even = omega (arith, twice) }

-- a length that is halved
pub record IsTwice (n : ℕ) : Type 0 where
  pub half : IsHalvable (n / 2)
  pub even : n ≡ 2 * (n / 2)
  pub less : n / 2 < n

pub twice : (n : ℕ) → IsHalvable n → n ≢ 32 → IsTwice n
twice n p other =
    let o = once n p.halvings p.length_is other in
    record {
      half = record { halvings = o.less; few = omega (arith, p.few, o.one_less); length_is = o.half };
      even = o.even;
      less = omega (arith, p.length_is, pow_pos p.halvings);
    }

-- the two halves of a list
pub front_half : {X : Type 0} (h : ℕ) (xs : List X) → length xs ≡ 2 * h → length (take h xs) ≡ h
front_half h xs long = length-take-le h xs (omega arith)

pub back_half : {X : Type 0} (h : ℕ) (xs : List X) → length xs ≡ 2 * h → length (take (length xs - h) (drop h xs)) ≡ h
back_half h xs long =
    let rest = length-drop h xs in
    omega (arith, length-take-le (length xs - h) (drop h xs) (omega arith))

-- ---- products counted

pub three_of : (n k p q r s : ℕ) → n ≡ 32 * 2 ^ k → n ≢ 32 → ((j : ℕ) → n / 2 ≡ 32 * 2 ^ j → q ≤ p + 1024 * 3 ^ j)
    → ((j : ℕ) → n / 2 ≡ 32 * 2 ^ j → r ≤ q + 1024 * 3 ^ j)
    → ((j : ℕ) → n / 2 ≡ 32 * 2 ^ j → s ≤ r + 1024 * 3 ^ j) → s ≤ p + 1024 * 3 ^ k
three_of n k p q r s e other first second third =
    let o = once n k e other in
    let all : 1024 * 3 ^ suc o.less ≡ 3 * (1024 * 3 ^ o.less) = omega arith in
    rw o.one_less (omega (arith, first o.less o.half, second o.less o.half, third o.less o.half, all))

-- ---- values

pub small_remainder : (x y : ℕ) → x < 2 ^ 128 → IsSame x y → x ≡ y % 2 ^ 128
small_remainder x y small e = sym (mod-eq_of_lt small) ∙ e.remainders

same_remainder : (x y : ℕ) → x ≡ y % 2 ^ 128 → IsSame x y
same_remainder x y e = record { remainders = ap (λ t. t % 2 ^ 128) e ∙ mod-mod y (2 ^ 128) }

pub values_small : {X : Type 0} (f : X → ℕ) (xs : List X) (s : ℕ) → ((x : X) → f x < 2 ^ 128)
    → item (map f xs) s < 2 ^ 128
values_small f [] s small = omega arith
values_small f (x ∷ xs) zero small = small x
values_small f (x ∷ xs) (suc s) small = values_small f xs s small

module _ {X : Type 0} (f : X → ℕ) (h : ℕ) (a b low high left right whole middle before after : List X)
    (long_a : length a ≡ 2 * h) (long_b : length b ≡ 2 * h)
    (long_low : length low ≡ 2 * h) (long_high : length high ≡ 2 * h) (long_left : length left ≡ h)
    (long_right : length right ≡ h)
    (p q : ℕ) (p_is : p ≡ h) (q_is : q ≡ h)
    (lows : (s : ℕ) → s < 2 * h → item (map f low) s ≡ pair_sum (map f (take h a)) (map f (take h b)) s % 2 ^ 128)
    (highs : (s : ℕ) → s < 2 * h → item (map f high) s ≡ pair_sum (map f (take (length a - h) (drop h a)))
    (map f (take (length b - h) (drop h b))) s % 2 ^ 128)
    (lefts : (i : ℕ) → i < h → IsSame (item (map f left) i) (item (map f a) i + item (map f a) (p + i)))
    (rights : (i : ℕ) → i < h → IsSame (item (map f right) i) (item (map f b) i + item (map f b) (q + i)))
    (wholes : (s : ℕ) → s < 2 * h → item (map f whole) s ≡ pair_sum (map f left) (map f right) s % 2 ^ 128)
    (off : (t : ℕ) → t < 2 * h → IsSame (item (map f middle) t + (item (map f low) t + item (map f high) t))
    (item (map f whole) t))
    (side : before ≡ low ++ high)
    (added : (t : ℕ) → t < 2 * h → IsSame (item (map f after) (h + t))
    (item (map f before) (h + t) + item (map f middle) t))
    (first : (s : ℕ) → s < h → item (map f after) s ≡ item (map f before) s)
    (last : (s : ℕ) → h + 2 * h ≤ s → item (map f after) s ≡ item (map f before) s) where
  back_whole : (xs : List X) → length xs ≡ 2 * h → take (length xs - h) (drop h xs) ≡ drop h xs
  back_whole xs long = take_all (length xs - h) (drop h xs) (omega (arith, length-drop h xs))

  sum_at : (xs sums : List X) (m : ℕ) → m ≡ h → length xs ≡ 2 * h → length sums ≡ h
      → ((i : ℕ) → i < h → IsSame (item (map f sums) i) (item (map f xs) i + item (map f xs) (m + i)))
      → (i : ℕ) → IsSame (item (map f sums) i) (item (take h (map f xs)) i + item (drop h (map f xs)) i)
  sum_at xs sums m m_is long short given i = elim (cases_lt i h) [
    | inl inside ↦ same_then (given i inside)
        (same _ _ (ap₂ (λ u v. u + v) (sym (get_or-take h (map f xs) i 0 inside))
        (ap (λ k. item (map f xs) (k + i)) m_is ∙ sym (get_or-drop h (map f xs) i 0))))
    | inr past ↦
        let none : item (map f sums) i ≡ 0 = get_or-eq_default (map f sums) 0 {n = i}
        (omega (arith, length-map sums f)) in
        let front : item (take h (map f xs)) i ≡ 0 = get_or-eq_default (take h (map f xs)) 0 {n = i}
        (omega (arith, length-take h (map f xs))) in
        let back : item (drop h (map f xs)) i ≡ 0 = get_or-eq_default (drop h (map f xs)) 0 {n = i}
        (omega (arith, length-drop h (map f xs), length-map xs f)) in
        same _ _ (omega (arith, none, front, back))
  ]

  three : AreThree h (map f a) (map f b) (map f low) (map f high) (map f middle)
  three = record {
    first = λ t inside. same_remainder _ _ (rw (take-map, take-map) (lows t inside));
    second = λ t inside. same_remainder _ _ (rw (drop-map, drop-map, ← back_whole a long_a, ← back_whole b long_b)
        (highs t inside));
    rest = λ t inside. same_then (off t inside) (same_then (same_remainder _ _ (wholes t inside))
        (same_pairs t _ _ (λ i j. same_times (sum_at a left p p_is long_a long_left lefts i)
        (sum_at b right q q_is long_b long_right rights j))));
  }

  left_is : (t : ℕ) → t < 2 * h → item (map f before) t ≡ item (map f low) t
  left_is t inside = rw (side, map-append) (get_or_append_left (map f low) (map f high) 0 t
      (omega (arith, length-map low f)))

  right_is : (t : ℕ) → t < 2 * h → item (map f before) (2 * h + t) ≡ item (map f high) t
  right_is t inside =
      let seam : 2 * h + t ≡ length (map f low) + t = omega (arith, length-map low f) in
      rw (side, map-append, seam) (get_or-append-add (map f low) (map f high) t 0)

  pub halved_value : (s : ℕ) → s < 4 * h → IsSame (item (map f after) s) (pair_sum (map f a) (map f b) s)
  halved_value s inside =
      joined h (map f a) (map f b) (map f low) (map f high) (map f middle) (omega (arith, length-map a f))
      (omega (arith, length-map b f)) three
      (map f before) (map f after) left_is right_is added first last s inside
