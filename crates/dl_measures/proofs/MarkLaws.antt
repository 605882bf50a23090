-- The laws of running sums and of their marks.
use Rattle.dl_measures.proofs.Common.{ℕ, zero, suc, ◌≡◌, ◌+◌, ◌-◌, ◌*◌, ◌^◌, ◌<◌, ◌≤◌, List, length, get_or, arith, refl, sym, ap, subst, subst₂, ◌∙◌, cases_lt, inl, inr, add-zero, min, Iv, IsGrid, one_fits, scale_of, size_of, count_below, below_nothing, below_more, below_bound, below_grows, mul-le-mul, mul-le-mul_right, below_same, size_few, get_or_append_left, length-append, get_or-append_seam, Mark, AreFew, AreMarks, IsMark, IsRunningOf, end_at}
use Rattle.std.specs.Prelude.{[], ◌∷◌, ◌++◌, All}

-- ---- one mark

pub no_ends : (one : ℕ) (f : ℕ → ℕ) → IsMark one f 0 (record { sum = 0; rest = 0 })
no_ends one f = record { sum = sym (below_nothing f); rest = sym (below_nothing _) }

-- the sums of a mark fit, and so do those of one end more
module _ {one : ℕ} {ends : List ℕ} (few : AreFew one ends) (n : ℕ) (inside : n ≤ length ends) where
  pub sum_fits : count_below n (end_at ends) ≤ 2 ^ 76
  sum_fits = omega (arith, few.few, below_bound n (2 ^ 56) (end_at ends) (λ i h. few.small i 0 (omega arith)))

  pub rest_fits : count_below n (λ x. one - count_below (suc x) (end_at ends)) ≤ 2 ^ 76
  rest_fits = omega (
    arith,
    few.few,
    below_bound n (2 ^ 56) (λ x. one - count_below (suc x) (end_at ends))
        (λ i h. omega (arith, few.unit)),
  )

pub one_end_more : (one : ℕ) (f : ℕ → ℕ) (n sum rest : ℕ) → sum ≡ count_below n f
    → rest ≡ count_below n (λ x. one - count_below (suc x) f)
    → rest + (one - (sum + f n)) ≡ count_below (n + 1) (λ x. one - count_below (suc x) f)
unfolding count_below
one_end_more one f n sum rest s r = rw (s, r, below_more n (λ x. one - count_below (suc x) f)) refl

pub next_end : (ends : List ℕ) (n sum : ℕ) → sum ≡ count_below n (end_at ends)
    → sum + get_or ends n 0 ≡ count_below (suc n) (end_at ends)
unfolding count_below
next_end ends n sum is = rw is refl

-- ---- lists of marks

pub no_marks : (one : ℕ) (ends : List ℕ) → AreMarks one ends []
no_marks one ends = record { within = omega arith; each = λ m d h. absurd (omega arith) }

pub marks_more : {one : ℕ} {ends : List ℕ} {marks : List Mark} (mark : Mark) → AreMarks one ends marks
    → (length marks + 1) * 64 ≤ length ends → IsMark one (end_at ends) ((length marks + 1) * 64) mark
    → AreMarks one ends (marks ++ mark ∷ [])
marks_more {one} {ends} {marks} mark are within is = record {
  within = omega (arith, length-append marks (mark ∷ []));
  each = λ m d h. elim (cases_lt m (length marks)) [
    | inl before ↦ rw (get_or_append_left marks (mark ∷ []) d m before) (are.each m d before)
    | inr last ↦
        let here : length marks ≡ m = omega (arith, length-append marks (mark ∷ [])) in
        subst (λ m. IsMark one (end_at ends) ((m + 1) * 64) (get_or (marks ++ mark ∷ []) m d)) here
        (rw (get_or-append_seam marks mark [] d) is)
  ];
}

-- ---- their differences

pub sum_after : (a l : ℕ) (f : ℕ → ℕ) → count_below (a + l) f ≡ count_below a f + count_below l (λ i. f (a + i))
unfolding count_below
sum_after a zero f = omega (arith, ap (λ k. count_below k f) (add-zero a))
sum_after a (suc l) f =
    let next : a + suc l ≡ suc (a + l) = omega arith in
    let sum : count_below (a + suc l) f ≡ count_below (a + l) f + f (a + l) = ap (λ k. count_below k f) next in
    omega (arith, sum_after a l f)

pub sum_between : (a b : ℕ) (f : ℕ → ℕ) → a ≤ b
    → count_below b f ≡ count_below a f + count_below (b - a) (λ i. f (a + i))
sum_between a b f order =
    let whole : a + (b - a) ≡ b = omega arith in ap (λ k. count_below k f) (sym whole) ∙ sum_after a (b - a) f

-- ---- a search for a goal

-- where the sum below n does not reach it, none before does
pub none_before : (f : ℕ → ℕ) (den goal n x : ℕ) → count_below n f * den < goal → x < n
    → count_below (suc x) f * den < goal
none_before f den goal n x short before =
    omega (arith, mul-le-mul_right den (below_grows (suc x) n f (omega arith)))

-- one more place is before
pub one_more_before : (P : ℕ → Type 0) (n : ℕ) → ((x : ℕ) → x < n → P x) → P n → (x : ℕ) → x < n + 1 → P x
one_more_before P n before here x h = elim (cases_lt x n) [
  | inl less ↦ before x less
  | inr last ↦ let is : n ≡ x = omega arith in subst P is here
]

-- a sum taken `den` times fits
pub times_fits : {one : ℕ} {ends : List ℕ} (few : AreFew one ends) (n sum den : ℕ) → n ≤ length ends
    → sum ≡ count_below n (end_at ends) → den ≤ 1000000000 → sum * den ≤ 2 ^ 76 * 1000000000
times_fits few n sum den inside is small =
    let fits : sum ≤ 2 ^ 76 = omega (arith, is, sum_fits few n inside) in mul-le-mul fits small

-- ---- the ends of a grid

pub few_ends : {B unit : ℕ} {ends : List ℕ} (cells : List (Iv B)) → IsGrid cells → unit ≡ 2 ^ B
    → length ends ≡ length cells → All (λ end. end ≤ 2 ^ 56) ends → AreFew unit ends
few_ends {B} cells grid units long small = record {
  few = omega (arith, long, size_few (size_of cells grid));
  small = small;
  unit = omega (arith, units, one_fits B (scale_of cells grid.some).1);
}

module _ {one n unit : ℕ} {f : ℕ → ℕ} {ends : List ℕ} {marks : List Mark} (of : IsRunningOf one f n unit ends marks) where
  pub mark_of : (x : ℕ) {mark : Mark} → IsMark unit (end_at ends) x mark → IsMark one f x mark
  mark_of x {mark} is = subst₂ (λ one f. IsMark one f x mark) of.units of.each is

  pub layer_of : (first last limit sum : ℕ) → first + limit ≡ last
      → sum ≡ count_below (last - first) (λ i. unit - count_below (suc (first + i)) (end_at ends))
      → sum ≡ count_below limit (λ i. one - count_below (suc (first + i)) f)
  layer_of first last limit sum whole is =
      let long : last - first ≡ limit = omega arith in
      is ∙ subst₂ (λ one f. count_below (last - first) (λ i. unit - count_below (suc (first + i)) (end_at ends))
      ≡ count_below limit (λ i. one - count_below (suc (first + i)) f)) of.units of.each
      (ap (λ n. count_below n (λ i. unit - count_below (suc (first + i)) (end_at ends))) long)

-- what is left is the same of the lesser of the whole and the sum
pub lesser_rests : (one limit : ℕ) (f : ℕ → ℕ) → count_below limit (λ i. one - f i)
    ≡ count_below limit (λ i. one - min one (f i))
lesser_rests one limit f = below_same limit _ _ (λ i h. omega arith)
