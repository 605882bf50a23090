-- Sums of units that have none in common: two of them are added up, and the sum goes in their place.
use Rattle.dl_totals.proofs.Common.{◌≡◌, ℕ, ◌+◌, ◌<◌, ◌≤◌, List, [], ◌∷◌, ◌++◌, length, get_or, Some, arith, refl, sym, ap, subst, subst₂, ◌∙◌, remove, IsSumOfPart, IsConvolution, Iv, cases_lt, lt-ltb, le-ltb, get_or_append_left, get_or_default, get_or-append_seam, get_or-remove_below, get_or-remove_above, length-remove, sum_by-append, sum_by-cons, sum_by-remove, length-append, chosen, passed, in_some, no_choice, AreApart, AreSumsOfChosen, KeepsChosen}
use Rattle.std.proofs.Common.{Bool, true, false, cond, ◌||◌, ◌&&◌, nat_lt, inl, inr}
use Rattle.std.specs.List.{All}
use mathlib.Core.Path.{fun_ext}
use Rattle.dl_totals.proofs.Chosen.{both_chosen, Apart}

-- what one test counts at a place
abbrev pub counts : ℕ → (ℕ → Bool) → ℕ
counts i p = cond (p i) 1 0

-- the grid encloses the sum of the units that a test picks
abbrev pub Encloses : {B : ℕ} → ℕ → List (List (Iv B)) → (ℕ → Bool) → List (Iv B) → Type 0
Encloses k grids p g = IsSumOfPart k grids (λ us. chosen us p) (Some g)

module _ {B : ℕ} (k : ℕ) (grids : List (List (Iv B))) where
  pub removed : (sums : List (List (Iv B))) (tests : List (ℕ → Bool)) (j : ℕ) → j < length sums
      → AreSumsOfChosen k grids sums tests → AreSumsOfChosen k grids (remove sums j) (remove tests j)
  removed sums tests j inside are = record {
    as_many = omega (
      arith,
      are.as_many,
      length-remove sums j inside,
      length-remove tests j (omega (arith, inside, are.as_many)),
    );
    each = λ i h. elim (cases_lt i j) [
      | inl below ↦ subst₂ (λ p g. Encloses k grids p g)
          (sym (get_or-remove_below tests j no_choice i below (omega (arith, inside, are.as_many))))
          (sym (get_or-remove_below sums j [] i below inside))
          (are.each i (omega (arith, below, inside)))
      | inr above ↦ subst₂ (λ p g. Encloses k grids p g)
          (sym (get_or-remove_above tests j no_choice i above (omega (arith, inside, are.as_many))))
          (sym (get_or-remove_above sums j [] i above inside))
          (are.each (i + 1) (omega (arith, h, length-remove sums j inside)))
    ];
  }

  pub appended : (sums : List (List (Iv B))) (tests : List (ℕ → Bool)) (g : List (Iv B)) (p : ℕ → Bool)
      → AreSumsOfChosen k grids sums tests → Encloses k grids p g
      → AreSumsOfChosen k grids (sums ++ g ∷ []) (tests ++ p ∷ [])
  appended sums tests g p are new = record {
    as_many = omega (arith, are.as_many, length-append sums (g ∷ []), length-append tests (p ∷ []));
    each = λ i h. elim (cases_lt i (length sums)) [
      | inl before ↦ subst₂ (λ q f. Encloses k grids q f)
          (sym (get_or_append_left tests (p ∷ []) no_choice i (omega (arith, before, are.as_many))))
          (sym (get_or_append_left sums (g ∷ []) [] i before)) (are.each i before)
      | inr after ↦
          let last : i ≡ length sums = omega (arith, h, after, length-append sums (g ∷ [])) in
          subst₂ (λ q f. Encloses k grids q f)
          (sym (ap (λ m. get_or (tests ++ p ∷ []) m no_choice) (last ∙ sym are.as_many)
          ∙ get_or-append_seam tests p [] no_choice))
          (sym (ap (λ m. get_or (sums ++ g ∷ []) m []) last ∙ get_or-append_seam sums g [] [])) new
    ];
  }

pub passed_more : (tests : List (ℕ → Bool)) (p : ℕ → Bool) (i : ℕ) → passed (tests ++ p ∷ []) i ≡ passed tests i + counts i p
passed_more tests p i = omega (
  arith,
  sum_by-append (counts i) tests (p ∷ []),
  sum_by-cons (counts i) p [],
)

pub passed_less : (tests : List (ℕ → Bool)) (j i : ℕ) → j < length tests
    → passed (remove tests j) i + counts i (get_or tests j no_choice) ≡ passed tests i
passed_less tests j i inside = sum_by-remove (counts i) tests j no_choice inside

pub not_both : (b d : Bool) → cond b 1 0 + cond d 1 0 ≤ 1 → (b && d) ≡ false
not_both true true h = absurd (omega (arith, h))
not_both true false h = refl
not_both false d h = refl

pub either : (b d : Bool) → (b && d) ≡ false → cond (b || d) 1 0 ≡ cond b 1 0 + cond d 1 0
either true true e = absurd (cc)
either true false e = refl
either false true e = refl
either false false e = refl

-- two tests are taken out, and one for both put behind
abbrev pub first : List (ℕ → Bool) → ℕ → ℕ → Bool
first tests a = get_or tests a no_choice

abbrev pub second : List (ℕ → Bool) → ℕ → ℕ → ℕ → Bool
second tests a b = get_or (remove tests a) b no_choice

abbrev pub joint : List (ℕ → Bool) → ℕ → ℕ → List (ℕ → Bool)
joint tests a b = remove (remove tests a) b ++ (λ i. first tests a i || second tests a b i) ∷ []

module _ (tests : List (ℕ → Bool)) (a b : ℕ) (in_a : a < length tests) (in_b : b < length (remove tests a))
    (apart : AreApart tests) where
  pub two_apart : Apart (first tests a) (second tests a b)
  two_apart i = not_both (first tests a i) (second tests a b i) (omega (
    arith,
    apart i,
    passed_less tests a i in_a,
    passed_less (remove tests a) b i in_b,
  ))

  pub same_passed : (i : ℕ) → passed (joint tests a b) i ≡ passed tests i
  same_passed i = omega (
    arith,
    passed_more (remove (remove tests a) b) (λ j. first tests a j || second tests a b j) i,
    either (first tests a i) (second tests a b i) (two_apart i),
    passed_less tests a i in_a,
    passed_less (remove tests a) b i in_b,
  )

-- one sum alone
pub in_one : (p : ℕ → Bool) → in_some (p ∷ []) ≡ p
in_one p = fun_ext (λ i. ap (nat_lt 0) (sum_by-cons (counts i) p []) ∙ test (p i))
  where
    test : (b : Bool) → nat_lt 0 (cond b 1 0 + 0) ≡ b
    test true = lt-ltb 0 1 (omega arith)
    test false = le-ltb 0 0 (omega arith)

-- ---- one step

pub all_removed : {X : Type 0} (P : X → Type 0) (xs : List X) (j : ℕ) → j < length xs → All P xs → All P (remove xs j)
all_removed P xs j inside all i d h = elim (cases_lt i j) [
  | inl below ↦ subst P (sym (get_or-remove_below xs j d i below inside)) (all i d (omega (arith, below, inside)))
  | inr above ↦ subst P (sym (get_or-remove_above xs j d i above inside))
      (all (i + 1) d (omega (arith, h, length-remove xs j inside)))
]

module _ {B : ℕ} (k : ℕ) (grids : List (List (Iv B))) where
  -- the grid at a place
  at_index : (sums : List (List (Iv B))) (tests : List (ℕ → Bool)) (j : ℕ) (f : List (Iv B)) → j < length sums
      → f ≡ get_or sums j f → AreSumsOfChosen k grids sums tests → Encloses k grids (get_or tests j no_choice) f
  at_index sums tests j f inside is are =
      subst (Encloses k grids (get_or tests j no_choice)) (get_or_default sums j [] f inside ∙ sym is) (are.each j inside)

  pub only : (sums : List (List (Iv B))) (tests : List (ℕ → Bool)) (f : List (Iv B)) → length sums ≡ 1
      → f ≡ get_or sums 0 f → KeepsChosen k grids sums tests → Encloses k grids (in_some tests) f
  only sums tests f one is keeps = alone keeps.now (omega (arith, one, keeps.are.as_many)) keeps.same
      (at_index sums keeps.now 0 f (omega (arith, one)) is keeps.are)
    where
      alone : (now : List (ℕ → Bool)) → length now ≡ 1 → ((i : ℕ) → passed now i ≡ passed tests i)
          → Encloses k grids (get_or now 0 no_choice) f → Encloses k grids (in_some tests) f
      alone [] e same h = absurd (omega (arith, e))
      alone (p ∷ []) e same h =
          subst (λ q. Encloses k grids q f) (sym (in_one p) ∙ fun_ext (λ i. ap (nat_lt 0) (same i))) h
      alone (p ∷ q ∷ now) e same h = absurd (omega (arith, e))

  pub sum_of_two : (sums : List (List (Iv B))) (tests : List (ℕ → Bool)) (a b : ℕ) (f s g : List (Iv B)) → a < length sums
      → b < length (remove sums a) → f ≡ get_or sums a f → s ≡ get_or (remove sums a) b s
      → All (λ h. length h ≡ k) sums → length g ≡ k → IsConvolution k f s g
      → AreSumsOfChosen k grids sums tests → AreApart tests
      → KeepsChosen k grids (remove (remove sums a) b ++ g ∷ []) tests
  sum_of_two sums tests a b f s g in_a in_b is_f is_s long cells conv are apart =
      let less = removed k grids sums tests a in_a are in
      let a' : a < length tests = omega (arith, in_a, are.as_many) in
      let b' : b < length (remove tests a) = omega (arith, in_b, less.as_many) in
      record {
        now = joint tests a b;
        same = same_passed tests a b a' b' apart;
        are = appended k grids (remove (remove sums a) b) (remove (remove tests a) b) g
            (λ i. first tests a i || second tests a b i)
            (removed k grids (remove sums a) (remove tests a) b in_b less)
            (both_chosen k grids f s g (first tests a) (second tests a b)
            (two_apart tests a b a' b' apart)
            (at_index sums tests a f in_a is_f are).encloses
            (at_index (remove sums a) (remove tests a) b s in_b is_s less).encloses
            (at_least f (subst (λ h. length h ≡ k) (sym is_f) (long a f in_a)))
            (at_least s (subst (λ h. length h ≡ k) (sym is_s) (all_removed (λ h. length h ≡ k) sums a in_a long b s in_b)))
            cells conv);
      }
    where
      at_least : (h : List (Iv B)) → length h ≡ k → k ≤ length h
      at_least h e = omega (arith, e)

pub keeps_next : {B : ℕ} (k : ℕ) (grids old new : List (List (Iv B))) (tests : List (ℕ → Bool))
    → KeepsChosen k grids old tests
    → ((now : List (ℕ → Bool)) → AreSumsOfChosen k grids old now → AreApart now → KeepsChosen k grids new now)
    → AreApart tests → KeepsChosen k grids new tests
keeps_next k grids old new tests keeps step apart =
    let next = step keeps.now keeps.are (λ i. omega (arith, keeps.same i, apart i)) in
    record { now = next.now; are = next.are; same = λ i. next.same i ∙ keeps.same i }
