-- Grids of blocks: their two lists are ends of a grid, between which what the counts come to lies.
use Rattle.dl_claims.proofs.Common.{ℕ, suc, ◌≡◌, ◌+◌, ◌-◌, ◌*◌, ◌/◌, ◌^◌, ◌<◌, ◌≤◌, List, [], length, get_or, arith, refl, sym, ap, inl, inr, ◌∙◌, All, cases_lt, times_nothing, min, div_ceil, div-mul-le_self, le_of_mul-le-mul_right, mul-le-mul_left, pow_pos, div_ceil_times, Fraction, ◌over◌, Iv, low_at, high_at, AreEnds, IsGridSize, low_le_high, count_below, below_le, cell_from, IsWithinOne, probability_at, probability_is, Item, weight_at, weight_sum, LieBetween, Between, ArePowers, mixture_end, low_ends, high_ends, low_at_ends, high_at_ends, get_or_past, zero-div, below_none}
use Rattle.dl_claims.proofs.Ends.{low_past, high_past, nothing_over_up}
use Rattle.dl_claims.proofs.WeightLists.{probabilities_within}
use Rattle.dl_claims.proofs.HornerSteps.{from_within_one}
use Rattle.dl_claims.proofs.EndLists.{mixture_end_is, made_ends}
use Rattle.dl_claims.proofs.BlockEnds.{mass_within, cells_within_one, mixed_between}

-- a grid made from two lists
pub as_made : {B : ℕ} (g : List (Iv B)) (lows highs : List ℕ) (K : ℕ) (c : ℕ → Fraction) → low_ends g ≡ lows
    → high_ends g ≡ highs
    → LieBetween (2 ^ B) K (λ x. get_or lows x 0) (λ x. get_or highs x 0) c → Between K g c
as_made {B} g lows highs K c e h between = record {
  low = λ s inside. rw (← low_at_ends g s, e) (between.low s inside);
  high = λ s inside. rw (← high_at_ends g s, h) (between.high s inside);
}

floor_ceiling : (S low high total : ℕ) → 0 < total → low ≤ high → min S (low / total) ≤ min S (div_ceil high total)
floor_ceiling S low high total pos order =
    let between : low / total ≤ div_ceil high total =
    le_of_mul-le-mul_right {k = total}
    (omega (arith, div-mul-le_self low total, order, (div_ceil_times high total pos).0)) pos in
    omega (arith, between)

mixture_end_order : {B : ℕ} (weights : List ℕ) (grids : List (List (Iv B))) (x : ℕ) → length weights ≡ length grids
    → mixture_end weights grids (λ t. low_at t x) ≤ mixture_end weights grids (λ t. high_at t x)
mixture_end_order weights grids x e =
    omega (
      arith,
      mixture_end_is weights grids (λ t. low_at t x) e,
      mixture_end_is weights grids (λ t. high_at t x) e,
      below_le (length grids) (λ i. get_or weights i 0 * low_at (get_or grids i []) x)
          (λ i. get_or weights i 0 * high_at (get_or grids i []) x)
          (λ i b. mul-le-mul_left (get_or weights i 0) (low_le_high (get_or grids i []) x)),
    )

-- past the ends of all grids there is nothing
mixture_past : {B : ℕ} (weights : List ℕ) (grids : List (List (Iv B))) (end : List (Iv B) → ℕ) → length weights ≡ length grids
    → All (λ g. end g ≡ 0) grids → mixture_end weights grids end ≡ 0
mixture_past weights grids end e none =
    mixture_end_is weights grids end e
    ∙ below_none (length grids) (λ i. get_or weights i 0 * end (get_or grids i []))
    (λ i b. times_nothing (get_or weights i 0) (end (get_or grids i [])) (none i [] b))

-- so the rounded sums of a list that is as long as the longest grid are those of every place
at_all_places : {B : ℕ} (weights list : List ℕ) (grids : List (List (Iv B))) (long : ℕ) (end : List (Iv B) → ℕ → ℕ)
    (round : ℕ → ℕ) → length weights ≡ length grids → length list ≡ long → All (λ g. length g ≤ long) grids
    → ((g : List (Iv B)) (x : ℕ) → length g ≤ x → end g x ≡ 0) → round 0 ≡ 0
    → ((x : ℕ) → x < long → get_or list x 0 ≡ round (mixture_end weights grids (λ g. end g x)))
    → (x : ℕ) → get_or list x 0 ≡ round (mixture_end weights grids (λ g. end g x))
at_all_places weights list grids long end round e many few past none each x = elim (cases_lt x long) [
  | inl inside ↦ each x inside
  | inr far ↦ get_or_past list x 0 (omega arith)
      ∙ sym (ap round (mixture_past weights grids (λ g. end g x) e
      (λ i d b. past (get_or grids i d) x (omega (arith, few i d b)))) ∙ none)
]

nothing_over : (S total : ℕ) → min S (0 / total) ≡ 0
nothing_over S total = omega (arith, zero-div total)

-- two lists with the rounded ends of a mixture, at every place
pub record AreMixed {B : ℕ} (weights : List ℕ) (grids : List (List (Iv B))) (total : ℕ) (lows highs : List ℕ) : Type 0 where
  pub low : (x : ℕ) → get_or lows x 0 ≡ min (2 ^ B) (mixture_end weights grids (λ t. low_at t x) / total)
  pub high : (x : ℕ) → get_or highs x 0 ≡ min (2 ^ B) (div_ceil (mixture_end weights grids (λ t. high_at t x)) total)

pub mixed_lists : {B : ℕ} (weights : List ℕ) (grids : List (List (Iv B))) (total : ℕ) (lows highs : List ℕ) (long : ℕ)
    → 0 < total → length weights ≡ length grids → length lows ≡ long → length highs ≡ long
    → All (λ g. length g ≤ long) grids
    → ((x : ℕ) → x < long → get_or lows x 0 ≡ min (2 ^ B) (mixture_end weights grids (λ t. low_at t x) / total))
    → ((x : ℕ) → x < long → get_or highs x 0
    ≡ min (2 ^ B) (div_ceil (mixture_end weights grids (λ t. high_at t x)) total))
    → AreMixed weights grids total lows highs
mixed_lists {B} weights grids total lows highs long there many many_lows many_highs few low high = record {
  low = at_all_places weights lows grids long low_at (λ t. min (2 ^ B) (t / total)) many many_lows few low_past
      (nothing_over (2 ^ B) total) low;
  high = at_all_places weights highs grids long high_at (λ t. min (2 ^ B) (div_ceil t total)) many many_highs few high_past
      (nothing_over_up (2 ^ B) total there) high;
}

module _ {B : ℕ} (powers : List (List (Iv B))) (weights lows highs : List ℕ) (items : List Item) (total first : ℕ)
    (there : 0 < total) (sum : weight_sum items ≡ total) (some : 1 ≤ length powers)
    (many : length weights ≡ length powers)
    (chance : (i : ℕ) → i < length powers → get_or weights i 0 ≡ weight_at items (first + i))
    (mixed : AreMixed weights powers total lows highs) where
  pub mixture_between : (K : ℕ) (f : ℕ → Fraction) → IsWithinOne f → ArePowers K f powers
      → LieBetween (2 ^ B) K (λ x. get_or lows x 0) (λ x. get_or highs x 0)
      (λ s. cell_from (probability_at items) f first s (length powers - 1))
  mixture_between K f q of_f =
      let S : ℕ = 2 ^ B in
      let m : ℕ = length powers - 1 in
      let all : length powers ≡ suc m = omega arith in
      let w : ℕ → Fraction = probability_at items in
      mixed_between S (pow_pos B) total there K m first (λ i. get_or weights i 0) (λ i x. low_at (get_or powers i []) x)
      (λ i x. high_at (get_or powers i []) x)
      (λ x. get_or lows x 0) (λ x. get_or highs x 0) w f
      (λ i b. ap (λ t. t over total) (chance i (omega arith)) ∙ sym (probability_is items total sum (first + i)))
      (λ i b. of_f i (omega arith))
      (λ s. from_within_one w f (probabilities_within items total sum there) q first s m)
      (λ s b. mixed.low s ∙ ap (λ t. min S (t / total)) (mixture_end_is weights powers (λ t. low_at t s) many
      ∙ ap (λ n. count_below n (λ i. get_or weights i 0 * low_at (get_or powers i []) s)) all))
      (λ s b. mixed.high s ∙ ap (λ t. min S (div_ceil t total)) (mixture_end_is weights powers (λ t. high_at t s) many
      ∙ ap (λ n. count_below n (λ i. get_or weights i 0 * high_at (get_or powers i []) s)) all))

  pub mixture_ends : (K L : ℕ) → L ≤ K → IsGridSize B L → length lows ≡ L → length highs ≡ L
      → (f : ℕ → Fraction) → IsWithinOne f → ArePowers K f powers → AreEnds B lows highs
  mixture_ends K L within size many_lows many_highs f q of_f =
      made_ends B L lows highs (λ x. get_or lows x 0) (λ x. get_or highs x 0) size many_lows many_highs
      (λ x b. refl) (λ x b. refl)
      (λ x b. omega (
        arith,
        mixed.low x,
        mixed.high x,
        floor_ceiling (2 ^ B) (mixture_end weights powers (λ t. low_at t x))
            (mixture_end weights powers (λ t. high_at t x)) total there (mixture_end_order weights powers x many),
      ))
      (λ x b. omega (arith, mixed.high x))
      (mass_within (2 ^ B) (pow_pos B) L (λ x. get_or lows x 0)
      (λ s. cell_from (probability_at items) f first s (length powers - 1))
      (cells_within_one (probability_at items) f (probabilities_within items total sum there) q first
      (length powers - 1))
      (λ s b. (mixture_between K f q of_f).low s (omega arith)))
