-- The sums over the parts: one more part, and bounds.
use Rattle.std.specs.Prelude.{not, nat_le, true, false}
use Rattle.std.proofs.lemmas.Bool.Decides.{nat_tests}
use Rattle.std.proofs.lemmas.List.Sums.{sum_by_more}
use Rattle.std.proofs.Common.{◌%◌}
use Rattle.std.proofs.Math.Nat.{add-mod, add-mod_right, add-mul-mod_self_left, mod-eq_of_lt}
use Rattle.dl_recursion.proofs.Common.{◌≡◌, ◌^◌, ◌∙◌, inl, inr, sym, cases_lt, ℕ, ◌+◌, ◌-◌, ◌*◌, ◌<◌, ◌≤◌, List, length, take, get_or, arith, ap, max, le-max_left, le-max_right, most_cells, mul-le-mul, mul-le-mul_left, mul-le-mul_right, sum_by, Part, HasRoom, HasRoomOver, contribution, leb_tells}

module _ (a b : ℕ) (cells : List ℕ) (s : ℕ) where
  pub contribution_yes : (p : Part) → p.amount ≤ s
      → contribution a b cells s p ≡ (a * (s - p.amount) + b * p.amount) * p.weight * get_or cells (s - p.amount) 0
  contribution_yes p q = grind (arith, leb_tells p.amount s)

  pub contribution_no : (p : Part) → s < p.amount → contribution a b cells s p ≡ 0
  contribution_no p q = grind (arith, leb_tells p.amount s)

-- a part's factor is at most its share of the room
pub factor_most : (a b s j : ℕ) → j ≤ s → a * (s - j) + b * j ≤ max a b * s
factor_most a b s j h =
    let k = s - j in
    let s_is : k + j ≡ s = omega (arith, h) in
    let first : a * k ≤ max a b * k = mul-le-mul_right k (le-max_left a b) in
    let rest : b * j ≤ max a b * j = mul-le-mul_right j (le-max_right a b) in
    omega (arith, first, rest, ap (λ t. max a b * t) s_is)

pub factor_le : (a b s j w : ℕ) → j ≤ s → (a * (s - j) + b * j) * w ≤ max a b * s * w
factor_le a b s j w h = mul-le-mul_right w (factor_most a b s j h)

-- at most this, where the amount is at most top
pub falling_factor : (a b s j top : ℕ) → j ≤ s → j ≤ top → a * (s - j) + b * j ≤ a * s + (b - a) * top
falling_factor a b s j top h l =
    let k = s - j in
    let d = b - a in
    let s_is : k + j ≡ s = omega (arith, h) in
    let most : b * j ≤ (a + d) * j = mul-le-mul_right j (omega arith) in
    omega (arith, most, ap (λ t. a * t) s_is, mul-le-mul_left d l)

pub falling_most : (a b n top : ℕ) → top ≤ n → a * n + (b - a) * top ≤ max a b * n
falling_most a b n top h =
    let most : a + (b - a) ≤ max a b = omega arith in
    omega (arith, mul-le-mul_left (b - a) h, mul-le-mul_right n most)

-- ---- the factor by numbers that wrap round

step_wraps : (a b W : ℕ) → a < W → b < W → (e : ℕ) × (a + (b + (W - a)) % W ≡ b + W * e)
step_wraps a b W p q = elim (cases_lt b a) [
  | inl l ↦ (1, omega (arith, mod-eq_of_lt {n = b + (W - a)} {m = W} (omega (arith, l, p))))
  | inr l ↦
      let sum : b + (W - a) ≡ b - a + W = omega (arith, l, p) in
      let rest : (b - a + W) % W ≡ b - a = add-mod_right (b - a) W ∙ mod-eq_of_lt (omega (arith, q)) in
      (0, omega (arith, ap (λ t. t % W) sum, rest, l))
]

pub wrapped : (a b s j W : ℕ) → j ≤ s → a * (s - j) + b * j < W → a < W → b < W
    → (a * s % W + (b + (W - a)) % W * j % W) % W ≡ a * (s - j) + b * j
wrapped a b s j W h room p q =
    let step = (b + (W - a)) % W in
    let more = step_wraps a b W p q in
    let k = s - j in
    let s_is : k + j ≡ s = omega (arith, h) in
    let total : a * s + step * j ≡ a * k + b * j + W * (more.0 * j) =
    omega (arith, ap (λ t. t * j) more.1, ap (λ t. a * t) s_is) in
    sym (add-mod (a * s) (step * j) W) ∙ ap (λ t. t % W) total
    ∙ add-mul-mod_self_left (a * k + b * j) W (more.0 * j) ∙ mod-eq_of_lt room

pub few_steps : (a n : ℕ) → a < 2 ^ 48 → n ≤ most_cells → a * n < 2 ^ 64
few_steps a n p few =
    omega (arith, mul-le-mul {n₁ = a} {m₁ = n} {n₂ = 2 ^ 48 - 1} {m₂ = 65536} (omega (arith, p)) few)

pub share_room : (k w room : ℕ) → 0 < k → k * w < room → w < room
share_room k w room some h = omega (arith, h, mul-le-mul_right w some)

-- room for all weights is room for a part of them, and for each cell before
pub room_part : {a b w v n : ℕ} → HasRoom a b w n → v ≤ w → HasRoom a b v n
room_part {a} {b} {w} {v} {n} h l =
    record { steps = h.steps; weights = omega (arith, h.weights, mul-le-mul_left (max a b * n) l) }

pub room_before : {q a b w m n : ℕ} → HasRoomOver q a b w n → m ≤ n → HasRoomOver q a b w m
room_before {q} {a} {b} {w} h l =
    let steps = mul-le-mul_left (max a b) l in
    record {
      room = record {
        steps = omega (arith, h.room.steps, steps);
        weights = omega (arith, h.room.weights, mul-le-mul_right w steps);
      };
      divisor = h.divisor;
      divisors = omega (arith, h.divisors, mul-le-mul_left q l);
    }

pub is_within : (x s : ℕ) → not (nat_le x s) ≡ false → x ≤ s
is_within x s h = grind (arith, nat_tests, leb_tells x s)

-- amounts that are added up one by one
module _ (a b s : ℕ) (cells : List ℕ) (parts : List Part) (i : ℕ) (d : Part) (inside : i < length parts) (sum : ℕ)
    (so_far : sum ≡ sum_by (contribution a b cells s) (take i parts)) where
  pub next_none : not (nat_le (get_or parts i d).amount s) ≡ true → sum ≡ sum_by (contribution a b cells s) (take (i + 1) parts)
  next_none above =
      let none : contribution a b cells s (get_or parts i d) ≡ 0 = grind (arith, nat_tests, leb_tells (get_or parts i d).amount s) in
      omega (arith, so_far, none, sum_by_more (contribution a b cells s) parts i d inside)

  pub next_added : (x : ℕ) → x ≡ contribution a b cells s (get_or parts i d)
      → sum + x ≡ sum_by (contribution a b cells s) (take (i + 1) parts)
  next_added x e = omega (arith, so_far, e, sum_by_more (contribution a b cells s) parts i d inside)
