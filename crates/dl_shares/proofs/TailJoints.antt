-- The joint means of a unit of a plan between two totals, by the high ends of the probabilities there.
use Rattle.dl_shares.proofs.Common.{ℕ, zero, suc, ◌≡◌, ◌+◌, ◌-◌, ◌*◌, ◌<◌, ◌≤◌, arith, add-one, ap, sym, subst, mul-le-mul_right, le_of_mul-le-mul_right, below_grows, below_more, ◌over◌, ◌≤ℚ◌, count_below, Series, AtMost, AtLeast, One, Point, Joint, Plan, declared, at_most_wider, le_ind, sum_to, over_le_over, over_plus, le_over, IsValid, ends_in_order, plan_distribution, at_most_plus, plus}
use Rattle.dl_shares.proofs.JointBounds.{joint_most}
use Rattle.dl_shares.proofs.JointMost.{plan_joint_le}

-- sums of two high ends in the same units
plus_most : (Q R O : Series) (a b c S : ℕ) → 0 < S → AtMost Q O (a over S) → AtMost R O (b over S) → a + b ≤ c
    → AtMost (λ N. plus Q R N) O (c over S)
plus_most Q R O a b c S s q r le = at_most_wider _ O _ _ (at_most_plus Q R O _ _ q r)
    (subst (λ t. t ≤ℚ c over S) (sym (over_plus a b S s)) (over_le_over (a + b) c S s le))

module _ (plan : Plan) (valid : IsValid plan) (i S K : ℕ) (s : 0 < S) (top : ℕ → ℕ)
    (points : (x : ℕ) → x < K → AtMost (declared plan (Point x)) (declared plan One) (top x over S)) where
  abbrev O : Series
  O = declared plan One

  abbrev up_to : ℕ → Series
  up_to q N = sum_to q (λ x. declared plan (Joint i x) N)

  -- the probabilities of the totals above a, up to q
  abbrev between : ℕ → ℕ → ℕ
  between a q = count_below (suc q) top - count_below (suc a) top

  further : (a b q : ℕ) → a ≤ q → suc q < K
      → (b + K * between a q) + suc q * top (suc q) ≤ b + K * between a (suc q)
  further a b q order inside =
      let more : between a (suc q) ≡ between a q + top (suc q) =
      omega (
        arith,
        below_more (suc q) top,
        ap (λ n. count_below n top) (add-one (suc q)),
        below_grows (suc a) (suc q) top (omega arith),
      ) in
      omega (arith, ap (λ t. K * t) more, mul-le-mul_right {m = suc q} {n = K} (top (suc q)) (omega arith))

  sums_most : (a b : ℕ) → AtMost (up_to a) O (b over S) → (q : ℕ) → a ≤ q → q < K
      → AtMost (up_to q) O ((b + K * between a q) over S)
  unfolding sum_to
  sums_most a b first q order = le_ind (λ q. q < K → AtMost (up_to q) O ((b + K * between a q) over S))
      (λ _. at_most_wider (up_to a) O _ _ first (over_le_over b _ S s (omega arith)))
      (λ q after rest inside. plus_most (up_to q) (declared plan (Joint i (suc q))) O _ _ _ S s (rest (omega arith))
      (joint_most (declared plan) (plan_joint_le plan valid) i (suc q) (top (suc q)) S s (points (suc q) inside))
      (further a b q after inside)) q order

  -- so the sum up to hi is not far above that up to lo and the joint mean at hi
  pub sums_near : (lo hi b j l : ℕ) → lo < hi → hi < K → AtMost (up_to lo) O (b over S)
      → AtMost (declared plan (Joint i hi)) O (j over S) → AtLeast (up_to hi) O (l over S)
      → l ≤ b + K * (count_below hi top - count_below (suc lo) top) + j
  unfolding sum_to
  sums_near lo zero b j l less inside first at low = absurd (omega arith)
  sums_near lo (suc q) b j l less inside first at low =
      let d = plan_distribution plan valid in
      let bound = d.bounded One tt in
      let order = ends_in_order O d.rises bound.0 d.positive.0 bound.1 d.positive.1 (up_to (suc q)) _ _ low
      (plus_most (up_to q) (declared plan (Joint i (suc q))) O (b + K * between lo q) j _ S s
      (sums_most lo b first q (omega arith) (omega arith)) at (omega arith)) in
      le_of_mul-le-mul_right {k = S} (le_over l S _ S s s order) s
