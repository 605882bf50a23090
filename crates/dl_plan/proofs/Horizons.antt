-- The horizon of a clause, over the common denominator of its shares.
use Rattle.dl_plan.proofs.Common.{ℕ, refl, ◌≡◌, ◌∙◌, ◌+◌, ◌-◌, ◌*◌, ◌<◌, ◌≤◌, max, fold, List, [], ◌∷◌, Option, Some, None, sym, ap, subst, arith, inl, inr, All, IfSome, div_ceil, cases_lt, All-nil, All-cons, whole, ◌≤ℚ◌, over_le, le_over, CedeLayer, Clause, IsClause, edge_of, edge, last_edge, IsHorizon, kept_parts, parts_in_bucket, le-max_left, le-max_right, eqb_tells, same_num, IsSettled, IsFirstSettled, IsHorizonOf, buckets_behind, horizon}
use Rattle.dl_plan.proofs.Clauses.{bucket_pos, kept_is}
use Rattle.dl_plan.proofs.Apart.{kept_rises}
use Rattle.dl_plan.proofs.Straight.{IsClear, kept_straight}
use Rattle.dl_plan.proofs.Settling.{IsBent, IsSettledAt, IsLeastSettled, line_from, settled_on, settled_before, settled_after}

-- ---- edges

pub attach_le : (limit : Option ℕ) (a : ℕ) → a ≤ edge_of limit a
attach_le None a = omega arith
attach_le (Some l) a = omega arith

from-le : (m : ℕ) (ls : List CedeLayer) → m ≤ fold (λ k l. max k (edge l)) m ls
from-le m [] = omega arith
from-le m (l ∷ ls) = omega (arith, le-max_left m (edge l), from-le (max m (edge l)) ls)

clear_from : (m : ℕ) (ls : List CedeLayer) (x y : ℕ) → fold (λ k l. max k (edge l)) m ls ≤ x → All (IsClear x y) ls
clear_from m [] x y h = All-nil (IsClear x y)
clear_from m (l ∷ ls) x y h =
    let top : edge l ≤ x = omega (arith, le-max_right m (edge l), from-le (max m (edge l)) ls, h) in
    All-cons (IsClear x y) l ls
    (record { attach = inl (omega (arith, attach_le l.limit l.attach, top)); edge = inl top })
    (clear_from (max m (edge l)) ls x y h)

-- past the last edge the map is a straight line
pub kept_bent : (clause : Clause) (c e : ℕ) → IsClause clause → last_edge clause.1 ≤ e
    → IsBent (kept_parts clause c) e (kept_parts clause c (e + 1) - kept_parts clause c e)
kept_bent clause c e accepted h = record {
  rises = λ x n. kept_rises clause c x n accepted;
  line = λ n. (line_from (kept_parts clause c) e (kept_rises clause c e 1 accepted) mean n).0;
}
  where
    mean : (n : ℕ) → kept_parts clause c (e + n) + kept_parts clause c (e + n + 2) ≡ 2 * kept_parts clause c (e + n + 1)
    mean n = kept_straight clause c (e + n) 1 accepted
        (clear_from 1 clause.1 (e + n) (e + n + 2 * 1) (omega (arith, h)))

-- ---- from parts to fractions

-- what is kept of x, in parts of a bucket
abbrev pub parts_of : Clause → ℕ → ℕ
parts_of clause x = kept_parts clause (parts_in_bucket clause) x

module _ (clause : Clause) (h : ℕ) where
  settled_to : (s : ℕ) → IsSettledAt (parts_of clause) (h * parts_in_bucket clause) s → IsSettled clause h s
  settled_to s (inl reached) = inl (subst (λ x. whole h ≤ℚ x) (sym (kept_is clause s))
      (over_le h 1 (parts_of clause s) (parts_in_bucket clause) (omega arith) (bucket_pos clause)
      (omega (arith, reached))))
  settled_to s (inr flat) = grind (arith, kept_is clause s, kept_is)

  settled_back : (s : ℕ) → IsSettled clause h s → IsSettledAt (parts_of clause) (h * parts_in_bucket clause) s
  settled_back s (inl reached) =
      inl (omega (
        arith,
        le_over h 1 (parts_of clause s) (parts_in_bucket clause) (omega arith) (bucket_pos clause)
            (subst (λ x. whole h ≤ℚ x) (kept_is clause s) reached),
      ))
  settled_back s (inr flat) = inr (λ r after. same_num (parts_of clause r) (parts_of clause s) (parts_in_bucket clause)
      (bucket_pos clause) (sym (kept_is clause r) ∙ flat r after ∙ kept_is clause s))

  first_settled : (s : ℕ) → IsLeastSettled (parts_of clause) (h * parts_in_bucket clause) s → IsFirstSettled clause h s
  first_settled s least = record {
    settled = settled_to s least.settled;
    least = λ r settled.
        least.least r (settled_back r settled);
  }

  -- the horizon is the last edge, or so many buckets past it as the line needs to reach the cells
  pub horizon_flat : IsClause clause → parts_of clause (last_edge clause.1 + 1) - parts_of clause (last_edge clause.1)
      ≡ 0 → IsHorizon clause h (last_edge clause.1)
  horizon_flat accepted flat =
      let e = last_edge clause.1 in
      let found = settled_before (parts_of clause) e (h * parts_in_bucket clause)
      (parts_of clause (e + 1) - parts_of clause e)
      (kept_bent clause (parts_in_bucket clause) e accepted (omega arith)) (inl flat) in
      (found.0, first_settled found.0 found.1, found.2)

  pub horizon_line : (rise : ℕ) → IsClause clause → rise ≡ parts_of clause (last_edge clause.1 + 1) - parts_of clause
      (last_edge clause.1) → 0 < rise
      → IsHorizon clause h (last_edge clause.1 + div_ceil
      (h * parts_in_bucket clause - parts_of clause (last_edge clause.1)) rise)
  horizon_line rise accepted is rising =
      let e = last_edge clause.1 in
      let bent : IsBent (parts_of clause) e rise = rw is
      (kept_bent clause (parts_in_bucket clause) e accepted (omega arith)) in
      elim (cases_lt (parts_of clause e) (h * parts_in_bucket clause)) [
        | inl below ↦
            let found = settled_after (parts_of clause) e (h * parts_in_bucket clause) rise bent rising below in
            (found.0, first_settled found.0 found.1, found.2)
        | inr reached ↦
            let found = settled_before (parts_of clause) e (h * parts_in_bucket clause) rise bent (inr reached) in
            (found.0, first_settled found.0 found.1, none reached ∙ found.2)
      ]
    where
      none : h * parts_in_bucket clause ≤ parts_of clause (last_edge clause.1)
          → last_edge clause.1 + div_ceil (h * parts_in_bucket clause - parts_of clause (last_edge clause.1)) rise
          ≡ last_edge clause.1
      none reached =
          let missing : h * parts_in_bucket clause - parts_of clause (last_edge clause.1) ≡ 0 =
          omega (arith, reached) in
          rw missing (omega arith)

  pub settled_past : IsClause clause → (s k : ℕ) → s ≤ k → IsSettled clause h s → IsSettled clause h k
  settled_past accepted s k after settled =
      let e = last_edge clause.1 in
      settled_to k
      (settled_on (parts_of clause) e (h * parts_in_bucket clause) (parts_of clause (e + 1) - parts_of clause e)
      (kept_bent clause (parts_in_bucket clause) e accepted (omega arith)) s k after (settled_back s settled))

-- ---- the horizon as a number

by_rise : (clause : Clause) (h e missing rise : ℕ) → (rise ≡ 0 → IsHorizon clause h e)
    → (0 < rise → IsHorizon clause h (e + div_ceil missing rise))
    → IsHorizon clause h (e + buckets_behind missing rise)
by_rise clause h e missing rise flat line = elim (eqb_tells rise 0) [
  | inl none ↦ rw none.0 (subst (λ k. IsHorizon clause h k) (omega arith) (flat none.1))
  | inr some ↦ rw some.0 (line (omega (arith, some.1)))
]

pub horizon_is : (clause : Option Clause) (h : ℕ) → IfSome clause IsClause → IsHorizonOf clause h (horizon clause h)
unfolding horizon
horizon_is None h accepted = refl
horizon_is (Some clause) h accepted =
    let e = last_edge clause.1 in
    by_rise clause h e (h * parts_in_bucket clause - parts_of clause e) (parts_of clause (e + 1) - parts_of clause e)
    (horizon_flat clause h accepted) (horizon_line clause h (parts_of clause (e + 1) - parts_of clause e) accepted refl)

pub edges_from : (m : ℕ) (ls : List CedeLayer) (k : ℕ) → fold (λ j l. max j (edge l)) m ls ≤ k
    → All (λ l. edge l ≤ k) ls
edges_from m [] k h = All-nil (λ l. edge l ≤ k)
edges_from m (l ∷ ls) k h =
    grind (arith, le-max_right m (edge l), from-le (max m (edge l)) ls, edges_from (max m (edge l)) ls k h)

pub horizon_edges : (clause : Clause) (h k : ℕ) → IsHorizon clause h k → All (λ l. edge l ≤ k) clause.1
horizon_edges clause h k horizon = edges_from 1 clause.1 k
    (omega (arith, horizon.2, le-max_left (last_edge clause.1) horizon.0))

pub horizon_one : (clause : Clause) (h k : ℕ) → IsHorizon clause h k → 1 ≤ k
horizon_one clause h k horizon = grind (arith, le-max_left (last_edge clause.1) horizon.0, from-le 1 clause.1)

pub horizon_settled : (clause : Clause) (h k : ℕ) → IsClause clause → IsHorizon clause h k → IsSettled clause h k
horizon_settled clause h k accepted horizon =
    settled_past clause h accepted horizon.0 k (omega (arith, horizon.2, le-max_right (last_edge clause.1) horizon.0))
    horizon.1.settled

pub same_horizon : (clause : Option Clause) (h j k : ℕ) → IsHorizonOf clause h j → IsHorizonOf clause h k → j ≡ k
same_horizon None h j k a b = a ∙ sym b
same_horizon (Some clause) h j k a b =
    let s : a.0 ≡ b.0 = omega (arith, a.1.least b.0 b.1.settled, b.1.least a.0 a.1.settled) in
    a.2 ∙ ap (λ n. max (last_edge clause.1) n) s ∙ sym b.2
