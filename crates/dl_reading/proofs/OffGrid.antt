-- Whether the clauses of a unit map whole amounts to whole amounts.
use Rattle.dl_reading.proofs.Common.{ℕ, ◌+◌, ◌≡◌, ◌∙◌, ◌<◌, ◌++◌, map, take, drop, length, get_or, true, false, List, Option, Some, None, refl, sym, ap, subst, list_any, MatchOption, Fraction, whole, GridClause, IsWhole, Clause, kept, whole_num, is_fine, clause_of, made_of, shares_of, is_off, is_off_multiples, ceded_pairs, support, Pairs, common_amount_of, has_shares, else_first, else_second, not_at, most_parts, get_or_default, set, map_over_more, MadeClause, off_grid_sums, off_grid_amounts}
use Rattle.dl_reading.specs.declared.made.MadeClause.TheVariants.{Whole}
use Rattle.dl_reading.proofs.Positive.{support-mapped}

-- ---- one amount after another

pub kept_num : (o : Option ℕ) (x : Fraction) (y : ℕ) → MatchOption o (¬ IsWhole x) (λ z. x ≡ whole z)
    → o ≡ Some y → x.num ≡ y
kept_num o x y h is = ap (λ (z : Fraction). z.num) (rw is at h) ∙ whole_num y

module _ (clause : Clause) (xs ys : List ℕ) (i : ℕ) (lt : i < length xs)
    (so_far : ys ≡ map (λ x. (kept clause x).num) (take i xs) ++ drop i xs) where
  pub kept_more : (d y : ℕ) → i < length ys → (kept clause (get_or ys i d)).num ≡ y
      → set ys i y ≡ map (λ x. (kept clause x).num) (take (i + 1) xs) ++ drop (i + 1) xs
  kept_more d y within h =
      ap (λ n. set ys i n) (sym h) ∙ map_over_more (λ x. (kept clause x).num) xs ys i (get_or ys i d) lt so_far
      (get_or_default ys i d (get_or ys i d) within)

-- ---- clauses that break no rule

pub made_whole : (c : GridClause) → is_fine most_parts (shares_of c) ≡ true → made_of (Some c) ≡ Whole (clause_of c) c.span
made_whole c fine = rw fine refl

pub occurrence_none : (c : GridClause) (agr : MadeClause) (xs : List ℕ) → is_fine most_parts (shares_of c) ≡ true
    → off_grid_amounts (made_of (Some c)) agr xs ≡ None → list_any (is_off (clause_of c)) xs ≡ false
occurrence_none c agr xs fine none = not_at _ c.span (else_first _ _ (rw (made_whole c fine) at none))

-- the final amounts are those that the occurrence clause keeps
pub sums_none : (o : Option GridClause) (agr : MadeClause) (ps : Pairs) → has_shares o ≡ true
    → off_grid_amounts (made_of o) agr (support ps) ≡ None → off_grid_sums agr (support (ceded_pairs o ps)) ≡ None
sums_none None agr ps has none = none
sums_none (Some c) agr ps has none =
    subst (λ xs. off_grid_sums agr xs ≡ None) (sym (support-mapped (λ x. (kept (clause_of c) x).num) ps))
    (else_second _ _ (rw (made_whole c has) at none))

pub multiples_none : (c : GridClause) (xs : List ℕ) → is_fine most_parts (shares_of c) ≡ true
    → off_grid_sums (made_of (Some c)) xs ≡ None → is_off_multiples (clause_of c) (common_amount_of xs) ≡ false
multiples_none c xs fine none = not_at _ c.span (rw (made_whole c fine) at none)
