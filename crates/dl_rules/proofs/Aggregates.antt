-- An aggregate clause that breaks no rule is one of a valid plan.
use Rattle.dl_rules.proofs.Common.{◌≡◌, ◌∙◌, ap, ℕ, ◌≤◌, true, Option, Some, None, refl, sym, subst, All, IfSome, ltb-false, All-map, most_horizon, most_amount_at, Sev, HasDistribution, Clause, IsClause, horizon, horizon_is, not_at, GridClause, GridUnit, clause_of, has_shares, off_grid_cession, final_severity, aggregate_clause, IsCedeOf, horizon_too_large, IsWithinMostAmount, IsAggregate, ceded_layer, IsClauseWithin, IsWithin, made_of, shares_of, is_fine, MadeClause, clause_fine, made_is_clause, made_whole, cede_of, most_parts, IsClauseLayered}
use Rattle.dl_rules.proofs.ClauseFacts.{sums_whole}

-- ---- the horizon

near_most : (cells : ℕ) (c : GridClause) → is_fine most_parts (shares_of c) ≡ true
    → horizon_too_large cells (made_of (Some c)) ≡ None → horizon (Some (clause_of c)) cells ≤ most_horizon cells
unfolding horizon_too_large
near_most cells c fine near = ltb-false (most_horizon cells) (horizon (Some (clause_of c)) cells)
    (not_at _ c.span (rw (made_whole c fine) at near))

module _ (cells : ℕ) (u : GridUnit) (none : off_grid_cession u ≡ None) (shares : has_shares u.occ ≡ true)
    (near : horizon_too_large cells (made_of u.agr) ≡ None) (within : IsWithin (most_amount_at cells) u) (sev : Sev)
    (means : HasDistribution sev (final_severity u)) where
  layers_near : (c : GridClause) → IsClauseWithin (most_amount_at cells) c
      → All (IsWithinMostAmount cells) (clause_of c).1
  layers_near c small = All-map (IsWithinMostAmount cells) ceded_layer c.layers
      (λ k d h. record { limit = (small k d h).limit; attach = (small k d h).attach })

  by_clause : (a : Option GridClause) → u.agr ≡ a → (o : Option Clause) → IsCedeOf a o
      → IfSome o (IsAggregate cells sev)
  by_clause None is None made = tt
  by_clause None is (Some clause) made = absurd (cc (made.same))
  by_clause (Some c) is None made = absurd (cc (made.same))
  by_clause (Some c) is (Some clause) made =
      let same : clause ≡ clause_of c = cc (made.same) in
      let accepted : IsClause (clause_of c) = subst IsClause same made.accepted in
      subst (IsAggregate cells sev) (sym same) (record {
        accepted = accepted;
        near = layers_near c (subst (λ o. IfSome o (IsClauseWithin (most_amount_at cells))) is within.agr);
        whole = sums_whole u c is accepted none shares sev means;
        horizon = (
          horizon (Some (clause_of c)) cells,
          horizon_is (Some (clause_of c)) cells accepted,
          near_most cells c (clause_fine c (clause_of c) (refl, accepted))
              (subst (λ a. horizon_too_large cells (made_of a) ≡ None) is near),
        );
      })

  pub aggregate_valid : (o : Option Clause) → IsCedeOf u.agr o → IfSome o (IsAggregate cells sev)
  aggregate_valid o made = by_clause u.agr refl o made

-- ---- there is such a clause

pub clause_there : (o : Option GridClause) → IfSome o IsClauseLayered → has_shares o ≡ true
    → IsCedeOf o (aggregate_clause o)
clause_there None layered shares = record { same = refl; accepted = tt }
clause_there (Some c) layered shares = record {
  same = refl;
  accepted = made_is_clause c layered shares;
}

pub cede_is : (o : Option GridClause) (made : MadeClause) → IfSome o IsClauseLayered → has_shares o ≡ true
    → made ≡ made_of o → IsCedeOf o (cede_of made)
cede_is o made layered shares e =
    subst (IsCedeOf o) (sym (ap cede_of e ∙ same o shares)) (clause_there o layered shares)
  where
    same : (p : Option GridClause) → has_shares p ≡ true → cede_of (made_of p) ≡ aggregate_clause p
    same None h = refl
    same (Some c) h = ap cede_of (made_whole c h)
