-- What a unit that keeps all rules on its severity gives.
use Rattle.dl_reading.proofs.Common.{leb-true, IsFineTo40Bits, get_or, ◌≡◌, ◌||◌, ◌&&◌, nat_tests, not, Bool, true, false, Option, Some, None, refl, sym, subst, All, IfSome, ◌≤◌, ℕ, Item, arith, length, length-map, Fraction, IsClause, IsClauseLayered, IsSevWithin, final_severity, made_of, GridSev, has_atoms, has_severity, weights_of, GridClause, GridUnit, IsWhole, common_denominator, Pairs, HasDistribution, pairs_of, kept, Sev, is_fine, clause_of, shares_of, is_off, severity_in_layer, ceded_pairs, mixture_shares, support, off_grid_cession, AreProbabilities, atom_probs, not-false, are_fine, Bounds, AreBounds, has_probs, most_parts, has_shares, IsFineSev, AllPass-from_list_all, off_grid_amounts, made_pairs, KeepsWhole}
use Rattle.dl_reading.proofs.PastEdges.{whole_unless}
use Rattle.dl_reading.proofs.Values.{never}
use Rattle.dl_reading.proofs.Shared.{fine_probabilities}
use Rattle.dl_reading.proofs.Meaning.{alike_own, mapped_means, means_alike}
use Rattle.dl_reading.proofs.ClauseGrids.{clauses_layered}
use Rattle.dl_reading.proofs.ClauseLaws.{made_is_clause}
use Rattle.dl_reading.proofs.Items.{items_in, support_all}
use Rattle.dl_reading.proofs.Near.{ceded_near, in_layer_few, in_layer_near, items_few}
use Rattle.dl_reading.proofs.OffGrid.{made_whole, occurrence_none}

-- the parts of a severity that are fine
pub parts_of : (bounds : Bounds) (s : GridSev) → has_severity bounds s ≡ true
    → (has_atoms bounds s ≡ true) × (are_fine bounds.parts (weights_of s) ≡ true)
    × (is_fine bounds.parts (mixture_shares s) ≡ true)
parts_of bounds s e =
    three (has_atoms bounds s) (are_fine bounds.parts (weights_of s)) (is_fine bounds.parts (mixture_shares s)) e
  where
    three : (a b c : Bool) → (a && b && c) ≡ true → (a ≡ true) × (b ≡ true) × (c ≡ true)
    three a b c h = grind (arith, nat_tests, h)

-- the probabilities of each atom, and the weights of the atoms
pub record IsSevShared (s : GridSev) : Type 0 where
  pub atoms : All (λ a. AreProbabilities (atom_probs a)) s.atoms
  pub weights : AreProbabilities (weights_of s)

-- a severity with fine parts has probabilities
pub sev_shared : (bounds : Bounds) → AreBounds bounds → (s : GridSev) → has_severity bounds s ≡ true → IsSevShared s
sev_shared bounds within s e = record {
  atoms = λ k d h. fine_probabilities bounds.parts _ within.parts
      (AllPass-from_list_all _ s.atoms (parts_of bounds s e).0 k d h);
  weights = fine_probabilities bounds.parts (weights_of s) within.parts (parts_of bounds s e).1;
}

none_of : (a b c d : Bool) → (a || b || c || d) ≡ false → (b ≡ false) × (d ≡ false)
none_of a b c d h = grind (arith, nat_tests, h)

module _ {bounds : Bounds} (u : GridUnit) (fine : IsFineSev bounds u) where
  facts : (not (has_shares u.occ) ≡ false) × (not (has_severity bounds u.sev) ≡ false)
  facts =
      none_of (not (has_probs bounds u.count)) (not (has_shares u.occ)) (not (has_shares u.agr))
      (not (has_severity bounds u.sev)) fine.fine

  pub severity_fine : has_severity bounds u.sev ≡ true
  severity_fine = not-false _ facts.1

  pub unit_shared : IsSevShared u.sev
  unit_shared = sev_shared bounds fine.allowed u.sev severity_fine

  pub mixture_fine : IsFineTo40Bits (mixture_shares u.sev)
  mixture_fine = omega (
    arith,
    fine.allowed.parts,
    leb-true (common_denominator (mixture_shares u.sev)) bounds.parts (parts_of bounds u.sev severity_fine).2,
  )

  module _ (c : GridClause) (is : u.occ ≡ Some c) where
    pub shares_fine : is_fine most_parts (shares_of c) ≡ true
    shares_fine = subst (λ o. has_shares o ≡ true) is (not-false _ facts.0)

    pub support_whole : All (λ x. IsWhole (kept (clause_of c) x)) (support (severity_in_layer u))
    unfolding off_grid_cession
    support_whole k d h =
        whole_unless (kept (clause_of c) (get_or (support (severity_in_layer u)) k d)) (never (is_off (clause_of c))
        (support (severity_in_layer u)) (occurrence_none c (made_of u.agr) (support (severity_in_layer u)) shares_fine
        (subst (λ o. off_grid_amounts (made_of o) (made_of u.agr) (support (severity_in_layer u)) ≡ None) is fine.ceded))
        k d h)

    pub clause_is_one : IsClause (clause_of c)
    clause_is_one = made_is_clause c (subst (λ o. IfSome o IsClauseLayered) is (clauses_layered u fine.layered).0) shares_fine

  -- what a severity that means the one in the layer gives the occurrence clause
  pub keeps_whole : (sev : Sev) → HasDistribution sev (severity_in_layer u) → KeepsWhole (made_of u.occ) sev
  keeps_whole sev means = by_clause u.occ refl
    where
      by_clause : (o : Option GridClause) → u.occ ≡ o → KeepsWhole (made_of o) sev
      by_clause None is = tt
      by_clause (Some c) is = subst (λ made. KeepsWhole made sev) (sym (made_whole c (shares_fine c is)))
          (clause_is_one c is, items_in sev (severity_in_layer u) means (λ x. IsWhole (kept (clause_of c) x)) (support_whole c is))

  pub final_means : (layered made : Sev) → HasDistribution layered (severity_in_layer u)
      → HasDistribution made (made_pairs (made_of u.occ) (pairs_of layered)) → HasDistribution made (final_severity u)
  final_means layered made means = by_clause u.occ refl
    where
      by_clause : (o : Option GridClause) → u.occ ≡ o → HasDistribution made (made_pairs (made_of o) (pairs_of layered))
          → HasDistribution made (ceded_pairs o (severity_in_layer u))
      by_clause None is h = means_alike made _ _ h (alike_own layered _ means)
      by_clause (Some c) is h = mapped_means layered made (severity_in_layer u) (λ x. (kept (clause_of c) x).num) means
          (subst (λ m. HasDistribution made (made_pairs m (pairs_of layered))) (made_whole c (shares_fine c is)) h)

  module _ (sev : Sev) (means : HasDistribution sev (final_severity u)) where
    -- its amounts are at most what bounds those of the atoms
    pub final_near : (b : ℕ) → IsSevWithin b u.sev → All (λ (i : Item). i.amount ≤ b) sev.items
    final_near b within = items_in sev (final_severity u) means (λ x. x ≤ b) (by_clause u.occ refl)
      where
        near : All (λ pair. pair.0 ≤ b) (severity_in_layer u)
        near = in_layer_near u.layer u.bang u.sev b within

        by_clause : (o : Option GridClause) → u.occ ≡ o
            → All (λ x. x ≤ b) (support (ceded_pairs o (severity_in_layer u)))
        by_clause None is = support_all (λ x. x ≤ b) (severity_in_layer u) near
        by_clause (Some c) is = ceded_near b (clause_of c) (severity_in_layer u) (clause_is_one c is) (support_whole c is) near

    pub final_few : length sev.items ≤ 65536
    final_few = omega (
      arith,
      items_few sev (final_severity u) means,
      as_many u.occ (severity_in_layer u),
      in_layer_few u.layer u.bang u.sev fine.layered.weighted.grid.sev,
    )
      where
        as_many : (o : Option GridClause) (ps : Pairs) → length (ceded_pairs o ps) ≡ length ps
        as_many None ps = refl
        as_many (Some c) ps = length-map {B = ℕ × Fraction} ps
            (λ (pair : ℕ × Fraction). ((kept (clause_of c) pair.0).num, pair.1))
