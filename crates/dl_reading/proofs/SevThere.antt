-- A unit whose fractions are fine has a final severity.
use Rattle.dl_reading.proofs.Common.{ℕ, ◌≡◌, ◌∙◌, ◌≤◌, List, [], ◌∷◌, map, length, Bool, true, false, cond, Option, Some, None, refl, sym, subst, All, AllZip, length-map, All-head, All-tail, whole, Item, Sev, Weights, IsWeighing, IsFineTo40Bits, Pairs, conditioned, HasDistribution, layer, kept, sum_of, mixture, with_amounts, GridAtom, GridLayer, GridClause, GridUnit, clause_of, atom_probs, atom_pairs, weights_of, mixed_pairs, is_conditioned, layer_pairs, severity_in_layer, ceded_pairs, final_severity, IsGridAtom, IsSevWithin, IsSevWeighted, AreProbabilities, Bounds, most_weights, IsFineSev, mixture_one}
use Rattle.dl_reading.proofs.Parts.{sev_weighted}
use Rattle.dl_reading.proofs.Mixing.{seconds-zip, pair_length, weights_length, mixture_means, mixture_fine as products_fine}
use Rattle.dl_reading.proofs.Meaning.{conditioned_means, mapped_means}
use Rattle.dl_reading.proofs.Positive.{reached}
use Rattle.dl_reading.proofs.Items.{support_within}
use Rattle.dl_reading.proofs.FineUnits.{IsSevShared, unit_shared, mixture_fine, final_near, final_few}
use Rattle.dl_reading.proofs.Shared.{over_common, weighing}
use Rattle.dl_reading.proofs.SevSteps.{sev_of, mapped_sev, exceeding_sev}

-- a severity that means these amounts
abbrev pub Meant : Pairs → Type 0
Meant ps = (sev : Sev) × HasDistribution sev ps

mapped_meant : (f : ℕ → ℕ) (ps : Pairs) → Meant ps → Meant (with_amounts f ps)
mapped_meant f ps sev = let made = mapped_sev f sev.0 in (made.0, mapped_means sev.0 made.0 ps f sev.1 made.1)

atom_sev : (a : GridAtom) → IsGridAtom a → AreProbabilities (atom_probs a)
    → Meant (atom_pairs a)
atom_sev a grid shared =
    let same = seconds-zip a.amounts (atom_probs a) (sym grid.each) in
    sev_of (atom_pairs a) (subst IsFineTo40Bits same shared.fine) (subst (λ xs. sum_of xs ≡ whole 1) same shared.one)

atom_sevs : (atoms : List GridAtom) → All IsGridAtom atoms
    → All (λ a. AreProbabilities (atom_probs a)) atoms
    → (sevs : List Sev) × AllZip HasDistribution sevs (map atom_pairs atoms)
atom_sevs [] grid shared = ([], tt)
atom_sevs (a ∷ atoms) grid shared =
    let first = atom_sev a (All-head IsGridAtom a atoms grid)
    (All-head (λ b. AreProbabilities (atom_probs b)) a atoms shared) in
    let rest = atom_sevs atoms (All-tail IsGridAtom a atoms grid)
    (All-tail (λ b. AreProbabilities (atom_probs b)) a atoms shared) in
    (first.0 ∷ rest.0, (first.1, rest.1))

module _ {bounds : Bounds} (u : GridUnit) (fine : IsFineSev bounds u) where
  weighted : IsSevWeighted u.sev
  weighted = sev_weighted u fine.layered.weighted

  mixture_sev : Meant (mixed_pairs u.sev)
  mixture_sev =
      let shared : IsSevShared u.sev = unit_shared u fine in
      let lists : List Pairs = map atom_pairs u.sev.atoms in
      let atoms = atom_sevs u.sev.atoms weighted.grid.atoms shared.atoms in
      let w : Weights = over_common (weights_of u.sev) in
      let weighed : IsWeighing (weights_of u.sev) w = weighing (weights_of u.sev) shared.weights.fine shared.weights.one in
      let lengths : length atoms.0 ≡ length w.weights =
      pair_length atoms.0 lists atoms.1 ∙ length-map u.sev.atoms atom_pairs
      ∙ sym (weights_length (weights_of u.sev) w weighed ∙ weighted.each) in
      let made = sev_of (mixture atoms.0 w) (products_fine atoms.0 w (weights_of u.sev) lists weighed atoms.1
      most_weights (mixture_fine u fine))
      (mixture_one w.total atoms.0 w.weights weighed.some lengths weighed.sum) in
      (made.0, mixture_means atoms.0 w (weights_of u.sev) lists weighed atoms.1 made.0 made.1)

  by_size : (l : GridLayer) → u.layer ≡ Some l → (b : Bool) → is_conditioned u.bang l ≡ b
      → Meant (cond b (conditioned l.attach (mixed_pairs u.sev)) (mixed_pairs u.sev))
  by_size l is true large =
      let all = mixture_sev in
      let part = exceeding_sev l.attach all.0 (λ none. reached u l is large fine.layered.reached
      (support_within all.0 (mixed_pairs u.sev) all.1 l.attach none)) in
      (part.0, conditioned_means all.0 part.0 (mixed_pairs u.sev) l.attach all.1 part.1)
  by_size l is false small = mixture_sev

  in_layer : (o : Option GridLayer) → u.layer ≡ o → Meant (layer_pairs o u.bang u.sev)
  in_layer None is = mixture_sev
  in_layer (Some l) is = mapped_meant (layer l.limit l.attach) _ (by_size l is (is_conditioned u.bang l) refl)

  final_of : (o : Option GridClause) → Meant (ceded_pairs o (severity_in_layer u))
  final_of None = in_layer u.layer refl
  final_of (Some c) = mapped_meant (λ x. (kept (clause_of c) x).num) (severity_in_layer u) (in_layer u.layer refl)

  -- with few items, and small amounts
  pub final_there : (sev : Sev) × HasDistribution sev (final_severity u)
      × ((b : ℕ) → IsSevWithin b u.sev → All (λ (i : Item). i.amount ≤ b) sev.items) × (length sev.items ≤ 65536)
  final_there =
      let sev = final_of u.occ in
      (sev.0, sev.1, final_near u fine sev.0 sev.1, final_few u fine sev.0 sev.1)
