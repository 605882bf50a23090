-- What an aggregate clause of a valid plan keeps: its multiples are whole numbers, and its horizon is small. The
-- greatest common divisor of a severity's amounts is that of the amounts of positive probability of what it means.
use Rattle.dl_rules.proofs.Common.{◌∣◌, ℕ, ◌≡◌, ◌∙◌, ◌*◌, get_or, true, false, List, [], ◌∷◌, Some, None, refl, sym, ap, subst, inl, inr, All, eqb_tells, All-nil, All-cons, All-head, All-tail, whole, ◌over◌, ◌<ℚ◌, gcd, gcd_is, IsClause, Item, Sev, Pairs, HasDistribution, GridClause, GridUnit, clause_of, support, final_severity, has_shares, off_grid_cession, items_in, ◌⊎◌, fold, dvd_refl, dvd_trans, dvd-zero, dvd_antisymm, lt_not_le, le_refl, IsWhole, kept, weight_at, common_amount, zero_over, total_pos, common_amount_of, off_grid_sums, Rising, rises, support_positive, is_off_multiples, made_of, severity_in_layer, clause_fine, multiples_none, sums_none, fits_tried}
use Rattle.dl_rules.proofs.OnePlan.{first_weight, other_weight, same_item}

-- ---- the common divisor of a list

module _ {A : Type 0} (f : A → ℕ) where
  abbrev common_from : ℕ → List A → ℕ
  common_from g xs = fold (λ d x. gcd d (f x)) g xs

  divides_first : (g : ℕ) (xs : List A) → common_from g xs ∣ g
  divides_first g [] = dvd_refl g
  divides_first g (x ∷ xs) = dvd_trans (common_from (gcd g (f x)) xs) (divides_first (gcd g (f x)) xs)
      (gcd_is g (f x)).0

  divides_each : (g : ℕ) (xs : List A) → All (λ x. common_from g xs ∣ f x) xs
  divides_each g [] = All-nil (λ x. common_from g [] ∣ f x)
  divides_each g (x ∷ xs) =
      All-cons (λ y. common_from g (x ∷ xs) ∣ f y) x xs
      (dvd_trans (common_from (gcd g (f x)) xs) (divides_first (gcd g (f x)) xs) (gcd_is g (f x)).1)
      (divides_each (gcd g (f x)) xs)

  greatest : (d g : ℕ) (xs : List A) → d ∣ g → All (λ x. d ∣ f x) xs → d ∣ common_from g xs
  greatest d g [] h all = h
  greatest d g (x ∷ xs) h all =
      greatest d (gcd g (f x)) xs ((gcd_is g (f x)).2 d h (All-head (λ y. d ∣ f y) x xs all))
      (All-tail (λ y. d ∣ f y) x xs all)

-- ---- an amount with a weight is that of one of the items

abbrev item : ℕ → ℕ → Item
item x w = record { amount = x; weight = w }

item_found : (Q : Item → Type 0) (xs : List Item) → Rising xs → (x : ℕ) → All Q xs
    → (weight_at xs x ≡ 0) ⊎ Q (item x (weight_at xs x))
item_found Q [] rising x all = inl refl
item_found Q (i ∷ xs) rising x all = elim (eqb_tells i.amount x) [
  | inl same ↦ inr (subst Q (same_item i (item x (weight_at (i ∷ xs) x)) same.1
      (sym (first_weight i xs rising) ∙ ap (weight_at (i ∷ xs)) same.1)) (All-head Q i xs all))
  | inr other ↦ subst (λ w. (w ≡ 0) ⊎ Q (item x w)) (sym (other_weight i xs x other.0))
      (item_found Q xs rising.1 x (All-tail Q i xs all))
]

module _ (sev : Sev) (ps : Pairs) (means : HasDistribution sev ps) where
  -- what holds of each item of the severity holds of each amount of positive probability with its weight
  pub support_in : (Q : Item → Type 0) → All Q sev.items → All (λ x. Q (item x (weight_at sev.items x))) (support ps)
  support_in Q all k d h =
      let x = get_or (support ps) k d in
      elim (item_found Q sev.items (rises sev.items sev.weighted.rising) x all) [
        | inl none ↦ absurd (lt_not_le (whole 0) (whole 0)
            (subst (λ t. whole 0 <ℚ t) (sym (means x) ∙ ap (λ w. w over sev.total) none
            ∙ zero_over sev.total (total_pos sev)) (support_positive ps k d h)) (le_refl (whole 0)))
        | inr there ↦ there
      ]

  pub same_common : common_amount sev.items ≡ common_amount_of (support ps)
  same_common =
      dvd_antisymm
      (greatest (λ (x : ℕ). x) (common_amount sev.items) 0 (support ps) (dvd-zero (common_amount sev.items))
      (support_in (λ (i : Item). common_amount sev.items ∣ i.amount) (divides_each (λ (i : Item). i.amount) 0 sev.items)))
      (greatest (λ (i : Item). i.amount) (common_amount_of (support ps)) 0 sev.items
      (dvd-zero (common_amount_of (support ps)))
      (items_in sev ps means (λ x. common_amount_of (support ps) ∣ x) (divides_each (λ (x : ℕ). x) 0 (support ps))))

-- ---- the aggregate clause over sums of a severity

module _ (u : GridUnit) (c : GridClause) (is : u.agr ≡ Some c) (is_clause : IsClause (clause_of c))
    (none : off_grid_cession u ≡ None)
    (has : has_shares u.occ ≡ true) (sev : Sev) (means : HasDistribution sev (final_severity u)) where
  aggregate_none : off_grid_sums (made_of (Some c)) (support (final_severity u)) ≡ None
  unfolding off_grid_cession
  aggregate_none = subst (λ a. off_grid_sums (made_of a) (support (final_severity u)) ≡ None) is
      (sums_none u.occ (made_of u.agr) (severity_in_layer u) has none)

  -- the clause maps each multiple of the greatest common divisor of the amounts to a whole number
  pub sums_whole : (n : ℕ) → IsWhole (kept (clause_of c) (n * common_amount sev.items))
  sums_whole =
      fits_tried (clause_of c) (common_amount sev.items) is_clause
      (subst (λ n. is_off_multiples (clause_of c) n ≡ false) (sym (same_common sev (final_severity u) means))
      (multiples_none c (support (final_severity u)) (clause_fine c (clause_of c) (refl, is_clause)) aggregate_none))
