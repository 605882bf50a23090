-- Families whose cells have declared values.
use Rattle.dl_cert.proofs.Common.{ℕ, zero, suc, ◌≡◌, ◌∙◌, sym, ap, ap₂, subst₂, max, List, [], ◌∷◌, le-max_left, le-max_right, All-head, All-tail, All, Fraction, whole, ◌+ℚ◌, ◌*ℚ◌, ◌≤ℚ◌, ◌<ℚ◌, ◌^ℚ◌, sum_to, one_pos, whole_pos, le_refl, times_zero, times_comm, one_times, plus_comm, plus_assoc, plus_zero, plus_le_cancel, times_le_cancel, times_le_both, times_pos, lt_of_lt_of_le, sum_to_times, AreCountWeights, IsWithinOne, IsPositivePart, Family, compound, product, nothing, power, times_itself, SameCells, same_value, level_same, value_trans, rises_to, compound_proper, nothing_proper, proper_product, HasValues, Label, labelled}

-- ---- families with values

pub nothing_values : HasValues nothing
nothing_values = record {
  proper = nothing_proper;
  bound = whole 1;
  bounded = λ N. le_refl _;
  level = zero;
  positive = whole_pos 1 one_pos;
}

pub compound_values : (w f : ℕ → Fraction) → IsWithinOne f → AreCountWeights w → HasValues (compound w f)
compound_values w f within count = record {
  proper = compound_proper w f within;
  bound = count.bound;
  bounded = count.bounded;
  level = count.level;
  positive = count.positive;
}

pub product_values : (F G : Family) → HasValues F → HasValues G → HasValues (product F G)
product_values F G f g = record {
  proper = proper_product F G f.proper g.proper;
  bound = f.bound *ℚ g.bound;
  bounded = λ N. times_le_both _ _ _ _ (f.bounded N) (g.bounded N);
  level = max f.level g.level;
  positive = times_pos _ _
      (lt_of_lt_of_le _ _ _ f.positive (rises_to F.all f.proper.all_rises f.level _ (le-max_left f.level g.level)))
      (lt_of_lt_of_le _ _ _ g.positive (rises_to G.all g.proper.all_rises g.level _ (le-max_right f.level g.level)));
}

pub itself_values : (F : Family) → HasValues F → (n : ℕ) → HasValues (times_itself F n)
unfolding power ◌^ℚ◌
itself_values F f zero = nothing_values
itself_values F f (suc n) = product_values F (times_itself F n) f (itself_values F f n)

pub labelled_values : (Fs : List Family) (label : Label) → All HasValues Fs → HasValues (labelled Fs label)
unfolding labelled
labelled_values [] label h = nothing_values
labelled_values (F ∷ Fs) label h = product_values _ _ (itself_values F (All-head HasValues F Fs h) (label zero))
    (labelled_values Fs (λ i. label (suc i)) (All-tail HasValues F Fs h))

-- families that are one at each level
pub values_same : (F G : Family) → ((y N : ℕ) → F.cells y N ≡ G.cells y N) → ((N : ℕ) → F.all N ≡ G.all N)
    → SameCells F G
values_same F G cells all y = same_value _ _ _ _ (level_same _ _ (cells y)) (level_same _ _ all)

pub values_trans : (F G H : Family) → SameCells F G → SameCells G H → SameCells F H
values_trans F G H a b y = value_trans _ _ (G.cells y) G.all _ _ (a y) (b y)

-- ---- the claims above 0

module _ (f : ℕ → Fraction) (p : Fraction) (g : ℕ → Fraction) (part : IsPositivePart f p g) where
  with_zero : (n : ℕ) → f zero +ℚ sum_to n (λ j. p *ℚ g j) ≡ sum_to n f
  unfolding sum_to
  with_zero zero = ap (λ t. f zero +ℚ t) (ap (λ t. p *ℚ t) part.no_zero ∙ times_zero p) ∙ plus_zero _
  with_zero (suc n) = sym (plus_assoc _ _ _)
      ∙ ap₂ (λ s t. s +ℚ t) (with_zero n) (sym (part.above n))

  -- their probabilities add up to at most 1, where there can be any
  pub part_within : whole 0 <ℚ p → IsWithinOne f → IsWithinOne g
  part_within pos within n =
      times_le_cancel _ _ p pos
      (subst₂ (λ s t. s ≤ℚ t) (sum_to_times n p g ∙ times_comm _ _) (sym (one_times p))
      (plus_le_cancel _ _ (f zero)
      (subst₂ (λ s t. s ≤ℚ t) (sym (with_zero n) ∙ plus_comm _ _) (sym part.share ∙ plus_comm _ _) (within n))))
