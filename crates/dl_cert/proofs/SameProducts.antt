-- Families with the same declared values have products with the same declared values.
use Rattle.dl_cert.proofs.Common.{ends_in_order, ℕ, ◌≡◌, ◌∙◌, inl, inr, sym, ap, ap₂, subst, subst₂, Fraction, whole, ◌*ℚ◌, ◌/ℚ◌, ◌≤ℚ◌, ◌<ℚ◌, sum_pairs, ring, times_comm, times_zero, zero_le, zero_or_pos, le_refl, le_trans, le_div, lt_or_le, lt_not_le, lt_of_lt_of_le, times_le_both, times_le_times, div_times, sum_pairs_same, sum_pairs_times, Series, IsBound, AtMost, AtLeast, Rises, times, Family, product, SameCells, rises_to, at_least_times, sum_at_least, rises_times, cancel, not_both, le-max_left, le-max_right, max, HasValues}
use Rattle.dl_cert.proofs.Values.{product_values}

-- ---- low ends from high ends

-- where every high end of one declared value is one of another, every low end of the other is one of it
least_from_most : (F : Family) → HasValues F → (Q Q' R' : Series)
    → ((h : Fraction) → AtMost Q' R' h → AtMost Q F.all h) → (l : Fraction) → AtLeast Q F.all l → AtLeast Q' R' l
least_from_most F v Q Q' R' back l low N w above = elim (lt_or_le w (l *ℚ R' N)) [
  | inr within ↦ within
  | inl far ↦ absurd (elim (zero_or_pos (R' N)) [
    | inl none ↦ lt_not_le w _ far (subst (λ t. t ≤ℚ w) (sym (ap (λ t. l *ℚ t) none ∙ times_zero l)) (zero_le w))
    | inr some ↦
        let h = w /ℚ R' N in
        let back_to : h *ℚ R' N ≡ w = div_times w (R' N) some in
        let below : h <ℚ l = elim (lt_or_le h l) [
          | inl less ↦ less
          | inr more ↦ absurd (lt_not_le w _ far (subst (λ t. l *ℚ R' N ≤ℚ t) back_to
              (times_le_times l h (R' N) more)))
        ] in
        let high : AtMost Q' R' h = λ n u bounds. le_trans _ _ _ (above n)
        (subst (λ t. t ≤ℚ h *ℚ u) back_to (times_le_both h h _ _ (le_refl h) (bounds N))) in
        not_both F.all v.proper.all_rises v.bound v.level v.bounded v.positive Q l low (h, below, back h high)
  ])
]

-- a term over a bound of the whole is a low end
pub term_low : (Q R : Series) (N : ℕ) (u : Fraction) → whole 0 <ℚ u → IsBound R u → AtLeast Q R (Q N /ℚ u)
term_low Q R N u pos bound M b above =
    le_trans _ _ _ (times_le_both (Q N /ℚ u) (Q N /ℚ u) _ _ (le_refl (Q N /ℚ u)) (bound M))
    (subst (λ t. t ≤ℚ b) (sym (div_times (Q N) u pos)) (above N))

-- what is at most h times each bound of either factor is at most h times each bound of the product
pub over_product : (E D : Series) → Rises E → Rises D → (e : Fraction) (k : ℕ) → IsBound E e → whole 0 <ℚ E k
    → (x h : Fraction) → ((e d : Fraction) → IsBound E e → IsBound D d → x ≤ℚ h *ℚ (e *ℚ d))
    → (u : Fraction) → IsBound (times E D) u → x ≤ℚ h *ℚ u
over_product E D rise rise' e k bound pos x h each u bounds =
    cancel E rise e k bound pos x (h *ℚ u) (λ e be m. elim (zero_or_pos (E m)) [
      | inl none ↦ subst (λ t. t ≤ℚ h *ℚ u *ℚ e) (sym (ap (λ t. t *ℚ x) none ∙ times_comm _ _ ∙ times_zero x))
          (zero_le _)
      | inr some ↦
          let d = u /ℚ E m in
          let bd : IsBound D d = λ n. le_div (D n) (E m) u some (crossed m n) in
          subst₂ (λ s t. s ≤ℚ t) (times_comm x (E m))
          (turn h e d (E m) ∙ ap (λ t. h *ℚ t *ℚ e) (div_times u (E m) some))
          (times_le_times _ _ (E m) (each e d be bd))
    ])
  where
    turn : (h e d m : Fraction) → h *ℚ (e *ℚ d) *ℚ m ≡ h *ℚ (d *ℚ m) *ℚ e
    turn h e d m = simp ring

    crossed : (m n : ℕ) → D n *ℚ E m ≤ℚ u
    crossed m n = subst (λ t. t ≤ℚ u) (times_comm (E m) (D n))
        (le_trans _ _ _ (times_le_both _ _ _ _ (rises_to E rise m (max m n) (le-max_left m n))
        (rises_to D rise' n (max m n) (le-max_right m n))) (bounds (max m n)))

-- ---- of two families

module _ (F F' G G' : Family) (f : HasValues F) (f' : HasValues F') (g : HasValues G) (g' : HasValues G')
    (same : SameCells F F') (same' : SameCells G G') (y : ℕ) where
  -- a term of the product over a bound of each factor is a low end of the other product
  term_of_product : (N : ℕ) (d e : Fraction) → IsBound F'.all d → IsBound G'.all e
      → AtLeast ((product F G).cells y) (product F G).all
      (sum_pairs y (λ i j. F'.cells i N /ℚ d *ℚ (G'.cells j N /ℚ e)))
  term_of_product N d e bd be =
      sum_at_least y (λ i j. times (F.cells i) (G.cells j)) (times F.all G.all)
      (λ i j. F'.cells i N /ℚ d *ℚ (G'.cells j N /ℚ e))
      (λ i j s. rises_times _ _ (f.proper.cells_rise i) (g.proper.cells_rise j))
      (λ i j s. at_least_times (F.cells i) F.all (G.cells j) G.all _ _ (f.proper.cells_rise i) (g.proper.cells_rise j)
      (((same i).0 _).1 (term_low (F'.cells i) F'.all N d (lt_of_lt_of_le _ _ _ f'.positive (bd f'.level)) bd))
      (((same' j).0 _).1 (term_low (G'.cells j) G'.all N e (lt_of_lt_of_le _ _ _ g'.positive (be g'.level)) be)))

  shared : (N : ℕ) (d e : Fraction) → whole 0 <ℚ d → whole 0 <ℚ e
      → sum_pairs y (λ i j. F'.cells i N /ℚ d *ℚ (G'.cells j N /ℚ e)) *ℚ (d *ℚ e) ≡ (product F' G').cells y N
  shared N d e dp ep =
      times_comm _ _ ∙ sym (sum_pairs_times y (d *ℚ e) (λ i j. F'.cells i N /ℚ d *ℚ (G'.cells j N /ℚ e)))
      ∙ sum_pairs_same y _ _ (λ i j s. turn d e (F'.cells i N /ℚ d) (G'.cells j N /ℚ e)
      ∙ ap₂ (λ a b. a *ℚ b) (div_times (F'.cells i N) d dp) (div_times (G'.cells j N) e ep))
    where
      turn : (d e a b : Fraction) → d *ℚ e *ℚ (a *ℚ b) ≡ a *ℚ d *ℚ (b *ℚ e)
      turn d e a b = simp ring

  pub product_most : (h : Fraction) → AtMost ((product F G).cells y) (product F G).all h
      → AtMost ((product F' G').cells y) (product F' G').all h
  product_most h high N u bounds =
      let p = product_values F G f g in
      over_product F'.all G'.all f'.proper.all_rises g'.proper.all_rises f'.bound f'.level f'.bounded f'.positive
      ((product F' G').cells y N) h
      (λ d e bd be.
      let dp = lt_of_lt_of_le _ _ _ f'.positive (bd f'.level) in
      let ep = lt_of_lt_of_le _ _ _ g'.positive (be g'.level) in
      subst (λ t. t ≤ℚ h *ℚ (d *ℚ e)) (shared N d e dp ep)
      (times_le_times _ _ (d *ℚ e)
      (ends_in_order (product F G).all p.proper.all_rises p.bound p.level p.bounded p.positive
      ((product F G).cells y) _ h (term_of_product N d e bd be) high)))
      u bounds

-- the other way round
value_back : (F G : Family) → SameCells F G → SameCells G F
value_back F G same y = (λ l. (((same y).0 l).1, ((same y).0 l).0), λ h. (((same y).1 h).1, ((same y).1 h).0))

pub same_products : (F F' G G' : Family) → HasValues F → HasValues F' → HasValues G → HasValues G' → SameCells F F'
    → SameCells G G' → SameCells (product F G) (product F' G')
same_products F F' G G' f f' g g' same same' y =
    let there = product_most F F' G G' f f' g g' same same' y in
    let back = product_most F' F G' G f' f g' g (value_back F F' same) (value_back G G' same') y in (
      λ l. (
        least_from_most (product F G) (product_values F G f g) _ _ _ back l,
        least_from_most (product F' G') (product_values F' G' f' g') _ _ _ there l,
      ),
      λ h. (there h, back h),
    )
