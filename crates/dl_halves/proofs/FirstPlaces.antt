-- The first places of a product from the product of the first halves and two shorter ones.
use Rattle.dl_halves.proofs.Common.{ℕ, ◌≡◌, ◌+◌, ◌-◌, ◌*◌, ◌%◌, ◌^◌, ◌<◌, ◌≤◌, List, length, take, drop, map, arith, sym, subst, ap, ap₂, inl, inr, ◌∙◌, All, mod-eq_of_lt, cases_lt, length-drop, take_all, ItemsFit, pair_sum}
use Rattle.std.proofs.lemmas.List.Folds.{map_fixed}
use Rattle.dl_convolution.proofs.Fits.{sum_fits}
use Rattle.dl_halves.proofs.Fits.{first_word, second_word, twice_fits}
use Rattle.dl_halves.proofs.Karatsuba.{item, short_first, short_later}

-- small numbers are their own remainders
words_fixed : (xs : List ℕ) → All (λ x. x < 2 ^ 128) xs → map (λ x. x % 2 ^ 128) xs ≡ xs
words_fixed xs small = map_fixed (λ x. x % 2 ^ 128) xs (λ k d inside. mod-eq_of_lt (small k d inside))

pub exact_sum : (a b new : List ℕ) (s n : ℕ) → ItemsFit a b n → All (λ x. x < 2 ^ 128) new → s < 2 * n
    → item (map (λ x. x % 2 ^ 128) new) s ≡ pair_sum (map (λ x. x % 2 ^ 128) a) (map (λ x. x % 2 ^ 128) b) s % 2 ^ 128
    → item new s ≡ pair_sum a b s
exact_sum a b new s n f fits few e =
    let wide_a : All (λ x. x < 2 ^ 128) a = λ k d inside. omega (arith, first_word f k d inside) in
    let wide_b : All (λ x. x < 2 ^ 128) b = λ k d inside. omega (arith, second_word f k d inside) in
    sym (ap (λ xs. item xs s) (words_fixed new fits)) ∙ e
    ∙ ap₂ (λ xs ys. pair_sum xs ys s % 2 ^ 128) (words_fixed a wide_a) (words_fixed b wide_b)
    ∙ mod-eq_of_lt (omega (arith, twice_fits s f few))

module _ {a b : List ℕ} (h : ℕ) {n : ℕ} (fit : ItemsFit a b n) (half : n ≤ 2 * h) (less : h < n)
    (in_a : n ≤ length a) (in_b : n ≤ length b) (start one : List ℕ)
    (start_is : (s : ℕ) → s < n → item start s ≡ pair_sum (take h a) (take h b) s)
    (one_is : (t : ℕ) → t < n - h → item one t ≡ pair_sum (take (length a - h) (drop h a)) b t) where
  one_whole : (t : ℕ) → t < n - h → item one t ≡ pair_sum (drop h a) b t
  one_whole t inside = one_is t inside ∙ ap (λ xs. pair_sum xs b t)
      (take_all (length a - h) (drop h a) (omega (arith, length-drop h a)))

  sum_is : (t : ℕ) → t < n - h → pair_sum a b (h + t) ≡ item start (h + t) + (item one t + pair_sum a (drop h b) t)
  sum_is t inside = omega (arith, short_later h t a b (omega arith), start_is (h + t) (omega arith), one_whole t inside)

  fits : (t : ℕ) → t < n - h → item start (h + t) + (item one t + pair_sum a (drop h b) t) < 2 ^ 128
  fits t inside = omega (arith, sum_is t inside, sum_fits (h + t) fit (omega arith))

  pub one_fits : (t : ℕ) → t < n - h → item start (h + t) + item one t < 2 ^ 128
  one_fits t inside = omega (arith, fits t inside)

  module _ (two added : List ℕ) (two_is : (t : ℕ) → t < n - h
      → item two t ≡ pair_sum a (take (length b - h) (drop h b)) t)
      (first_added : (t : ℕ) → t < n - h → item added (h + t) ≡ item start (h + t) + item one t)
      (first_kept : (s : ℕ) → s < h → item added s ≡ item start s) where
    two_whole : (t : ℕ) → t < n - h → item two t ≡ pair_sum a (drop h b) t
    two_whole t inside = two_is t inside ∙ ap (λ ys. pair_sum a ys t)
        (take_all (length b - h) (drop h b) (omega (arith, length-drop h b)))

    pub two_fits : (t : ℕ) → t < n - h → item added (h + t) + item two t < 2 ^ 128
    two_fits t inside = omega (arith, fits t inside, first_added t inside, two_whole t inside)

    module _ (after : List ℕ) (second_added : (t : ℕ) → t < n - h
        → item after (h + t) ≡ item added (h + t) + item two t)
        (second_kept : (s : ℕ) → s < h → item after s ≡ item added s) where
      pub all_sums : (s : ℕ) → s < n → item after s ≡ pair_sum a b s
      all_sums s inside = elim (cases_lt s h) [
        | inl p ↦ second_kept s p ∙ first_kept s p ∙ start_is s inside ∙ sym (short_first h s a b p)
        | inr p ↦
            let e : h + (s - h) ≡ s = omega (arith, p) in
            let within : s - h < n - h = omega (arith, p, inside) in
            subst (λ k. item after k ≡ pair_sum a b k) e
            (omega (
              arith,
              second_added (s - h) within,
              first_added (s - h) within,
              two_whole (s - h) within,
              sum_is (s - h) within,
            ))
      ]
