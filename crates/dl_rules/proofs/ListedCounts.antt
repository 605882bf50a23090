-- Listed counts: what the rules leave of them, and what their table is.
use Rattle.dl_rules.proofs.Common.{inl, inr, subst, admitted_bound, ◌≡◌, ◌∙◌, ℕ, ◌*◌, ◌≤◌, ◌==◌, false, not, nat_lt, List, [], ◌∷◌, zip, map, length, get_or, Option, Some, None, sym, ap, ap₂, arith, All, All-nil, All-cons, All-head, All-tail, All-map, sum_by-cons, most_count, Fraction, whole, ◌over◌, Item, Sev, HasPartsOf48Bits, HasDistribution, whole_num, whole_den, ValueList, Shares, probs_of, is_whole, not_at, not-false, pairs_of_counts, passes, never, items_in, eqb-true, length-replicate, mul-le-mul_right, weight_sum, weighted_sum, num_of_over-le, den_of_over-le, total_pos, within, other_length, support_all, cases_lt, over_same, AreCounts}

-- ---- limits

times_one : (n : ℕ) → n ≡ n * 1
times_one n = omega arith

pub passes_is : (k : ℕ) (x : Fraction) → nat_lt (k * x.den) x.num ≡ passes x k
passes_is k x =
    ap₂ (λ a b. nat_lt a b) (ap (λ t. t * x.den) (sym (whole_num k)))
    (times_one x.num ∙ ap (λ t. x.num * t) (sym (whole_den k)))

small : (x : Fraction) → not (is_whole x) ≡ false → passes x most_count ≡ false → x.num ≤ most_count
small x whole few = go x.num x.den whole (passes_is most_count x ∙ few)
  where
    go : (n d : ℕ) → not (d == 1) ≡ false → nat_lt (most_count * d) n ≡ false → n ≤ most_count
    go n d a b = grind arith

pub small_values : (counts : ValueList) (probs : Option Shares) → AreCounts counts probs
    → All (λ (x : Fraction). x.num ≤ most_count) counts.values
small_values counts probs are k d h =
    small (get_or counts.values k d) (never (λ x. not (is_whole x)) counts.values are.whole k d h)
    (never (λ x. passes x most_count) counts.values are.few k d h)

-- ---- the table

pub same_length : (values : ValueList) (probs : Option Shares) → within (other_length values) probs ≡ None
    → length (probs_of values probs) ≡ length values.values
unfolding other_length
same_length values None e = length-replicate (length values.values) (1 over length values.values)
same_length values (Some l) e = sym (eqb-true (length values.values) (length l.values)
    (not-false _ (not_at _ l.span e)))

all_zip : (Q : ℕ → Type 0) (xs : List ℕ) (ps : List Fraction) → All Q xs → All (λ pair. Q pair.0) (zip xs ps)
all_zip Q [] ps h = All-nil (λ pair. Q pair.0)
all_zip Q (x ∷ xs) [] h = All-nil (λ pair. Q pair.0)
all_zip Q (x ∷ xs) (p ∷ ps) h = All-cons (λ pair. Q pair.0) (x, p) (zip xs ps) (All-head Q x xs h)
    (all_zip Q xs ps (All-tail Q x xs h))

pub small_table : (counts : ValueList) (probs : Option Shares) → AreCounts counts probs → (sev : Sev)
    → HasDistribution sev (pairs_of_counts counts probs) → All (λ (i : Item). i.amount ≤ most_count) sev.items
small_table counts probs are sev means =
    let numbers : List ℕ = map (λ (x : Fraction). x.num) counts.values in
    items_in sev (pairs_of_counts counts probs) means (λ n. n ≤ most_count)
    (support_all (λ n. n ≤ most_count) (pairs_of_counts counts probs)
    (all_zip (λ n. n ≤ most_count) numbers (probs_of counts probs)
    (All-map (λ n. n ≤ most_count) (λ (x : Fraction). x.num) counts.values (small_values counts probs are))))

weighted_within : (items : List Item) → All (λ (i : Item). i.amount ≤ most_count) items
    → weighted_sum items ≤ most_count * weight_sum items
weighted_within [] h = omega arith
weighted_within (i ∷ items) h =
    let first : i.amount * i.weight ≤ most_count * i.weight =
    mul-le-mul_right i.weight (All-head (λ (j : Item). j.amount ≤ most_count) i items h) in
    let rest : weighted_sum items ≤ most_count * weight_sum items =
    weighted_within items (All-tail (λ (j : Item). j.amount ≤ most_count) i items h) in
    omega (
      arith,
      first,
      rest,
      sum_by-cons (λ (j : Item). j.amount * j.weight) i items,
      sum_by-cons (λ (j : Item). j.weight) i items,
    )

pub table_admitted : (sev : Sev) → All (λ (i : Item). i.amount ≤ most_count) sev.items
    → HasPartsOf48Bits (weighted_sum sev.items over sev.total)
table_admitted sev few =
    let t = sev.total in
    let s = weighted_sum sev.items in
    let small : s ≤ most_count * weight_sum sev.items = weighted_within sev.items few in
    elim (cases_lt s admitted_bound) [
      | inl below ↦ record {
        num = omega (arith, num_of_over-le s t (total_pos sev), below);
        den = omega (arith, den_of_over-le s t (total_pos sev), sev.weighted.within);
      }
      | inr far ↦
          let all : s ≡ most_count * t = omega (arith, far, small, sev.weighted.sum, sev.weighted.within) in
          subst HasPartsOf48Bits (over_same most_count 1 s t (omega arith) (total_pos sev) (omega (arith, all)))
          (record {
            num = omega (arith, num_of_over-le most_count 1 (omega arith));
            den = omega (arith, den_of_over-le most_count 1 (omega arith));
          })
    ]
