-- Claims above 0.
use Rattle.dl_unit.proofs.Common.{zero, suc, ◌≡◌, [], ◌∷◌, arith, refl, sym, ap, ◌∙◌, ne_eqb, Fraction, ◌over◌, whole, ◌+ℚ◌, ◌/ℚ◌, over_zero, Sev, conditioned, probability_of, pairs_of, HasDistribution, nat_lt, zero-lt-suc, lt-ltb, sum_over, zero_plus, Pairs, probability, filter, map, over_self}

pub no_parts : (x : Fraction) → x.num ≡ 0 → x ≡ whole 0
no_parts x e = sym (over_self x) ∙ ap (λ n. n over x.den) e ∙ over_zero x.den x.positive

-- amounts above 0, each over a weight, have nothing at 0
above_zero : (all : Fraction) (pairs : Pairs)
    → probability (map (λ pair. (pair.0, pair.1 /ℚ all)) (filter (λ pair. nat_lt 0 pair.0) pairs)) 0 ≡ whole 0
unfolding sum_over
above_zero all [] = refl
above_zero all ((zero, x) ∷ pairs) = above_zero all pairs
above_zero all ((suc n, x) ∷ pairs) = rw (lt-ltb 0 (suc n) (zero-lt-suc n), ne_eqb (suc n) 0 (omega arith))
    (ap (λ t. whole 0 +ℚ t) (above_zero all pairs) ∙ zero_plus (whole 0))

pub no_zero : (sev positive : Sev) → HasDistribution positive (conditioned 0 (pairs_of sev)) → probability_of positive 0 ≡ whole 0
no_zero sev positive means = means 0 ∙ above_zero _ (pairs_of sev)
