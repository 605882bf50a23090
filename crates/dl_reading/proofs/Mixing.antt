-- The severities of the atoms, and their mixture, mean what the text says.
use Rattle.dl_reading.proofs.Common.{◌≡◌, ◌∙◌, ℕ, ◌+◌, ◌<◌, List, [], ◌∷◌, ◌++◌, map, zip, length, take, get_or, sym, ap, subst, AllZip, All, ◌∣◌, length-map, map_more, Fraction, ◌over◌, Sev, common_denominator, Pairs, probability, HasDistribution, den_divides, Weights, IsWeighing, weighed, mixture, mixed, shares_in_mixture, ◌≤◌, seconds, weighed-back}
use Rattle.std.proofs.lemmas.Slice.Zip.{all_zipped_more, AllZip-long, firsts-zip as zipped_firsts, seconds-zip as zipped_seconds}
use Rattle.dl_reading.proofs.Shared.{fine_with}
use Rattle.dl_reading.proofs.Meaning.{mixture_alike}
use Rattle.dl_reading.proofs.Items.{mixture_products}

pub seconds-zip : (xs : List ℕ) (ys : List Fraction) → length xs ≡ length ys → ys ≡ seconds (zip xs ys)
seconds-zip xs ys e = sym (zipped_seconds xs ys (sym e))

-- as many weights as probabilities
pub weights_length : (probs : List Fraction) (made : Weights) → IsWeighing probs made
    → length made.weights ≡ length probs
weights_length probs made is = sym (length-map made.weights (λ w. w over made.total)) ∙ ap length is.shares

pub weighed_are : (xs : List ℕ) (probs : List Fraction) (made : Weights) → length xs ≡ length probs
    → IsWeighing probs made → weighed xs made ≡ zip xs probs
weighed_are xs probs made same is = weighed-back (zip xs probs) xs made (sym (zipped_firsts xs probs (sym same)))
    (is.shares ∙ seconds-zip xs probs same)

-- ---- one atom more

pub pair-more : {A : Type 0} (g : A → Pairs) (atoms : List A) (i : ℕ) (a : A) (made new : List Sev) (x : Sev)
    → i < length atoms → a ≡ get_or atoms i a
    → AllZip HasDistribution made (map g (take i atoms)) → new ≡ made ++ x ∷ [] → HasDistribution x (g a)
    → AllZip HasDistribution new (map g (take (i + 1) atoms))
pair-more g atoms i a made new x h is so_far pushed m =
    subst (λ ys. AllZip HasDistribution new ys) (ap (λ (b : _). map g (take i atoms) ++ g b ∷ []) is
    ∙ sym (map_more g atoms i a h))
    (subst (λ xs. AllZip HasDistribution xs (map g (take i atoms) ++ g a ∷ [])) (sym pushed)
    (all_zipped_more HasDistribution made (map g (take i atoms)) x (g a) so_far m))

pub pair_length : (xs : List Sev) (ys : List Pairs) → AllZip HasDistribution xs ys → length xs ≡ length ys
pair_length xs ys h = sym (AllZip-long HasDistribution xs ys h)

-- ---- the mixture

module _ (atoms : List Sev) (weights : Weights) (shares : List Fraction) (lists : List Pairs)
    (is : IsWeighing shares weights) (means : AllZip HasDistribution atoms lists) where
  pub mixture_means : (made : Sev) → HasDistribution made (mixture atoms weights) → HasDistribution made (mixed shares lists)
  mixture_means made h x = h x ∙ mixture_alike weights.total atoms weights.weights lists means x
      ∙ ap (λ ws. probability (mixed ws lists) x) is.shares

  pub mixture_fine : (most : ℕ) → common_denominator (shares_in_mixture shares lists) ≤ most
      → common_denominator (map (λ pair. pair.1) (mixture atoms weights)) ≤ most
  mixture_fine most fine =
      let all : List Fraction = shares_in_mixture shares lists in
      fine_with most (map (λ pair. pair.1) (mixture atoms weights)) all
      (mixture_products (λ x. x.den ∣ common_denominator all) weights.total atoms weights.weights lists means
      (subst (λ ws. All (λ x. x.den ∣ common_denominator all) (shares_in_mixture ws lists)) (sym is.shares)
      (den_divides 1 all))) fine
