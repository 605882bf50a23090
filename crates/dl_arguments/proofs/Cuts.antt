-- What `split_once` and `strip_prefix` say, in the words of the definitions.
use Rattle.dl_arguments.proofs.Common.{◌≡◌, ℕ, ◌<◌, [], ◌∷◌, Option, Some, None, arith, refl, ap, inl, inr, ◌==◌, option_map, Bor, nat_tests, cases_Bool, behind_sign, cut_at, Text, ◌≢◌, MatchOption, found_any, none_any, IsSplitOnceResult, split_once_first}

abbrev both_now : Bor Text × Bor Text → Text × Text
both_now cut = (cut.0.now, cut.1.now)

pub cut_is : (s : ℕ) (text : Text) (r : Option (Bor Text × Bor Text)) → IsSplitOnceResult s text r → s < 128
    → option_map both_now r ≡ cut_at s text
cut_is s text None h small = grind (arith, split_once_first s text None h small, none_any)
cut_is s text (Some x) h small = grind (arith, split_once_first s text (Some x) h small, found_any)

pub behind_is : (text : Text) (r : Option (Bor Text))
    → MatchOption r ((rest : Text) → text ≢ 115 ∷ rest) (λ x. text ≡ 115 ∷ x.now)
    → option_map (λ s. s.now) r ≡ behind_sign 115 text
behind_is text (Some x) h = rw h refl
behind_is [] None h = refl
behind_is (c ∷ cs) None h = elim (cases_Bool (c == 115)) [
  | inl hit ↦ let e : c ≡ 115 = grind (arith, nat_tests, hit) in absurd (h cs (ap (λ b. b ∷ cs) e))
  | inr miss ↦ rw miss refl
]
