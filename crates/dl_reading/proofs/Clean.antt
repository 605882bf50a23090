-- Texts without flaws, by their parts.
use Rattle.dl_reading.proofs.Common.{◌≡◌, Bool, true, false, List, [], ◌∷◌, None, All, All-nil, All-cons, IsClean, flaws_else, earlier_flaws, Flaws, flaws_in}
use Rattle.dl_reading.proofs.Agreeing.{keeps_first, keeps_second}

pub record EachNone (f : Flaws) : Type 0 where
  pub numeral : f.numeral ≡ None
  pub range : f.range ≡ None
  pub long : f.long ≡ None
  pub lengths : f.lengths ≡ None
  pub sum : f.sum ≡ None
  pub off_grid : f.off_grid ≡ None
  pub too_far : f.too_far ≡ None

pub each_none : (f : Flaws) → IsClean f → EachNone f
each_none f (n, (r, (l, (m, (s, (o, (t, rest))))))) =
    record { numeral = n; range = r; long = l; lengths = m; sum = s; off_grid = o; too_far = t }

pub clean_first : (f g : Flaws) → IsClean (flaws_else f g) → IsClean f
clean_first f g clean = keeps_first 7 f g clean

pub clean_second : (f g : Flaws) → IsClean (flaws_else f g) → IsClean g
clean_second f g clean = keeps_second 7 f g clean

pub clean_both : (f g : Flaws) → IsClean (flaws_else f g) → IsClean f × IsClean g
clean_both f g clean = (keeps_first 7 f g clean, keeps_second 7 f g clean)

pub clean_earlier : (named : Bool) (own severity : Flaws) → IsClean (earlier_flaws named own severity)
    → IsClean own × IsClean severity
clean_earlier true own severity clean = (clean_second severity own clean, clean_first severity own clean)
clean_earlier false own severity clean = clean_both own severity clean

module _ {A : Type 0} (f : A → Flaws) where
  pub clean_each : (xs : List A) → IsClean (flaws_in f xs) → All (λ x. IsClean (f x)) xs
  unfolding flaws_in
  clean_each [] clean = All-nil (λ x. IsClean (f x))
  clean_each (x ∷ xs) clean = All-cons (λ y. IsClean (f y)) x xs (clean_first (f x) (flaws_in f xs) clean)
      (clean_each xs (clean_second (f x) (flaws_in f xs) clean))
