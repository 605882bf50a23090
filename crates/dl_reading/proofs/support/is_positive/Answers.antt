-- A share of so many is positive.
use Rattle.dl_reading.proofs.Common.{ℕ, ◌≡◌, ◌∙◌, ◌<◌, get_or, sym, ap, arith, true, Fraction, ◌over◌, over_lt, replicate, get_or-replicate}
use Rattle.dl_reading.proofs.Positive.{is_positive, positive_yes}
use Rattle.dl_reading.proofs.support.is_positive.Goals as goal

equal_positive : (n i : ℕ) (d : Fraction) → i < n → true ≡ is_positive (get_or (replicate n (1 over n)) i d)
equal_positive n i d h =
    sym (positive_yes (1 over n) (over_lt 0 1 1 n (omega arith) (omega (arith, h)) (omega arith)))
    ∙ ap is_positive (sym (get_or-replicate n i (1 over n) d h))

pub returns-in-None : goal.returns-in-None
returns-in-None c = rw c.in-None.is (λ n d within. equal_positive n c.args.at d within)
