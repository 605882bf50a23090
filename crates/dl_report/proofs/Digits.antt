-- The last decimal digits of a number, one after another.
use Rattle.dl_report.proofs.Common.{ℕ, ◌≡◌, ◌+◌, ◌-◌, ◌/◌, ◌%◌, ◌^◌, ◌<◌, ◌∙◌, zero, suc, ◌∷◌, ap, sym, arith, refl, one-le-pow, last_digits, ◌*◌, add-mul-div_left, add-mul-mod_self_left, mod-add-div, pow-succ'}

-- the next of them, and those behind it
pub next_digit : (n count done : ℕ) → done < count
    → last_digits (count - done) n ≡ (48 + n / 10 ^ (count - 1 - done) % 10) ∷ last_digits (count - (done + 1)) n
unfolding last_digits
next_digit n count done h =
    let here : count - done ≡ suc (count - 1 - done) = omega arith in
    let next : count - (done + 1) ≡ count - 1 - done = omega arith in
    rw (here, next) refl

-- higher digits do not count
low_digits : (d n k : ℕ) → last_digits d (n + 10 ^ d * k) ≡ last_digits d n
unfolding last_digits
low_digits zero n k = refl
low_digits (suc d) n k =
    let more : n + 10 ^ suc d * k ≡ n + 10 ^ d * (10 * k) = rw (pow-succ' 10 d) (omega arith) in
    let front : (n + 10 ^ d * (10 * k)) / 10 ^ d ≡ n / 10 ^ d + 10 * k =
    add-mul-div_left n (10 * k) (one-le-pow d 10 (omega arith)) in
    rw (more, low_digits d n (10 * k), front, add-mul-mod_self_left (n / 10 ^ d) 10 k) refl

pub rest_digits : (d n : ℕ) → last_digits d (n % 10 ^ d) ≡ last_digits d n
rest_digits d n = sym (low_digits d (n % 10 ^ d) (n / 10 ^ d)) ∙ ap (last_digits d) (mod-add-div n (10 ^ d))
