-- Parts of lists whose items have room for the sums of their products.
use Rattle.dl_halves.proofs.Common.{ℕ, suc, ◌≡◌, ◌-◌, ◌*◌, ◌^◌, ◌<◌, ◌≤◌, List, length, take, drop, arith, All, le_trans, mul-le-mul_right, pair_sum, ItemsFit, length-take, length-drop}
use Rattle.std.proofs.lemmas.List.Elements.{All-drop, All-take}
use Rattle.dl_convolution.proofs.Fits.{sum_bound}

-- an item is below 2^56
pub first_word : {a b : List ℕ} {n : ℕ} → ItemsFit a b n → All (λ x. x ≤ 2 ^ 56) a
first_word f k d inside = le_trans (f.first k d inside) f.room.word

pub second_word : {a b : List ℕ} {n : ℕ} → ItemsFit a b n → All (λ y. y ≤ 2 ^ 56) b
second_word f k d inside = le_trans (f.second k d inside) f.room.word

pub first_part : {a b : List ℕ} {n : ℕ} (p e : ℕ) → ItemsFit a b n → ItemsFit (take e (drop p a)) b n
first_part {a} p e f = record {
  top = f.top;
  first = All-take (λ x. x ≤ f.top) e (drop p a) (All-drop (λ x. x ≤ f.top) p a f.first);
  second = f.second;
  room = f.room;
  few = f.few;
}

pub second_part : {a b : List ℕ} {n : ℕ} (p e : ℕ) → ItemsFit a b n → ItemsFit a (take e (drop p b)) n
second_part {b = b} p e f = record {
  top = f.top;
  first = f.first;
  second = All-take (λ y. y ≤ f.top) e (drop p b) (All-drop (λ y. y ≤ f.top) p b f.second);
  room = f.room;
  few = f.few;
}

-- as many items as a list has from place h on
pub rest_long : (h : ℕ) (xs : List ℕ) → length (take (length xs - h) (drop h xs)) ≡ length xs - h
rest_long h xs = omega (arith, length-take (length xs - h) (drop h xs), length-drop h xs)

pub twice_fits : {a b : List ℕ} {n : ℕ} (s : ℕ) → ItemsFit a b n → s < 2 * n → pair_sum a b s ≤ 2 ^ 127
twice_fits {n = n} s f inside =
    let more : suc s * (f.top * f.top) ≤ (2 * n) * (f.top * f.top) = mul-le-mul_right (f.top * f.top) inside in
    omega (arith, sum_bound f s, more, f.room.sums)
