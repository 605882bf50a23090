-- The part of a joint mean that belongs to the tail: how large it is, and how far apart its ends lie. The ends of the
-- joint mean at x are jl and jh, those of what the distribution has above the level al and ah, and those of the
-- probability of x pl and ph; no low end of the joint mean is above x times a high end of that probability.
use Rattle.dl_shares.proofs.Common.{ℕ, inl, inr, ◌≡◌, ◌+◌, ◌-◌, ◌*◌, ◌/◌, ◌^◌, ◌<◌, ◌≤◌, arith, refl, ap, div_ceil, div_ceil_least, div_ceil_times, mul-le-mul, mul-le-mul_left, mul-le-mul_right, mul-pos, HasRoom, le_of_mul-le-mul_right, lt-div-mul-add, div-mul-le_self, div-le_of_le-mul, le-leb, lt-leb, leb_tells, part_down, part_up}

-- ---- the two cases

pub whole_down : (j a p : ℕ) → p ≤ a → part_down j a p ≡ j
whole_down j a p all = rw (le-leb p a all) refl

pub some_down : (j a p : ℕ) → a < p → part_down j a p ≡ j * a / p
some_down j a p some = rw (lt-leb p a some) refl

pub whole_up : (j a p : ℕ) → p ≤ a → part_up j a p ≡ j
whole_up j a p all = rw (le-leb p a all) refl

pub some_up : (j a p : ℕ) → a < p → part_up j a p ≡ div_ceil (j * a) p
some_up j a p some = rw (lt-leb p a some) refl

-- ---- no more than the whole

pub down_most : (j a p : ℕ) → part_down j a p ≤ j
down_most j a p = elim (leb_tells p a) [
  | inl all ↦ rw all.0 (omega arith)
  | inr some ↦
      let few : j * a ≤ j * p = mul-le-mul_left j (omega (arith, some.1)) in
      rw some.0 (div-le_of_le-mul p (omega (arith, few)))
]

pub up_most : (j a p : ℕ) → part_up j a p ≤ j
up_most j a p = elim (leb_tells p a) [
  | inl all ↦ rw all.0 (omega arith)
  | inr some ↦ rw some.0
      (div_ceil_least (j * a) p j (omega (arith, some.1)) (mul-le-mul_left j (omega (arith, some.1))))
]

-- times the probability, the low end is no more than what the part is of it
pub down_reaches : (j a p : ℕ) → part_down j a p * p ≤ j * a
down_reaches j a p = elim (leb_tells p a) [
  | inl all ↦ rw all.0 (mul-le-mul_left j all.1)
  | inr some ↦ rw some.0 (div-mul-le_self (j * a) p)
]

-- the product has room
pub part_fits : (S x j a : ℕ) → 0 < S → HasRoom (x + 1) S → j ≤ 4 * x * S → a ≤ S → j * a < 2 ^ 128
part_fits S x j a some room few small = omega (arith, mul-le-mul few small, room.sums, mul-pos some some)

-- none where nothing lies above the level
none_of : {n : ℕ} → n ≤ 0 → n ≡ 0
none_of h = omega arith

pub down_none : (j p x : ℕ) → j ≤ x * p → part_down j 0 p ≡ 0
down_none j p x few = elim (leb_tells p 0) [
  | inl all ↦ rw all.0 (omega (arith, few, mul-le-mul_left x all.1))
  | inr some ↦ rw some.0 (none_of (div-le_of_le-mul p (omega arith)))
]

-- ---- the low end below the high end

pub in_order : (jl jh al ah pl ph : ℕ) → jl ≤ jh → al ≤ ah → pl ≤ ph → part_down jl al ph ≤ part_up jh ah pl
in_order jl jh al ah pl ph j a p = elim (leb_tells pl ah) [
  | inl all ↦ rw all.0 (omega (arith, down_most jl al ph))
  | inr some ↦ elim (leb_tells ph al) [
    | inl more ↦ absurd (omega (arith, some.1, more.1))
    | inr less ↦ rw (some.0, less.0) (parts (jl * al / ph) (div_ceil (jh * ah) pl) (omega (arith, some.1))
        (div-mul-le_self (jl * al) ph) (div_ceil_times (jh * ah) pl (omega (arith, some.1))).0)
  ]
]
  where
    parts : (f c : ℕ) → 0 < pl → f * ph ≤ jl * al → jh * ah ≤ c * pl → f ≤ c
    parts f c pos low high =
        le_of_mul-le-mul_right {k = pl} (omega (arith, mul-le-mul_left f p, mul-le-mul j a)) pos

-- ---- how far apart

-- how far the low end is from the whole
pub whole_near : (jl al ph x : ℕ) → jl ≤ x * ph → jl ≤ part_down jl al ph + x * (ph - al) + 1
whole_near jl al ph x few = elim (leb_tells ph al) [
  | inl all ↦ rw all.0 (omega arith)
  | inr some ↦ rw some.0 (near (jl * al / ph) (ph - al) (omega (arith, some.1))
      (omega (arith, lt-div-mul-add {a = jl * al} {b = ph} (omega (arith, some.1)))) (omega (arith, some.1)))
]
  where
    near : (f r : ℕ) → 0 < ph → jl * al ≤ f * ph + ph → ph ≡ al + r → jl ≤ f + x * r + 1
    near f r pos low is = le_of_mul-le-mul_right {k = ph}
        (omega (arith, ap (λ t. jl * t) is, mul-le-mul_right r few)) pos

pub part_narrow : (jl jh al ah pl ph x : ℕ) → jl ≤ jh → al ≤ ah → pl ≤ ph → jl ≤ x * ph
    → part_up jh ah pl ≤ part_down jl al ph + (jh - jl) + x * ((ah - al) + (ph - pl)) + 2
part_narrow jl jh al ah pl ph x j a p few = elim (leb_tells pl ah) [
  | inl all ↦ rw all.0
      (omega (arith, whole_near jl al ph x few, further (omega (arith, all.1))))
  | inr some ↦ elim (leb_tells ph al) [
    | inl more ↦ absurd (omega (arith, some.1, more.1))
    | inr less ↦ rw (some.0, less.0) (div_ceil_least (jh * ah) pl _ (omega (arith, some.1))
        (both (jl * al / ph) (ah - al) (ph - pl) (jh - jl) (omega (arith, some.1)) (omega arith) (omega arith)
        (omega arith)
        (omega (arith, some.1)) (omega (arith, lt-div-mul-add {a = jl * al} {b = ph} (omega (arith, some.1))))))
  ]
]
  where
    further : pl ≤ ah → x * (ph - al) ≤ x * ((ah - al) + (ph - pl))
    further all = mul-le-mul_left x (omega arith)

    -- over both probabilities at once
    ends : (f v w : ℕ) → 0 < ph → ah ≡ al + v → ph ≡ pl + w → ah ≤ pl → jl * al ≤ f * ph + ph
        → jl * ah ≤ (f + x * (v + w) + 1) * pl
    ends f v w pos above at within low = le_of_mul-le-mul_right {k = ph} (omega (
      arith,
      ap (λ t. jl * ah * t) at,
      ap (λ t. jl * t * pl) above,
      mul-le-mul_right pl low,
      mul-le-mul_right (v * pl) few,
      mul-le-mul_right (pl * w) few,
      mul-le-mul_left (jl * w) within,
    )) pos

    both : (f v w d : ℕ) → 0 < pl → ah ≡ al + v → ph ≡ pl + w → jh ≡ jl + d → ah ≤ pl → jl * al ≤ f * ph + ph
        → jh * ah ≤ (f + d + x * (v + w) + 2) * pl
    both f v w d pos above at joint within low = omega (
      arith,
      ends f v w (omega arith) above at within low,
      ap (λ t. t * ah) joint,
      mul-le-mul_left d within,
    )
