use Rattle.dl_unit.proofs.Common.{ℕ, ◌≡◌, ◌/◌, ◌%◌, ◌^◌, ◌<◌, ◌≤◌, arith, sym, ap₂, ◌∙◌, pow_pos, IfOk-weaker, whole, ◌over◌, Fraction, HasPartsOf48Bits, compound_proper, gamma_of, probability_of, within_one, inl, inr, eq-zero-or-pos, mod-lt, ◌<ℚ◌, below_one, over_pos, one_pos, over_lt, over_num_le, over_den_le, if_ok_two, given_ok, given_value, over_fits, IsShape, rest_part, whole_part, whole_few, whole_some}
use Rattle.dl_unit.proofs.Shapes.{mean_of, whole_encloses, both_enclose, below_within, whole_within, both_within}
use Rattle.dl_unit.proofs.unbounded.gamma_claims.Goals as goal

-- the parts of a shape, from its numbers as they are read
module _ (shape : Fraction) (n d : ℕ) (num : n ≡ shape.num) (den : d ≡ shape.den) where
  count_is : n / d ≡ whole_part shape
  count_is = ap₂ (λ a b. a / b) num den

  rest_is : n % d ≡ shape.num % shape.den
  rest_is = ap₂ (λ a b. a % b) num den

  count_fits : IsShape shape → n / d < 2 ^ 32
  count_fits s = omega (arith, whole_few shape s, count_is)

  some_times : d ≤ n → 1 ≤ whole_part shape
  some_times h = whole_some shape (omega (arith, num, den, h))

  -- the rest, as it is made
  rest_value : (a b : ℕ) (x : Fraction) → a ≡ n % d → b ≡ d → x ≡ a over b → x ≡ rest_part shape
  rest_value a b x p q e = e ∙ ap₂ (λ y z. y over z) (p ∙ rest_is) (q ∙ den)

-- it is above 0 and below 1, and as fine as the shape
rest_above : (shape : Fraction) → 0 < shape.num % shape.den → whole 0 <ℚ rest_part shape
rest_above shape some = over_pos _ shape.den some shape.positive

rest_below : (shape : Fraction) → rest_part shape <ℚ whole 1
rest_below shape = over_lt _ _ 1 1 shape.positive one_pos (omega (arith, mod-lt shape.num shape.positive))

rest_admitted : (shape : Fraction) → HasPartsOf48Bits shape → HasPartsOf48Bits (rest_part shape)
rest_admitted shape fine = record {
  num = omega (
    arith,
    over_num_le (shape.num % shape.den) shape.den shape.positive,
    mod-lt shape.num shape.positive,
    fine.den,
  );
  den = omega (arith, over_den_le (shape.num % shape.den) shape.den shape.positive, fine.den);
}

some_rest : (r n d : ℕ) → n % d ≡ r → (n % d ≡ 0 → ⊥) → 0 < r
some_rest r n d e none = elim (eq-zero-or-pos r) [
  | inl z ↦ absurd (none (e ∙ z))
  | inr p ↦ p
]

pub shape_base-requires : goal.shape_base-requires
shape_base-requires g c =
    let beta = given_value _ _ c.unwrap-beta.result c.div.ensures c.unwrap-beta.ensures in
    let below = below_one c.args.shape (omega (arith, c.num-num.ensures.part, c.den-den.ensures.part, c.if-num-den.true)) in
    (omega arith, (c.requires.size, (c.requires.no_zero, (c.requires.shape.above, (below, (c.requires.shape.admitted, rw beta c.requires.few))))))

pub returns-then-num-den-clause-encloses : goal.returns-then-num-den-clause-encloses
returns-then-num-den-clause-encloses g c =
    let beta = given_value _ _ c.unwrap-beta.result c.div.ensures c.unwrap-beta.ensures in
    let mean = mean_of c.args.shape c.args.mean c.unwrap-beta.result c.requires.shape.above beta in
    IfOk-weaker c.shape_base.result _ _ (λ grid encloses. rw mean at encloses) c.shape_base.ensures.encloses

pub returns-then-num-den-clause-spread : goal.returns-then-num-den-clause-spread
returns-then-num-den-clause-spread g c =
    let beta = given_value _ _ c.unwrap-beta.result c.div.ensures c.unwrap-beta.ensures in
    IfOk-weaker c.shape_base.result _ _ (λ grid narrow. below_within (2 ^ g.row.B) c.args.cells c.args.shape c.args.mean
    c.unwrap-beta.result (pow_pos g.row.B) beta _ c.requires.shape.above
    (omega (arith, c.num-num.ensures.part, c.den-den.ensures.part, c.if-num-den.true)) narrow) c.shape_base.ensures.spread

pub overflow_cast-num : goal.overflow_cast-num
overflow_cast-num g c = record {
  fits = count_fits c.args.shape _ _ c.num-num.ensures.part c.den-den.ensures.part c.requires.shape;
}

pub returns-then-num-den-eq0-clause-encloses : goal.returns-then-num-den-eq0-clause-encloses
returns-then-num-den-eq0-clause-encloses g c =
    let shape = c.args.shape in
    let num = c.num-num.ensures.part in
    let den = c.den-den.ensures.part in
    let beta = given_value _ _ c.unwrap-beta.result c.div.ensures c.unwrap-beta.ensures in
    let k_is = count_is shape _ _ num den in
    whole_encloses shape c.args.mean c.unwrap-beta.result c.requires.shape.above beta (probability_of c.args.sev.now)
    _ (omega (arith, k_is, some_times shape _ _ num den c.if-num-den.false)) k_is c.in_ok-whole.whole
    (sym (rest_is shape _ _ num den) ∙ c.if-num-den-eq0.true)
    (c.in_ok-whole.ensures.encloses _ (compound_proper (gamma_of (whole 1) c.unwrap-beta.result)
    (probability_of c.args.sev.now) (within_one c.args.sev.now)) c.in_ok-base.ensures.encloses)

pub returns-then-num-den-eq0-clause-spread : goal.returns-then-num-den-eq0-clause-spread
returns-then-num-den-eq0-clause-spread g c =
    let shape = c.args.shape in
    let num = c.num-num.ensures.part in
    let den = c.den-den.ensures.part in
    let beta = given_value _ _ c.unwrap-beta.result c.div.ensures c.unwrap-beta.ensures in
    whole_within (2 ^ g.row.B) c.args.cells shape c.args.mean c.unwrap-beta.result (pow_pos g.row.B) beta
    _ _ _ (sym (rest_is shape _ _ num den) ∙ c.if-num-den-eq0.true) c.in_ok-base.ensures.spread
    (count_is shape _ _ num den) c.in_ok-whole.ensures.spread

pub unwrap-rest-requires : goal.unwrap-rest-requires
unwrap-rest-requires g c =
    let p : 0 < c.den-den.result = c.den-den.ensures.positive in
    given_ok c.make.result (c.from.result over c.from-2.result) c.make.ensures
    (over_fits _ _ (omega (arith, c.from-2.ensures, p))
    (omega (arith, c.from.ensures, mod-lt c.num-num.result p, c.den-den.ensures.fits))
    (omega (arith, c.from-2.ensures, c.den-den.ensures.fits)))

pub shape_base-requires-2 : goal.shape_base-requires-2
shape_base-requires-2 g c =
    let shape = c.args.shape in
    let num = c.num-num.ensures.part in
    let den = c.den-den.ensures.part in
    let beta = given_value _ _ c.unwrap-beta.result c.div.ensures c.unwrap-beta.ensures in
    let rest = rest_value shape _ _ num den _ _ c.unwrap-rest.result c.from.ensures c.from-2.ensures
    (given_value _ _ c.unwrap-rest.result c.make.ensures c.unwrap-rest.ensures) in
    let some = some_rest _ _ _ (rest_is shape _ _ num den) c.if-num-den-eq0.false in (
      omega arith,
      (
        c.requires.size,
        (
          c.requires.no_zero,
          (
            rw rest (rest_above shape some),
            (
              rw rest (rest_below shape),
              (rw rest (rest_admitted shape c.requires.shape.admitted), rw beta c.requires.few),
            ),
          ),
        ),
      ),
    )

pub returns-clause-encloses : goal.returns-clause-encloses
returns-clause-encloses g c =
    let shape = c.args.shape in
    let num = c.num-num.ensures.part in
    let den = c.den-den.ensures.part in
    let beta = given_value _ _ c.unwrap-beta.result c.div.ensures c.unwrap-beta.ensures in
    let f = probability_of c.args.sev.now in
    let within = within_one c.args.sev.now in
    let k_is = count_is shape _ _ num den in
    let rest = rest_value shape _ _ num den _ _ c.unwrap-rest.result c.from.ensures c.from-2.ensures
    (given_value _ _ c.unwrap-rest.result c.make.ensures c.unwrap-rest.ensures) in
    let some = some_rest _ _ _ (rest_is shape _ _ num den) c.if-num-den-eq0.false in
    let copies = c.in_ok-whole.ensures.encloses _ (compound_proper (gamma_of (whole 1) c.unwrap-beta.result) f within)
    c.in_ok-base.ensures.encloses in
    let part = rw rest at c.in_ok-part.ensures.encloses in
    if_ok_two c.product.result _ _ _ (λ grid cells convolution.
    both_enclose shape c.args.mean c.unwrap-beta.result c.requires.shape.above beta f
    _ (omega (arith, k_is, some_times shape _ _ num den c.if-num-den.false)) k_is c.in_ok-whole.whole c.in_ok-part.part
    grid c.args.cells within some (omega (arith, c.in_ok-whole.ensures.cells)) (omega (arith, c.in_ok-part.ensures.cells))
    cells convolution copies part) c.product.ensures.cells c.product.ensures.convolution

pub returns-clause-spread : goal.returns-clause-spread
returns-clause-spread g c =
    let shape = c.args.shape in
    let num = c.num-num.ensures.part in
    let den = c.den-den.ensures.part in
    let beta = given_value _ _ c.unwrap-beta.result c.div.ensures c.unwrap-beta.ensures in
    let some = some_rest _ _ _ (rest_is shape _ _ num den) c.if-num-den-eq0.false in
    IfOk-weaker c.product.result _ _ (λ grid narrow.
    both_within (2 ^ g.row.B) c.args.cells shape c.args.mean c.unwrap-beta.result (pow_pos g.row.B) beta
    _ _ _ _ _ some (some_times shape _ _ num den c.if-num-den.false) c.in_ok-base.ensures.spread
    (count_is shape _ _ num den) c.in_ok-whole.ensures.spread c.in_ok-part.ensures.spread narrow) c.product.ensures.spread
