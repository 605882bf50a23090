use Rattle.dl_panjer.proofs.Common.{ℕ, ◌≡◌, ◌+◌, ◌*◌, ◌/◌, ◌^◌, ◌<◌, ◌≤◌, arith, rules, ap, ap₂, ◌∙◌, div_ceil, ◌+ℚ◌, ◌/ℚ◌, ◌over◌, whole, floor_div, ceiling_div, over_self, one_fits}
use Rattle.dl_panjer.proofs.Recursions.{rate_of}
use Rattle.dl_panjer.proofs.Starts.{ceiling_near, start_small, units_of_reciprocal}
use Rattle.dl_panjer.proofs.geometric.geometric_start.Goals as goal

small_start : (B n d num den : ℕ) → 0 < d → num ≡ d → den ≡ n + d → div_ceil (2 ^ B * num) den ≤ 2 ^ B
small_start B n d num den pos p q = rw (p, q) (start_small (2 ^ B) n d pos)

pub enclose-requires : goal.enclose-requires
enclose-requires g c =
    let beta = c.args.beta in
    let num = c.from.ensures ∙ c.den-2.ensures.part in
    let den = c.from-2.ensures ∙ ap₂ (λ a b. a + b) c.num.ensures.part c.den.ensures.part in
    let hi = small_start g.row.B beta.num beta.den c.from.result c.from-2.result beta.positive num den in
    search (rules, hi, one_fits g.row.B c.requires.scale_below)

pub returns : goal.returns
returns g c =
    let beta = c.args.beta in
    let S : ℕ = 2 ^ g.row.B in
    let p = beta.num in
    let d = beta.den in
    let both : 0 < p + d = omega (arith, beta.positive) in
    let units = units_of_reciprocal S p d beta beta.positive (over_self beta) in
    let num : c.from.result ≡ d = c.from.ensures ∙ c.den-2.ensures.part in
    let den : c.num.result + c.den.result ≡ p + d =
    ap₂ (λ a b. a + b) c.num.ensures.part c.den.ensures.part in
    let low : c.enclose.result.lo ≡ S * d / (p + d) =
    c.enclose.ensures.low ∙ ap₂ (λ a b. S * a / b) num (c.from-2.ensures ∙ den) in
    let high : c.enclose.result.hi ≡ div_ceil (S * d) (p + d) =
    c.enclose.ensures.high ∙ ap₂ (λ a b. div_ceil (S * a) b) num (c.from-2.ensures ∙ den) in
    record {
      rate = ap₂ (λ a b. a over b) c.num-num.ensures.part den ∙ rate_of p d beta.positive
          ∙ ap (λ t. t /ℚ (whole 1 +ℚ t)) (over_self beta);
      num = c.num-num.ensures.part;
      low = rw (← units, low) (floor_div (S * d) (p + d) both);
      high = rw (← units, high) (ceiling_div (S * d) (p + d) both);
      near = rw (low, high) (ceiling_near _ (p + d) both);
      small = rw high (start_small S p d beta.positive);
    }
