use Rattle.dl_outcomes.proofs.Common.{ℕ, ◌≡◌, ◌+◌, ◌-◌, ◌*◌, ◌<◌, ◌≤◌, arith, sym, mul-div_cancel, mul-mod_left, mod-mul-add}
use Rattle.std.specs.Prelude.{◌%◌, ◌/◌}
use Rattle.dl_outcomes.proofs.factor.Factor.product.Goals as goal

rest_is : (n d q : ℕ) → q * d ≤ n → n - q * d < d → n - q * d ≡ n % d
rest_is n d q le less =
    let whole : q * d + (n - q * d) ≡ n = omega arith in sym (rw whole at (mod-mul-add q d (n - q * d) less))

pub returns-then-rest-by-clause-rest : goal.returns-then-rest-by-clause-rest
returns-then-rest-by-clause-rest c =
    let rest = rest_is (c.from.result * c.from-2.result) c.from-by.result c.from-3.result (omega arith) (omega arith) in cc

itself : (x t d : ℕ) → 0 < d → t ≡ d → (x ≡ x * t / d) × (0 ≡ x * t % d)
itself x t d pos same = rw same (sym (mul-div_cancel x pos), sym (mul-mod_left x d))

pub returns-then-self-clause-whole : goal.returns-then-self-clause-whole
returns-then-self-clause-whole c = (itself c.args.x c.args.self.times c.args.self.by c.args.self.positive (cc)).0

pub returns-then-self-clause-rest : goal.returns-then-self-clause-rest
returns-then-self-clause-rest c = (itself c.args.x c.args.self.times c.args.self.by c.args.self.positive (cc)).1
