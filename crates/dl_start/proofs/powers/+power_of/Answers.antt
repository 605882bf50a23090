use Rattle.dl_start.proofs.Common.{◌≡◌, suc, ◌+◌, ◌/◌, arith, mul-le-mul_right, div-mul-le_self, power, power_plus, power_one}
use Rattle.dl_start.proofs.powers.+power_of.Goals as goal

pub returns-then-n-eq1-clause-holds : goal.returns-then-n-eq1-clause-holds
returns-then-n-eq1-clause-holds t c w h = rw (c.if-n-eq1.true, power_one w) h

pub times-square-requires : goal.times-square-requires
times-square-requires t c = record { room = grind (arith, mul-le-mul_right c.args.x.exponent (div-mul-le_self c.args.n 2)) }

pub returns-then-n-eq0-clause-room : goal.returns-then-n-eq0-clause-room
returns-then-n-eq0-clause-room t c = grind (arith, mul-le-mul_right c.args.x.exponent (div-mul-le_self c.args.n 2))

pub returns-then-n-eq0-clause-holds : goal.returns-then-n-eq0-clause-holds
returns-then-n-eq0-clause-holds t c w h =
    let m = c.args.n / 2 in
    let e : m + m ≡ c.args.n = omega arith in
    let r = c.power_of-root.ensures.holds w h in
    rw (← e, power_plus w m m) (c.times-square.ensures.holds (power w m) (power w m) r r)

pub returns-else-n-eq0-clause-holds : goal.returns-else-n-eq0-clause-holds
unfolding power
returns-else-n-eq0-clause-holds t c w h =
    let m = c.args.n / 2 in
    let e : suc (m + m) ≡ c.args.n = omega arith in
    let r = c.power_of-root.ensures.holds w h in
    let square = rw (← power_plus w m m) at (c.times-square.ensures.holds (power w m) (power w m) r r) in
    rw (← e) (c.times.ensures.holds w (power w (m + m)) h square)
