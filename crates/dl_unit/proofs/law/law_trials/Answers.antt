-- The number of trials is a sum of single trials.
use Rattle.dl_unit.proofs.Common.{◌≡◌, ℕ, ◌*◌, ◌<◌, ◌≤◌, arith, binomial, IsSeverity, trial, binomial_power, power_severity}
use Rattle.dl_unit.proofs.law.law_trials.Goals as goal

trials_severity : (m a b : ℕ) → 0 < b → a ≤ b → IsSeverity (binomial m a b) m
trials_severity m a b pos h =
    let once : m * 1 ≡ m = omega arith in
    rw (binomial_power a b pos m, once) at (power_severity (binomial 1 a b) 1 (trial a b pos h) m)

pub returns-clause-add_up : goal.returns-clause-add_up
returns-clause-add_up c m a b pos h = (trials_severity m a b pos h).add_up

pub returns-clause-past : goal.returns-clause-past
returns-clause-past c m a b n pos h past = (trials_severity m a b pos h).past n past
