use Rattle.dl_cert.proofs.Common.{◌-◌, arith, sym}
use Rattle.dl_cert.proofs.Weights.{none_reached, last_reached, not_reached}
use Rattle.dl_cert.proofs.bases.weight_of.Goals as goal

pub returns-then-count-eq0 : goal.returns-then-count-eq0
returns-then-count-eq0 c =
    let r = c.count_at_most-count.ensures in
    sym (none_reached c.args.items.now c.requires.rising c.args.amount c.count_at_most-count.result r.before r.after
    c.if-count-eq0.true)

pub returns-then-items-count : goal.returns-then-items-count
returns-then-items-count c =
    let r = c.count_at_most-count.ensures in
    sym (not_reached c.args.items.now c.requires.rising c.args.amount c.count_at_most-count.result r.before r.after
    (c.count_at_most-count.result - 1) (omega (arith, c.if-count-eq0.false)) r.bound record { amount = 0; weight = 0 }
    c.if-items-count.true)

pub returns : goal.returns
returns c =
    let r = c.count_at_most-count.ensures in
    sym (last_reached c.args.items.now c.requires.rising c.args.amount c.count_at_most-count.result r.before r.after
    (c.count_at_most-count.result - 1) (omega (arith, c.if-count-eq0.false)) r.bound record { amount = 0; weight = 0 }
    c.if-items-count.false)
