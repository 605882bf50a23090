use Rattle.dl_cert.proofs.Common.{ℕ, ◌≡◌, ◌*◌, ◌<◌, ◌^◌, ◌∙◌, arith, ap₂, mul-pos, severity_total, one, ◌also◌}
use Rattle.dl_exact.proofs.RoundingLaws.{part_within}
use Rattle.dl_cert.proofs.Weights.{parts_small}
use Rattle.dl_cert.proofs.bases.trial_number.Goals as goal

pub enclose-requires : goal.enclose-requires
enclose-requires c =
    let q = c.args.chance.q in
    let sev = c.args.sev.now in
    let is : c.from.result * c.from-2.result ≡ q.den * sev.total =
    ap₂ (λ m n. m * n) (c.from.ensures ∙ c.den.ensures.part) c.from-2.ensures in
    let small : q.den * sev.total < 2 ^ 88 = parts_small q.den sev.total c.args.chance.den sev.weighted.within in
    let pos : 0 < q.den * sev.total = mul-pos q.positive (severity_total sev) in
    (omega arith) also (omega arith) also (omega arith) also (omega (arith, is, pos)) also (omega (arith, is, small))
    also (omega (arith, c.trial_parts.ensures.within, small))
    also (rw is (omega (
      arith,
      part_within (2 ^ 56) c.trial_parts.result (q.den * sev.total) pos
          c.trial_parts.ensures.within,
    )))

pub returns-clause-small : goal.returns-clause-small
returns-clause-small c =
    let sev = c.args.sev.now in
    let den : ℕ = c.args.chance.q.den * sev.total in
    let is : c.from.result * c.from-2.result ≡ den =
    ap₂ (λ m n. m * n) (c.from.ensures ∙ c.den.ensures.part) c.from-2.ensures in
    rw (c.enclose.ensures.high, is)
    (part_within one c.trial_parts.result den (mul-pos c.args.chance.q.positive (severity_total sev)) c.trial_parts.ensures.within)
