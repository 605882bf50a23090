use Rattle.dl_shares.proofs.Common.{◌≡◌, ◌-◌, ◌*◌, ◌^◌, ◌≤◌, min, arith, length, ap, ap₂, subst₂, sym, ◌∙◌, pow_pos, ◌over◌, Holds, One, Point, Joint, partial_sums}
use Rattle.dl_shares.proofs.WeightedEnds.{room_of}
use Rattle.dl_shares.proofs.ShareEnds.{joint_lowered, share_lowered, lowered_fits}
use Rattle.dl_shares.proofs.Absent.{cell_narrow}
use Rattle.dl_shares.proofs.Widths.{lowered_narrow, conditional_narrow}
use Rattle.dl_shares.proofs.shares.share_at.Goals as goal

pub conditional_mean-requires : goal.conditional_mean-requires
conditional_mean-requires g c =
    let most = ap (λ t. t * c.at-at.result.hi) c.from-most.ensures in
    let fits = lowered_fits (2 ^ g.row.B) c.args.q c.clamp_to-lowered.result.hi c.at-at.result.hi
    (room_of c.args.total.now c.args.q c.cells.ensures.grid c.requires.inside) c.at-at.ensures.small (omega arith) in
    (omega arith, omega arith)

pub returns-clause-holds : goal.returns-clause-holds
returns-clause-holds g c us i w e held =
    let S = 2 ^ g.row.B in
    let q = c.args.q in
    let at = c.at-at.result in
    let share = c.in-Some.share in
    let most : c.from-most.result * at.hi ≡ q * at.hi = ap (λ t. t * at.hi) c.from-most.ensures in
    let all : c.from-most.result * c.units_of_one.result ≡ q * S =
    ap₂ (λ s t. s * t) c.from-most.ensures c.units_of_one.ensures in
    let point : Holds (partial_sums us (Point q)) (partial_sums us One) (at.lo over S) (at.hi over S) =
    subst₂ (λ l h. Holds (partial_sums us (Point q)) (partial_sums us One) (l over S) (h over S))
    (sym c.at-at.ensures.low) (sym c.at-at.ensures.high) (e q c.requires.inside) in
    let joint = subst₂ (λ l h. Holds (partial_sums us (Joint i q)) (partial_sums us One) (l over S) (h over S))
    (sym (c.clamp_to-lowered.ensures.low ∙ ap (min c.args.joint.lo) most))
    (sym (c.clamp_to-lowered.ensures.high ∙ ap (min c.args.joint.hi) most))
    (joint_lowered us i q S c.args.joint.lo c.args.joint.hi at.hi (pow_pos g.row.B) held point.1) in
    subst₂ (λ l h. Holds (partial_sums us (Joint i q)) (partial_sums us (Point q)) (l over S) (h over S))
    (sym (c.clamp_to.ensures.low ∙ ap (min share.lo) all))
    (sym (c.clamp_to.ensures.high ∙ ap (min share.hi) all))
    (share_lowered us i q S share.lo share.hi (pow_pos g.row.B)
    (c.in-Some.ensures.holds (partial_sums us (Joint i q)) (partial_sums us (Point q)) (partial_sums us One) joint
    point).1)

pub returns-clause-width : goal.returns-clause-width
returns-clause-width g c j t of_joint of_total =
    let at = c.at-at.result in
    let joint = c.clamp_to-lowered.result in
    let share = c.in-Some.share in
    let few : joint.lo ≤ c.args.q * at.hi = omega (arith, ap (λ t. t * at.hi) c.from-most.ensures) in
    let narrow : joint.hi - joint.lo ≤ j =
    omega (arith, lowered_narrow c.args.joint.hi c.args.joint.lo (c.from-most.result * at.hi)) in
    conditional_narrow (length c.args.total.now) t c.args.q (at.hi - at.lo) (joint.hi - joint.lo) j _ share.hi share.lo
    c.requires.inside (omega (arith, cell_narrow c.args.total.now c.args.q)) narrow
    (c.in-Some.ensures.width c.args.q few)
    (omega (arith, lowered_narrow share.hi share.lo (c.from-most.result * c.units_of_one.result)))
