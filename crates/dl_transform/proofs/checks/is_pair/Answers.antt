use Rattle.dl_transform.proofs.Common.{◌≡◌, ◌*◌, arith, eqb-true}
use Rattle.dl_transform.proofs.Residues.{same_trans, same_sym}
use Rattle.dl_transform.proofs.checks.is_pair.Goals as goal

pub returns : goal.returns
returns c e =
    let p = c.args.p in
    let one : p ≡ 1 * p = omega arith in
    let first : c.lowered.result ≡ 1 = omega (arith, c.if-lowered-ne1.false) in
    let second : c.lowered-2.result ≡ c.args.wanted = eqb-true c.lowered-2.result c.args.wanted e in
    record {
      factor = c.is_factor.ensures c.if-not-is_factor.false;
      inverse_factor = c.is_factor-else-not-is_factor.ensures c.if-not-is_factor-2.false;
      inverse = rw first at (same_sym (same_trans (c.lowered.ensures.same p 1 one) c.times.ensures.same));
      square = rw second at (same_sym (same_trans (c.lowered-2.ensures.same p 1 one) c.times-2.ensures.same));
    }
