use Rattle.dl_transform.proofs.Common.{◌≡◌, ◌*◌, ◌%◌, ◌^◌, arith, sym, ◌∙◌, mod-eq_of_lt, eqb-true, one_shl, mul-mod_first}
use Rattle.dl_transform.proofs.checks.is_undoing.Goals as goal

pub returns-clause-same : goal.returns-clause-same
returns-clause-same c h =
    let p = c.args.p in
    let s : (1 * 2 ^ c.args.l) % 2 ^ 128 ≡ 2 ^ c.args.l = one_shl c.args.l 128 (omega arith) in
    let e : (c.args.unit * ((1 * 2 ^ c.args.l) % 2 ^ 128)) % p * c.args.w % p ≡ 1 =
    eqb-true (c.args.unit * ((1 * 2 ^ c.args.l) % 2 ^ 128) % p * c.args.w % p) 1 h in
    record {
      is = sym (mul-mod_first (c.args.unit * 2 ^ c.args.l) c.args.w p) ∙ (rw s at e)
          ∙ sym (mod-eq_of_lt (omega arith));
    }
