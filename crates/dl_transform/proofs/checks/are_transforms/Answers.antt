use Rattle.dl_transform.proofs.Common.{◌∙◌, arith, mod-eq_of_lt, sym}
use Rattle.dl_transform.proofs.checks.are_transforms.Goals as goal

pub returns : goal.returns
returns c _ =
    let second = c.is_table_for-else-not-is_table_for.ensures c.if-not-is_table_for-2.false in
    record {
      first = c.is_table_for.ensures c.if-not-is_table_for.false;
      second = second;
      order = omega arith;
      factor = c.is_factor.ensures c.if-not-is_factor.false;
      inverse = record {
        is = c.if-first-inverse-ne1.false ∙ sym (mod-eq_of_lt (omega (arith, second.table.modulus.large)));
      };
      few = omega arith;
    }
