-- What is too long so far is too long.
use Rattle.dl_severity.proofs.Common.{◌∙◌, ◌++◌, length, ap, sym, take_all, list_values, range_values}
use Rattle.dl_severity.proofs.Ranged.{refuses, more_fits, list_more}
use Rattle.dl_severity.proofs.expand_list.expand.Goals as goal

pub returns-in-Err-clause-values : goal.returns-in-Err-clause-values
returns-in-Err-clause-values c =
    refuses c.args.most c.args.items.now (length c.items.values.items) c.item-item.result c.in-Err.fault
    c.in-Err.ensures.long
    (more_fits c.args.items.now c.items.item-index c.item-item.result c.items.values.items c.items-test.true
    c.item-item.is c.items.invariant.so_far)

pub items-preserved : goal.items-preserved
items-preserved c = record {
  so_far = c.in_default.ensures.values ∙ ap (λ values. values ++ range_values c.item-item.result) c.items.invariant.so_far
      ∙ sym (list_more c.args.items.now c.items.item-index c.item-item.result c.items-test.true c.item-item.is);
  few = c.in_default.ensures.few;
}

pub returns-clause-values : goal.returns-clause-values
returns-clause-values c =
    c.items.invariant.so_far ∙ ap list_values (take_all c.items.item-index c.args.items.now c.items-test.false)
