-- One value, where there is room for it.
use Rattle.dl_severity.proofs.Common.{◌∙◌, ◌++◌, ap, sym}
use Rattle.dl_severity.proofs.Ranged.{one_value}
use Rattle.dl_severity.proofs.expand_list.push_one.Goals as goal

pub returns-clause-values : goal.returns-clause-values
returns-clause-values c = c.in_ok-push_item.ensures
    ∙ ap (λ ys. c.args.values.now.items ++ ys) (sym (one_value c.args.range.now c.requires.range c.requires.one))
