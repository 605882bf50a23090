use Rattle.dl_answers.proofs.Common.{◌^◌, arith, ap, subst, sym, ◌∙◌, None, Asked, named_unit, IsAskOf, AreBudgetsOfUnit, HaveBudgets}
use Rattle.dl_answers.proofs.Named.{ask_of, named_here, numbers_many, are_units, each_named}
use Rattle.dl_answers.proofs.Scales.{at_scale}
use Rattle.dl_answers.proofs.admission.first_wide.Goals as goal

-- The budgets of the unit that an ask names are there.
pub of-of_unit-requires : goal.of-of_unit-requires
of-of_unit-requires g c =
    let plan = c.args.plan.now in
    let told = c.requires.told in
    let same = c.as_slice-named.ensures.value in record {
      there = each_named c.as_slice-named.result.now
          (are_units plan.units c.args.settings.now.asks (same ∙ told.numbers) c.requires.named)
          (subst (λ named. HaveBudgets plan named c.args.admitted.now.budgets) (sym same) told.there) c.loop-i.i None
          (omega (arith, c.loop-i-test.true, numbers_many plan.units c.as_slice-asks.ensures (same ∙ told.numbers)));
    }

-- The budgets of an ask are those of the plan and of the unit which it names.
pub needed_with-width-requires : goal.needed_with-width-requires
needed_with-width-requires g c =
    let plan = c.args.plan.now in
    let i = c.loop-i.i in
    let same = c.as_slice-asks.ensures in
    let asked = c.index-asks-i in
    let test = c.loop-i-test.true in record {
      scale = at_scale c.requires.plan;
      valid = c.requires.plan.valid;
      budgets = c.requires.told.budgets.total;
      unit = subst (λ number. AreBudgetsOfUnit (2 ^ g.row.B) plan number c.of-of_unit.result)
          (named_here plan.units i same (c.as_slice-named.ensures.value ∙ c.requires.told.numbers) asked.is test
          ∙ ap (λ (a : Asked). named_unit plan.units a.ask) asked.is)
          (c.of-of_unit.ensures _ plan c.requires.told.budgets);
      ask = subst (λ (a : Asked). IsAskOf plan a.ask) asked.is
          (ask_of plan i same asked.is test c.requires.ranges c.requires.inside c.requires.named);
      digits = c.requires.ranges.few_digits;
    }
