use Rattle.dl_answers.proofs.Common.{[], ◌≤◌, arith, ap, get_or, length, refl, subst, sym, ◌∙◌, ◌also◌, None, Asked, Row, HasShare, IsGood, reach_of, each_next, pushed_length, HaveBudgets, reaches_less, cells_read, IsPastAbove}
use Rattle.dl_answers.proofs.Named.{ask_has, ask_of, are_units, each_named, each_row, named_here, numbers_many}
use Rattle.dl_answers.proofs.reports.report.Goals as goal

pub loop-i-init : goal.loop-i-init
loop-i-init g c = record {
  as_many = ap (λ t. length t) c.new-rows.ensures.items;
  each = λ k a r below. absurd (omega (arith, below));
  past = λ k a r below. absurd (omega (arith, below));
}

-- The unit that the ask names has its budgets, so it reaches what the ask looks at.
pub row-requires : goal.row-requires
row-requires g c =
    let plan = c.args.plan.now in
    let i = c.loop-i.i in
    let same = c.as_slice-asks.ensures in
    let is = c.index-asks-i.is in
    let test = c.loop-i-test.true in
    let reached = c.requires.reached in
    let numbers = c.as_slice-named.ensures.value ∙ c.requires.told.numbers in
    let there = subst (λ named. HaveBudgets plan named c.args.admitted.now.budgets) (sym c.as_slice-named.ensures.value)
    c.requires.told.there in
    let few = ask_has (λ (a : Asked). cells_read plan.cells a.ask ≤ reached.reach) i same is test reached.inside in
    (omega arith) also c.requires.ranges.few_digits also (record {
      plan = c.requires.plan;
      drawn = c.requires.drawn;
      sums = c.as_slice.ensures.value ∙ c.in_ok-sums.ensures;
    }) also (record {
      of = ask_of plan i same is test c.requires.ranges c.requires.admitted.inside c.requires.admitted.named;
      share = ask_has (λ (a : Asked). HasShare plan a.ask) i same is test c.requires.admitted.shares;
      number = named_here plan.units i same numbers is test;
    }) also each_named c.as_slice-named.result.now
    (are_units plan.units c.args.settings.now.asks numbers c.requires.admitted.named)
    (λ k inside names. reaches_less c.args.drawn.now k _ _ (reached.each k inside (there k inside names)) few) i None
    (omega (arith, test, numbers_many plan.units same numbers))

pub loop-i-preserved : goal.loop-i-preserved
loop-i-preserved g c =
    let i = c.loop-i.invariant in
    let reach = reach_of {B = g.row.B} (get_or c.as_slice.result.now 0 []) in record {
      as_many = pushed_length _ _ _ _ i.as_many c.in_ok-push.ensures.items;
      each = each_next (IsGood c.args.plan.now c.args.settings.now.digits) _ _ _ _ _ _ i.as_many i.each
          c.in_ok-push.ensures.items c.loop-i-test.true c.index-asks-i.is (record {
            ask = c.row.ensures.ask ∙ c.in_ok-text.ensures ∙ c.as_slice-in-loop-i.ensures;
            answer = rw (← c.requires.plan.scale) c.row.ensures.answer;
          });
      past = each_next (λ (a : Asked) (r : Row). IsPastAbove reach a.ask r) _ _ _ _ _ _ i.as_many
          i.past c.in_ok-push.ensures.items c.loop-i-test.true c.index-asks-i.is c.row.ensures.past;
    }

pub returns : goal.returns
returns g c =
    let i = c.loop-i.invariant in
    let same = c.as_slice-asks.ensures in
    let reach = reach_of {B = g.row.B} (get_or c.as_slice.result.now 0 []) in record {
      digits = refl;
      as_many = omega (arith, ap (λ t. length t) c.from_vec.ensures, ap (λ t. length t) same);
      rows = each_row (IsGood c.args.plan.now c.args.settings.now.digits) _ same c.from_vec.ensures i.as_many
          (omega arith)
          (omega arith) i.each;
      reach = reach;
      past = each_row (λ (a : Asked) (r : Row). IsPastAbove reach a.ask r) _ same c.from_vec.ensures i.as_many
          (omega arith)
          (omega arith) i.past;
    }
