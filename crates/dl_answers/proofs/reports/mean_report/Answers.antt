use Rattle.dl_answers.proofs.Common.{◌≡◌, arith, ap, length, refl, ◌∙◌, ◌also◌, Asked, Row, IsGood, whole, each_next, pushed_length, IsPastAbove}
use Rattle.dl_plan.specs.declared.settings.Ask.TheVariants.{Mean}
use Rattle.dl_answers.proofs.GoodRows.{mean_answer}
use Rattle.dl_answers.proofs.Named.{ask_has, each_row}
use Rattle.dl_answers.proofs.Scales.{at_scale}
use Rattle.dl_answers.proofs.reports.mean_report.Goals as goal

pub ends_row-requires : goal.ends_row-requires
ends_row-requires g c = (omega arith) also at_scale c.requires.plan also c.requires.ranges.few_digits

pub loop-i-preserved : goal.loop-i-preserved
loop-i-preserved g c =
    let i = c.loop-i.invariant in
    let mean : c.index-asks-i.result.ask ≡ Mean =
    ask_has (λ (a : Asked). a.ask ≡ Mean) c.loop-i.i c.as_slice-asks.ensures c.index-asks-i.is c.loop-i-test.true
    c.requires.means in
    record {
      as_many = pushed_length _ _ _ _ i.as_many c.in_ok-push.ensures.items;
      each = each_next (IsGood c.args.plan.now c.args.settings.now.digits) _ _ _ _ _ _ i.as_many i.each
          c.in_ok-push.ensures.items c.loop-i-test.true c.index-asks-i.is (record {
            ask = c.ends_row.ensures.ask ∙ c.in_ok-text.ensures ∙ c.as_slice.ensures;
            answer = rw (← c.requires.plan.scale, mean) (mean_answer c.requires.mean c.ends_row.ensures.ends);
          });
    }

pub returns : goal.returns
returns g c =
    let i = c.loop-i.invariant in
    let same = c.as_slice-asks.ensures in record {
      digits = refl;
      as_many = omega (arith, ap (λ t. length t) c.from_vec.ensures, ap (λ t. length t) same);
      rows = each_row (IsGood c.args.plan.now c.args.settings.now.digits) _ same c.from_vec.ensures i.as_many
          (omega arith)
          (omega arith) i.each;
      reach = whole 1;
      past = each_row (λ (a : Asked) (r : Row). IsPastAbove (whole 1) a.ask r) _ same c.from_vec.ensures i.as_many
          (omega arith) (omega arith) (λ k a r below. rw same
          (rw (c.requires.means k a (omega (arith, below, ap (λ t. length t) same))) tt));
    }
