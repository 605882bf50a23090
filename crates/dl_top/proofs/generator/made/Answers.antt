use Rattle.dl_top.proofs.Common.{◌≡◌, ◌∙◌, ◌+◌, ◌++◌, codes, ap, arith, rules, value_after, unit_text, unit_lines, made_of}
use Rattle.dl_top.proofs.MadeLines.{line_next, draws_next}
use Rattle.dl_top.proofs.generator.made.Goals as goal

pub loop-before-init : goal.loop-before-init
unfolding value_after unit_lines
loop-before-init c = search rules

pub loop-before-preserved : goal.loop-before-preserved
loop-before-preserved c =
    let so_far = c.loop-before.invariant in
    let claims = c.below-claims.ensures in
    let greatest = c.below-greatest.ensures in (
      c.in_ok-push_unit.ensures
          ∙ ap (λ ys. ys ++ unit_text (c.loop-before.before + 1) (20 + c.below-claims.result)
          (5 + c.below-greatest.result)) so_far.0
          ∙ line_next c.args.n c.loop-before.before _ _ _ _ _
          (codes "port Made\n") so_far.1 claims.next greatest.next claims.drawn greatest.drawn,
      draws_next c.args.n c.loop-before.before _ _ _ so_far.1 claims.next greatest.next,
    )

pub returns : goal.returns
unfolding made_of
returns c =
    let all : c.loop-before.before ≡ 8 = omega arith in
    c.loop-before.invariant.0 ∙ ap (λ k. codes "port Made\n" ++ unit_lines c.args.n k) all
