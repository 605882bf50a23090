use Rattle.dl_sources.proofs.Common.{ℕ, ◌<◌, [], ◌∷◌, ◌++◌, refl, arith, ap, subst, sym, length, get_or, spread, ◌∙◌, ◌also◌, None, IfSome, IsSome, AreOthersOf, each_pushed, pushed_length, Origin, Nowhere, length-drop, IsBeside, IsFoundOf}
use Rattle.dl_sources.proofs.Found.{beside_pushed, first_grid, first_spread, found_stays, next_left}
use Rattle.dl_sources.proofs.ReadAs.{inside_there}
use Rattle.dl_sources.proofs.origins.sources_of.Goals as goal

pub loop-i-init : goal.loop-i-init
loop-i-init g c =
    let same = c.in_ok-push.ensures.items ∙ ap (λ t. t ++ c.args.sums.total ∷ []) c.new-grids.ensures.items in record {
      grids = first_grid c.requires.total same;
      apart = first_spread c.spread-apart.ensures same;
      others = refl;
      as_many = ap (λ t. length t) c.new-origins.ensures.items;
      each = λ k below. absurd (omega (arith, below));
      beside = λ k is. absurd (subst (λ t. IsBeside {B = g.row.B} (get_or t k Nowhere)) c.new-origins.ensures.items is);
    }

pub remove-beside-requires : goal.remove-beside-requires
remove-beside-requires g c =
    omega (
      arith,
      c.loop-i.others.ok,
      ap (λ t. length t) c.loop-i.invariant.others,
      length-drop c.loop-i.i c.args.sums.others.items,
      c.requires.others.as_many,
      c.loop-i-test.true,
      ap (λ t. length t) c.as_slice-i-end.ensures,
    )

pub at-own-requires : goal.at-own-requires
at-own-requires g c =
    omega (arith, c.loop-i-test.true, ap (λ t. length t) c.as_slice-i-end.ensures, c.requires.of.budgets.as_many)

pub origin_of-requires : goal.origin_of-requires
origin_of-requires g c =
    let inside = inside_there c.as_slice-i-end.ensures c.loop-i-test.true in
    let i = c.loop-i.invariant in
    let next = next_left c.args.sums.others.items _ c.loop-i.i c.remove-beside.result i.others
    (omega (arith, inside, c.requires.others.as_many)) c.remove-beside.ensures.value in
    (omega arith) also (omega arith) also c.requires.of also i.grids also i.apart
    also subst (λ o. IfSome o (AreOthersOf c.args.of.now.plan.now c.loop-i.i)) (sym next.0)
    (c.requires.others.each c.loop-i.i inside)
    also inside also rw c.at-own.ensures (c.requires.of.budgets.each c.loop-i.i inside)

pub loop-i-preserved : goal.loop-i-preserved
loop-i-preserved g c =
    let plan = c.args.of.now.plan.now in
    let inside = inside_there c.as_slice-i-end.ensures c.loop-i-test.true in
    let i = c.loop-i.invariant in
    let next = next_left c.args.sums.others.items _ c.loop-i.i c.remove-beside.result i.others
    (omega (arith, inside, c.requires.others.as_many)) c.remove-beside.ensures.value in
    let found = c.in_ok-found.ensures in
    let pushed = c.in_ok-push-2.ensures.items in record {
      grids = found.grids;
      apart = i.apart ∙ ap spread (sym (found.stay.same 0 i.grids.some));
      others = c.remove-beside.ensures.items ∙ next.1;
      as_many = pushed_length _ _ _ _ i.as_many pushed;
      each = each_pushed (λ (k : ℕ) (o : Origin g.row.B). IsFoundOf plan
          (get_or c.args.of.now.budgets.now.of_units.items k None) c.origin_of.new.grids.items k o) _ _ _ _ Nowhere
          i.as_many (λ k below. found_stays plan _ k _ found.stay (i.each k below)) pushed
          (rw c.at-own.ensures at (rw c.in-Some.is at found.origin));
      beside = beside_pushed (λ k. IsSome (get_or c.args.sums.others.items k None)) _ _ c.loop-i.i _ i.as_many i.beside pushed
          (λ is. subst (λ o. IsSome o) next.0 ((rw c.in-Some.is at found.beside) is));
    }

pub returns-clause-sources : goal.returns-clause-sources
returns-clause-sources g c =
    let i = c.loop-i.invariant in
    let many = ap (λ t. length t) c.as_slice-i-end.ensures in record {
      some = i.grids.some;
      total = i.grids.total;
      as_many = omega (arith, i.as_many, many);
      each = λ k inside. i.each k (omega (arith, inside, many));
    }

pub returns-clause-beside : goal.returns-clause-beside
returns-clause-beside g c = c.loop-i.invariant.beside

pub returns-in_default-clause-sure : goal.returns-in_default-clause-sure
returns-in_default-clause-sure g c all =
    let inside = inside_there c.as_slice-i-end.ensures c.loop-i-test.true in
    let next = next_left c.args.sums.others.items _ c.loop-i.i c.remove-beside.result c.loop-i.invariant.others
    (omega (arith, inside, c.requires.others.as_many)) c.remove-beside.ensures.value in
    (rw c.in_default.is at c.in_ok-found.ensures.sure) (λ some. subst (λ o. IsSome o) (sym next.0)
    (all c.loop-i.i inside (rw c.at-own.ensures at some)))
