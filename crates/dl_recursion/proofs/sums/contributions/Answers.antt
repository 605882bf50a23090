use Rattle.std.proofs.lemmas.Bool.Decides.{nat_tests}
use Rattle.dl_recursion.proofs.Common.{◌≡◌, ℕ, ◌+◌, ◌^◌, ◌≤◌, List, [], ◌∷◌, ◌++◌, length, get_or, arith, refl, sum_by, flat_map, sum_by-append, inl, inr, ◌∙◌, Part, Run, run_parts, all_parts, part_sum, HasRoom, contribution, append-nil}
use Rattle.dl_recursion.specs.declared.parts.Amounts.{Amounts}
use Rattle.dl_recursion.proofs.Contributions.{room_part}
use Rattle.dl_recursion.proofs.Runs.{contributions_top}
use Rattle.dl_recursion.proofs.sums.contributions.Goals as goal

-- where there are no runs
no_runs : (f : Part → ℕ) (parts : List Part) (runs : List Run) → length runs ≡ 0
    → sum_by f parts ≡ sum_by f (parts ++ flat_map run_parts runs)
no_runs f parts [] e = rw append-nil
no_runs f parts (r ∷ rs) e = absurd (omega (arith, e))

-- what the amounts alone and the runs give together
top : (a b s : ℕ) (cells : List ℕ) (amounts : Amounts) → ((k : ℕ) → get_or cells k 0 ≤ 2 ^ 62)
    → HasRoom a b (part_sum (all_parts amounts)) s
    → sum_by (contribution a b cells s) amounts.parts.items + sum_by (contribution a b cells s)
    (flat_map run_parts amounts.runs.items) ≤ 2 ^ 126
top a b s cells amounts small room = rw (← sum_by-append) (contributions_top a b s cells small (all_parts amounts) room.weights)

-- the weights of all amounts are those of the amounts alone and those of the runs
both : (amounts : Amounts)
    → part_sum (all_parts amounts) ≡ part_sum amounts.parts.items + part_sum (flat_map run_parts amounts.runs.items)
both amounts = sum_by-append (λ (p : Part). p.weight) amounts.parts.items (flat_map run_parts amounts.runs.items)

pub together-requires-clause-room : goal.together-requires-clause-room
together-requires-clause-room c =
    rw c.deref.ensures.value (room_part c.requires.room (omega (arith, both c.args.amounts.now)))

pub overflow_add-result : goal.overflow_add-result
overflow_add-result c =
    let x = c.args.x.now in
    omega (
      arith,
      c.requires.alone.low,
      rw c.deref.ensures.value at c.in_ok-together.ensures.low,
      top c.args.before c.args.after (length x.low.items) x.low.items c.args.amounts.now c.requires.in_scale.sound.low_small c.requires.room,
    )

pub overflow_add-result-2 : goal.overflow_add-result-2
overflow_add-result-2 c =
    let x = c.args.x.now in
    omega (
      arith,
      c.requires.alone.high,
      rw c.deref.ensures.value at c.in_ok-together.ensures.high,
      top c.args.before c.args.after (length x.low.items) x.high.items c.args.amounts.now c.requires.in_scale.sound.high_small c.requires.room,
    )

pub together-requires-clause-in_scale : goal.together-requires-clause-in_scale
together-requires-clause-in_scale c = rw c.deref.ensures.value c.requires.in_scale

pub returns-then-is_empty : goal.returns-then-is_empty
returns-then-is_empty c =
    let x = c.args.x.now in
    let amounts = c.args.amounts.now in
    let none : length amounts.runs.items ≡ 0 = grind (arith, nat_tests) in
    let low = c.requires.alone.low in
    let high = c.requires.alone.high in
    let each : length x.windows.items ≡ length amounts.runs.items = elim c.requires.in_scale.all_or_none [
      | inl e ↦ e
      | inr e ↦ omega (arith, e, none)
    ] in
    record {
      low = low ∙ no_runs _ amounts.parts.items amounts.runs.items none;
      high = high ∙ no_runs _ amounts.parts.items amounts.runs.items none;
      high_room = omega (
        arith,
        high,
        top c.args.before c.args.after (length x.low.items) x.high.items amounts c.requires.in_scale.sound.high_small c.requires.room,
      );
      windows = λ k run d l. absurd (omega (arith, l, each, none));
      each_run = each;
      same = record { low = refl; high = refl; first = refl; shift = refl };
    }

pub returns : goal.returns
returns c =
    let x = c.args.x.now in
    let amounts = c.args.amounts.now in
    let a = c.args.before in
    let b = c.args.after in
    let s = length x.low.items in
    let e = c.in_ok-together.ensures in
    let low = c.requires.alone.low in
    let high = c.requires.alone.high in
    let more_low = rw c.deref.ensures.value at e.low in
    let more_high = rw c.deref.ensures.value at e.high in
    record {
      low = rw sum_by-append (omega (arith, low, more_low));
      high = rw sum_by-append (omega (arith, high, more_high));
      high_room = omega (
        arith,
        high,
        more_high,
        top a b s x.high.items amounts c.requires.in_scale.sound.high_small c.requires.room,
      );
      windows = rw c.deref.ensures.value at e.windows;
      each_run = rw c.deref.ensures.value at e.each_run;
      same = e.same;
    }
