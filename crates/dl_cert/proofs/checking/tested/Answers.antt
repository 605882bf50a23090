use Rattle.dl_cert.proofs.Common.{ℕ, get_or, Plan, Base, AreStarts, ◌≡◌, ◌≤◌, ◌∙◌, arith, ap, sym, refl, length, List, length-map, Iv, mass_low, one, pow_pos, IsRow, Step, IsThere, unit_parts, true≢false}
use Rattle.dl_cert.proofs.Passings.{count_is, passes_now}
use Rattle.dl_cert.proofs.checking.tested.Goals as goal

starts_long : {plan : Plan} {bases : List Base} {targets : List ℕ} → AreStarts plan bases targets
    → length targets ≡ length plan.units
starts_long {plan} starts = ap length starts.counts ∙ length-map plan.units unit_parts

pub returns-in_default : goal.returns-in_default
returns-in_default c = λ before so_far p.
    let over = rw (c.in_default.is, c.deref-2.ensures.value, starts_long c.args.of.now.starts) at c.in_ok-label.ensures in
    absurd (omega (
      arith,
      over.over,
      count_is so_far c.args.step.now.kind p.there over.unit over.inside,
      p.label over.unit,
      ap (λ l. get_or l over.unit 0) c.args.of.now.starts.counts,
    ))

pub returns : goal.returns
returns c = λ before so_far.
    let plan = c.args.of.now.plan.now in
    let targets = c.args.of.now.targets.now in
    let labels = c.args.so_far.now.labels.items in
    let step : Step = record { kind = c.args.step.now.kind; cells = c.args.step.now.cells.items } in
    let long = starts_long c.args.of.now.starts in
    let count : c.len-count.result ≡ length before = omega (arith, c.len-count.ensures, so_far.many) in
    let there : IsThere (length plan.units) (length before) step.kind =
    rw (long, count) at (c.if-not-is_there.ensures.0 refl) in
    let row : IsRow labels (length plan.units) step.kind targets c.in-Some.label.items =
    rw (c.in-Some.is, c.deref-2.ensures.value, long) at c.in_ok-label.ensures in
    let mass : mass_low step.cells ≤ one = omega (arith, ap (λ (l : List (Iv 56)). mass_low l) c.deref.ensures.value) in
    let passing = (c.in_ok-is_passing.ensures labels before (rw c.deref-3.ensures.value so_far)).0 c.if-not-branch.false in
    (passes_now so_far step c.args.of.now.starts.counts there row c.requires.cells mass passing, row)

pub mass_of-requires : goal.mass_of-requires
mass_of-requires c = record {
  cells = rw c.deref.ensures.value (record { few = rw c.requires.cells c.requires.plan.few; small = c.requires.small });
}

pub label_of-requires-clause-few : goal.label_of-requires-clause-few
label_of-requires-clause-few c = rw (starts_long c.args.of.now.starts) c.requires.plan.valid.few

pub label_of-requires-clause-long : goal.label_of-requires-clause-long
label_of-requires-clause-long c =
    let so_far = c.requires.so_far.1 in
    let count : length c.requires.so_far.0 ≡ c.len-count.result = omega (arith, so_far.many, c.len-count.ensures) in
    rw (c.deref-2.ensures.value, starts_long c.args.of.now.starts, ← count) so_far.long

pub label_of-requires-clause-there : goal.label_of-requires-clause-there
label_of-requires-clause-there c = c.if-not-is_there.ensures.0 refl

pub is_passing-requires-clause-cells : goal.is_passing-requires-clause-cells
is_passing-requires-clause-cells c = c.requires.cells

pub is_passing-requires-clause-small : goal.is_passing-requires-clause-small
is_passing-requires-clause-small c = c.requires.small

pub is_passing-requires-clause-there : goal.is_passing-requires-clause-there
is_passing-requires-clause-there c =
    let count : c.len-count.result ≡ length c.args.so_far.now.offsets.items = omega (arith, c.len-count.ensures) in
    rw c.deref-3.ensures.value (rw (starts_long c.args.of.now.starts, count) at (c.if-not-is_there.ensures.0 refl))

pub is_passing-requires-clause-so_far : goal.is_passing-requires-clause-so_far
is_passing-requires-clause-so_far c =
    (c.args.so_far.now.labels.items, c.requires.so_far.0, rw c.deref-3.ensures.value c.requires.so_far.1)

pub is_passing-requires-clause-starts : goal.is_passing-requires-clause-starts
is_passing-requires-clause-starts c = (c.args.of.now.targets.now, c.args.of.now.starts)

pub is_passing-requires-clause-some : goal.is_passing-requires-clause-some
is_passing-requires-clause-some c = rw c.requires.plan.valid.cells.3 (pow_pos c.requires.plan.valid.cells.0)

pub returns-then-not-is_there : goal.returns-then-not-is_there
returns-then-not-is_there c = λ before so_far p.
    let count : c.len-count.result ≡ length before = omega (arith, c.len-count.ensures, so_far.many) in
    true≢false (sym (c.if-not-is_there.ensures.1 (rw (starts_long c.args.of.now.starts, count) p.there)))

pub returns-then-mass_of-units_of_one : goal.returns-then-mass_of-units_of_one
returns-then-mass_of-units_of_one c = λ before so_far p.
    omega (arith, ap (λ (l : List (Iv 56)). mass_low l) c.deref.ensures.value, p.mass)

pub returns-then-not-branch : goal.returns-then-not-branch
returns-then-not-branch c = λ before so_far p.
    let passing = (c.in_ok-is_passing.ensures c.args.so_far.now.labels.items before
    (rw c.deref-3.ensures.value so_far)).1 (record { low_ends = p.low; high_ends = p.high }) in
    true≢false (sym (rw c.if-not-branch.true at passing))
