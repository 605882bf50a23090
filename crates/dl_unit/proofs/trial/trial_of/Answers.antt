use Rattle.dl_unit.proofs.Common.{ℕ, ◌≡◌, ◌^◌, ◌<◌, List, length, arith, rules, sym, subst, ◌∙◌, Iv, low_at, high_at, low_trial, high_trial, IfOk-weaker, num_le_den, set, length-set}
use Rattle.dl_unit.proofs.TrialGrids.{first_small, trial_low, trial_high, trial_grid}
use Rattle.dl_unit.proofs.trial.trial_of.Goals as goal

pub first_cell-requires : goal.first_cell-requires
first_cell-requires g c =
    let within = num_le_den c.args.q c.requires.within in
    search (
      rules,
      first_small c.args.claim.now c.in_ok-list.list.items c.args.q c.index.result.now c.index.result.now
          c.cells.ensures.grid within c.in_ok-list.ensures.cells c.index.ensures c.in_ok-list.ensures.high,
    )

pub grid_of-requires : goal.grid_of-requires
grid_of-requires g c =
    let within = num_le_den c.args.q c.requires.within in
    let grid = c.cells.ensures.grid in
    let many = c.in_ok-list.ensures.cells in
    let low = c.in_ok-list.ensures.low in
    let high = c.in_ok-list.ensures.high in
    let v = c.first_cell.result in (
      omega arith,
      (
        omega arith,
        rw c.as_slice.ensures.value (trial_grid c.args.claim.now _ c.args.q within grid
            (length-set c.in_ok-list.list.items 0 v ∙ many)
            (trial_low c.args.claim.now c.in_ok-list.list.items c.args.q c.index.result.now v grid within many
            c.index.ensures low c.first_cell.ensures.low)
            (trial_high c.args.claim.now c.in_ok-list.list.items c.args.q c.index.result.now v grid within many
            c.index.ensures high c.first_cell.ensures.high)),
      ),
    )

pub returns : goal.returns
returns g c =
    let claim = c.args.claim.now in
    let list = c.in_ok-list.list.items in
    let grid = c.cells.ensures.grid in
    let within = num_le_den c.args.q c.requires.within in
    let made = c.in_ok-list.ensures in
    let low = trial_low claim list c.args.q c.index.result.now c.first_cell.result grid within made.cells c.index.ensures
    made.low c.first_cell.ensures.low in
    let high = trial_high claim list c.args.q c.index.result.now c.first_cell.result grid within made.cells c.index.ensures
    made.high c.first_cell.ensures.high in
    let told = λ (P : List (Iv g.row.B) → Type 0) (p : P (set list 0 c.first_cell.result)).
    IfOk-weaker c.grid_of.result _ P (λ g e. subst P (sym (e ∙ c.as_slice.ensures.value)) p) c.grid_of.ensures in
    record {
      cells = told (λ t. length t ≡ length claim) (length-set list 0 c.first_cell.result ∙ made.cells);
      low = told (λ t. (y : ℕ) → y < length claim → low_at t y ≡ low_trial (2 ^ g.row.B) c.args.q (low_at claim) y) low;
      high = told (λ t. (y : ℕ) → y < length claim → high_at t y ≡ high_trial (2 ^ g.row.B) c.args.q (high_at claim) y) high;
    }
