use Rattle.dl_panjer.proofs.Common.{◌≡◌, ◌+◌, ◌*◌, ◌^◌, ◌≤◌, List, length, false, arith, rules, ◌∙◌, subst, sym, ◌+ℚ◌, ◌*ℚ◌, ◌/ℚ◌, whole, IsFloor, IsCeiling, Iv, low_at, high_at, spread, up, probability_of, gamma_of, compound, GridEncloses, IsGeometricBase, low_next, high_next, IfOk-weaker}
use Rattle.dl_panjer.proofs.Starts.{floor_start, ceiling_start}
use Rattle.dl_panjer.proofs.Grids.{made_of, geometric_is_base, geometric_grid, geometric_encloses, geometric_widths, items_positive, items_weighted}
use Rattle.dl_panjer.proofs.geometric.geometric_base.Goals as goal

pub follow-requires : goal.follow-requires
follow-requires g c = search (
  rules,
  items_weighted c.args.sev.now c.as_slice.result.now c.as_slice.ensures,
  items_positive c.args.sev.now c.as_slice.result.now c.as_slice.ensures c.requires.no_zero,
)

pub grid_of-requires : goal.grid_of-requires
grid_of-requires g c =
    let B = g.row.B in
    let v = c.args.beta in
    let list = c.in_ok-list.list.items in
    let first = c.geometric_start.ensures in
    let rate = c.geometric_start.result.0 in
    let made = made_of (λ items. low_next false items c.args.sev.now.total rate)
    (λ items. high_next (2 ^ B) false items c.args.sev.now.total rate) c.args.sev.now list c.as_slice.ensures
    c.requires.size c.in_ok-list.ensures.cells c.in_ok-list.ensures.small c.in_ok-list.ensures.follows c.requires.no_zero in (
      omega arith,
      (
        omega arith,
        rw (c.deref.ensures.value) (geometric_grid rate v made first.rate
            (floor_start B v _ (rw c.in_ok-list.ensures.start_low first.low))
            (ceiling_start B v _ (rw c.in_ok-list.ensures.start_high first.high))),
      ),
    )

pub returns : goal.returns
returns g c =
    let B = g.row.B in
    let v = c.args.beta in
    let list = c.in_ok-list.list.items in
    let first = c.geometric_start.ensures in
    let rate = c.geometric_start.result.0 in
    let made = made_of (λ items. low_next false items c.args.sev.now.total rate)
    (λ items. high_next (2 ^ B) false items c.args.sev.now.total rate) c.args.sev.now list c.as_slice.ensures
    c.requires.size c.in_ok-list.ensures.cells c.in_ok-list.ensures.small c.in_ok-list.ensures.follows c.requires.no_zero in
    let low : IsFloor (whole (2 ^ B) /ℚ (whole 1 +ℚ v)) (low_at list 0) = rw c.in_ok-list.ensures.start_low first.low in
    let high : IsCeiling (whole (2 ^ B) /ℚ (whole 1 +ℚ v)) (high_at list 0) =
    rw c.in_ok-list.ensures.start_high first.high in
    let told = λ (P : List (Iv B) → Type 0) (p : P list).
    IfOk-weaker c.grid_of.result _ P (λ made is. subst P (sym (is ∙ c.deref.ensures.value)) p) c.grid_of.ensures in
    record {
      cells = told (λ g. length g ≡ c.args.cells) c.in_ok-list.ensures.cells;
      start_low = told (λ g. IsFloor (whole (2 ^ B) /ℚ (whole 1 +ℚ v)) (low_at g 0)) low;
      start_high = told (λ g. IsCeiling (whole (2 ^ B) /ℚ (whole 1 +ℚ v)) (high_at g 0)) high;
      follows = told (IsGeometricBase c.args.sev.now v) (geometric_is_base c.args.sev.now rate v list made first.rate);
      encloses = told (λ g. GridEncloses g (compound (gamma_of (whole 1) v) (probability_of c.args.sev.now)))
          (geometric_encloses rate v made first.rate (floor_start B v _ low) (ceiling_start B v _ high));
      spread = told (λ g. spread g ≤ up (whole (4 * c.args.cells + 1) *ℚ (whole 1 +ℚ v)))
          (geometric_widths rate v made first.rate
          (rw (c.in_ok-list.ensures.start_low, c.in_ok-list.ensures.start_high) first.near));
    }
