use Rattle.dl_panjer.proofs.Common.{◌≡◌, ◌+◌, ◌*◌, ◌^◌, ◌≤◌, List, length, arith, rules, sym, subst, ◌∙◌, ◌over◌, ◌+ℚ◌, ◌*ℚ◌, ◌/ℚ◌, whole, sum_to, Holds, Iv, low_at, high_at, high_is, width_at, spread, up, probability_of, gamma_of, gamma_class, compound, GridEncloses, IfOk-weaker, num_below, low_next_of_shape, high_next_of_shape}
use Rattle.dl_panjer.proofs.Grids.{made_of, own, made_grid, made_encloses, ratio_widths, items_positive, items_weighted}
use Rattle.dl_panjer.proofs.Shapes.{ratio_of_shape, shape_outward, shape_widths}
use Rattle.dl_panjer.proofs.shape.shape_base.Goals as goal

pub follow_shape-requires : goal.follow_shape-requires
follow_shape-requires g c = search (
  rules,
  items_weighted c.args.sev.now c.as_slice.result.now c.as_slice.ensures,
  items_positive c.args.sev.now c.as_slice.result.now c.as_slice.ensures c.requires.no_zero,
)

pub grid_of-requires : goal.grid_of-requires
grid_of-requires g c =
    let B = g.row.B in
    let sev = c.args.sev.now in
    let t = c.args.t in
    let beta = c.args.beta in
    let x = t *ℚ beta /ℚ (t +ℚ t *ℚ beta) in
    let rate = c.geometric_start.result.0 in
    let list = c.in_ok-list.list.items in
    let told = c.in_ok-list.ensures in
    let made = made_of (λ items. low_next_of_shape items sev.total t rate)
    (λ items. high_next_of_shape (2 ^ B) items sev.total t rate) sev list c.as_slice.ensures
    c.requires.size told.cells told.small told.follows c.requires.no_zero in
    let is : rate.num over rate.den ≡ x = c.geometric_start.ensures.rate ∙ sym (ratio_of_shape t beta c.requires.above) in
    let outward = shape_outward sev.items sev.total (2 ^ B) t x rate (low_at list) (high_at list) (length list) (own made)
    made.total_above is in
    let start : Holds (λ N. whole 1) (λ N. sum_to N (gamma_of t (t *ℚ beta))) (low_at list 0 over 2 ^ B)
    (high_at list 0 over 2 ^ B) = rw (told.start_low, told.start_high) c.shape_cell-start.ensures.holds in (
      omega arith,
      (
        omega arith,
        rw c.deref.ensures.value
            (made_grid made x (t *ℚ x) (gamma_of t (t *ℚ beta)) outward (gamma_class t x) start),
      ),
    )

pub returns : goal.returns
returns g c =
    let B = g.row.B in
    let sev = c.args.sev.now in
    let t = c.args.t in
    let beta = c.args.beta in
    let x = t *ℚ beta /ℚ (t +ℚ t *ℚ beta) in
    let rate = c.geometric_start.result.0 in
    let list = c.in_ok-list.list.items in
    let told = c.in_ok-list.ensures in
    let made = made_of (λ items. low_next_of_shape items sev.total t rate)
    (λ items. high_next_of_shape (2 ^ B) items sev.total t rate) sev list c.as_slice.ensures
    c.requires.size told.cells told.small told.follows c.requires.no_zero in
    let is : rate.num over rate.den ≡ x = c.geometric_start.ensures.rate ∙ sym (ratio_of_shape t beta c.requires.above) in
    let outward = shape_outward sev.items sev.total (2 ^ B) t x rate (low_at list) (high_at list) (length list) (own made)
    made.total_above is in
    let start : Holds (λ N. whole 1) (λ N. sum_to N (gamma_of t (t *ℚ beta))) (low_at list 0 over 2 ^ B)
    (high_at list 0 over 2 ^ B) = rw (told.start_low, told.start_high) c.shape_cell-start.ensures.holds in
    let holds = λ (P : List (Iv B) → Type 0) (p : P list).
    IfOk-weaker c.grid_of.result _ P (λ made is. subst P (sym (is ∙ c.deref.ensures.value)) p) c.grid_of.ensures in
    record {
      cells = holds (λ g. length g ≡ c.args.cells) told.cells;
      encloses = holds (λ g. GridEncloses g (compound (gamma_of t (t *ℚ beta)) (probability_of sev)))
          (made_encloses made x (t *ℚ x) (gamma_of t (t *ℚ beta)) outward (gamma_class t x) start);
      spread = holds (λ g. spread g ≤ up (whole (6 * c.args.cells + 2) *ℚ (whole 1 +ℚ beta)))
          (ratio_widths made beta rate.num rate.den 6 2 rate.positive c.geometric_start.ensures.rate
          (shape_widths sev.items sev.total (2 ^ B) t rate (low_at list) (high_at list) (width_at list) c.args.cells
          made.follows made.total_above (omega (arith, num_below t c.requires.below)) (high_is list))
          (rw (told.start_low, told.start_high) c.shape_cell-start.ensures.near));
    }
