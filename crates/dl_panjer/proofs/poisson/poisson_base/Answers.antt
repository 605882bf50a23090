use Rattle.dl_panjer.proofs.Common.{ℕ, List, length, low_next, high_next, ap₂, over_self, ◌+◌, ◌≡◌, ◌*◌, ◌^◌, ◌≤◌, true, arith, rules, sym, ap, subst, ◌∙◌, zero-lt-suc, Fraction, ◌over◌, ◌/ℚ◌, ◌≤ℚ◌, whole, over_le, one_pos, le_trans, low_at, high_at, spread, Iv, poisson, compound, GridEncloses, probability_of, IsPoissonBase, StartsAtExp, exp_low, exp_high, IfOk-weaker}
use Rattle.dl_panjer.proofs.Terms.{half_parts}
use Rattle.dl_panjer.proofs.Starts.{poisson_start}
use Rattle.dl_panjer.proofs.Grids.{made_of, poisson_is_base, poisson_grid, poisson_encloses, poisson_widths, items_positive, items_weighted}
use Rattle.dl_panjer.proofs.poisson.poisson_base.Goals as goal

half_le_one : (x : Fraction) → x ≤ℚ 1 over 2 → x ≤ℚ whole 1
half_le_one x h = le_trans _ _ _ h (over_le 1 2 1 1 (zero-lt-suc 1) one_pos (omega arith))

half_rate : (x : Fraction) (num den : ℕ) → num ≡ x.num → den ≡ x.den → x ≤ℚ 1 over 2 → num + num ≤ den
half_rate x num den p q h = omega (arith, p, q, half_parts x h)

-- the share by its parts
share_is : (x v : Fraction) (num den : ℕ) → num ≡ x.num → den ≡ x.den → x ≡ v → num over den ≡ v
share_is x v num den p q e = ap₂ (λ a b. a over b) p q ∙ over_self x ∙ e

pub rate_of-rate-requires : goal.rate_of-rate-requires
rate_of-rate-requires g c = half_le_one c.halved-share.result (rw c.halved-share.ensures.value c.requires.half)

pub exp_neg-start-requires : goal.exp_neg-start-requires
exp_neg-start-requires g c =
    (omega arith, (c.requires.size.scale_above, (c.requires.size.scale_below, rw c.halved-share.ensures.value c.requires.half)))

pub follow-requires : goal.follow-requires
follow-requires g c =
    search (
      rules,
      items_weighted c.args.sev.now c.as_slice.result.now c.as_slice.ensures,
      items_positive c.args.sev.now c.as_slice.result.now c.as_slice.ensures c.requires.no_zero,
    )

pub grid_of-requires : goal.grid_of-requires
grid_of-requires g c =
    let e = c.halved-share.ensures.value in
    let v = c.args.mean /ℚ whole (2 ^ c.args.halvings) in
    let rate = c.rate_of-rate.result in
    let is = share_is c.halved-share.result v rate.num rate.den c.rate_of-rate.ensures.num c.rate_of-rate.ensures.den e in
    let list = c.in_ok-list.list.items in
    let made = made_of (λ items. low_next true items c.args.sev.now.total rate)
    (λ items. high_next (2 ^ g.row.B) true items c.args.sev.now.total rate) c.args.sev.now list c.as_slice.ensures
    c.requires.size c.in_ok-list.ensures.cells c.in_ok-list.ensures.small c.in_ok-list.ensures.follows c.requires.no_zero in (
      omega arith,
      (
        omega arith,
        rw c.deref.ensures.value (poisson_grid rate v made is
            (poisson_start v c.exp_neg-start.result (low_at list 0) (high_at list 0)
            (rw e at c.exp_neg-start.ensures.encloses)
            c.in_ok-list.ensures.start_low c.in_ok-list.ensures.start_high)),
      ),
    )

pub returns : goal.returns
returns g c =
    let e = c.halved-share.ensures.value in
    let v = c.args.mean /ℚ whole (2 ^ c.args.halvings) in
    let rate = c.rate_of-rate.result in
    let is = share_is c.halved-share.result v rate.num rate.den c.rate_of-rate.ensures.num c.rate_of-rate.ensures.den e in
    let list = c.in_ok-list.list.items in
    let made = made_of (λ items. low_next true items c.args.sev.now.total rate)
    (λ items. high_next (2 ^ g.row.B) true items c.args.sev.now.total rate) c.args.sev.now list c.as_slice.ensures
    c.requires.size c.in_ok-list.ensures.cells c.in_ok-list.ensures.small c.in_ok-list.ensures.follows c.requires.no_zero in
    let holds = rw e at c.exp_neg-start.ensures.encloses in
    let told = λ (P : List (Iv g.row.B) → Type 0) (p : P list).
    IfOk-weaker c.grid_of.result _ P (λ made is. subst P (sym (is ∙ c.deref.ensures.value)) p) c.grid_of.ensures in
    record {
      cells = told (λ g. length g ≡ c.args.cells) c.in_ok-list.ensures.cells;
      start = told (StartsAtExp v) (record {
        first = c.exp_neg-start.result;
        low = c.in_ok-list.ensures.start_low;
        high = c.in_ok-list.ensures.start_high;
        low_end = c.in_ok-list.ensures.start_low ∙ c.exp_neg-start.ensures.low ∙ ap (λ x. exp_low g.row.B x) e;
        high_end = c.in_ok-list.ensures.start_high ∙ c.exp_neg-start.ensures.high ∙ ap (λ x. exp_high g.row.B x) e;
        encloses = holds;
        narrow = c.exp_neg-start.ensures.narrow;
        small = c.exp_neg-start.ensures.small;
      });
      follows = told (IsPoissonBase c.args.sev.now v) (poisson_is_base c.args.sev.now rate v list made is);
      encloses = told (λ g. GridEncloses g (compound (poisson v) (probability_of c.args.sev.now)))
          (poisson_encloses rate v made is (poisson_start v c.exp_neg-start.result (low_at list 0) (high_at list 0) holds
          c.in_ok-list.ensures.start_low c.in_ok-list.ensures.start_high));
      spread = told (λ g. spread g ≤ 8 * c.args.cells + 128)
          (poisson_widths rate made (half_rate c.halved-share.result rate.num rate.den c.rate_of-rate.ensures.num
          c.rate_of-rate.ensures.den (rw e c.requires.half))
          (rw (c.in_ok-list.ensures.start_low, c.in_ok-list.ensures.start_high)
          (omega (arith, c.exp_neg-start.ensures.narrow))));
    }
