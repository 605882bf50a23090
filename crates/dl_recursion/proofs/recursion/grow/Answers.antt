use Rattle.dl_recursion.proofs.Common.{◌≡◌, suc, ◌<◌, mul-pos, ◌-◌, ◌*◌, ◌^◌, length, ◌∷◌, [], ◌++◌, arith, ap, ◌≤◌, ◌∙◌, length-append, sum_by, whole, ◌*ℚ◌, ◌≤ℚ◌, all_parts, contribution, AreWindows, EncloseScaled, inl, inr, sym}
use Rattle.dl_recursion.proofs.Grow.{cells_pushed, kept_pushed, pushed, next_low, next_high}
use Rattle.dl_start.proofs.Rounding.{ceil_small}
use Rattle.dl_recursion.proofs.Runs.{all_positive}
use Rattle.dl_recursion.proofs.Windows.{windows_grown}
use Rattle.dl_recursion.proofs.recursion.grow.Goals as goal

pub overflow_mul-d : goal.overflow_mul-d
overflow_mul-d c = record { fits = rw (c.len-n.ensures, c.args.x.now.low.ok.0) c.requires.room.divisors }

pub divided-requires-clause-positive : goal.divided-requires-clause-positive
divided-requires-clause-positive c =
    rw (c.len-n.ensures, c.args.x.now.low.ok.0) (mul-pos c.requires.room.divisor c.requires.in_scale.some)

pub shift_down-ends-requires-clause-sound : goal.shift_down-ends-requires-clause-sound
shift_down-ends-requires-clause-sound c =
    let told = c.in_ok-sums.ensures in
    rw (told.same.low, told.same.high, told.same.first) c.requires.in_scale.sound

pub shift_down-ends-requires-clause-room : goal.shift_down-ends-requires-clause-room
shift_down-ends-requires-clause-room c = rw c.in_ok-sums.ensures.same.shift c.requires.shift

pub shift_down-ends-requires-clause-small : goal.shift_down-ends-requires-clause-small
shift_down-ends-requires-clause-small c =
    let some : 0 < c.args.q * c.len-n.result = rw (c.len-n.ensures, c.args.x.now.low.ok.0)
    (mul-pos c.requires.room.divisor c.requires.in_scale.some) in
    rw c.divided.ensures.high (ceil_small _ _ _ some c.in_ok-sums.ensures.high_room)

pub returns : goal.returns
returns c =
    let x = c.args.x.now in
    let z = c.contributions.new.x in
    let y = c.shift_down-ends.new.x in
    let told = c.in_ok-sums.ensures in
    let shift_down = c.shift_down-ends.ensures in
    let lo = c.shift_down-ends.result.low in
    let hi = c.shift_down-ends.result.high in
    let n = length x.low.items in
    let m = n - 1 in
    let e : n ≡ suc m = omega (arith, c.requires.in_scale.some) in
    let d = c.args.q * c.len-n.result in
    let parts = all_parts c.args.amounts.now in
    let amounts = all_positive c.args.amounts.now c.requires.amounts in
    let d_is : d ≡ c.args.q * suc m = ap (λ t. c.args.q * t) (c.len-n.ensures ∙ x.low.ok.0 ∙ e) in
    let low_n : length y.low.items ≡ suc m = shift_down.cells ∙ ap (λ v. length v.items) told.same.low ∙ e in
    let high_n : length y.high.items ≡ suc m = shift_down.sound.alike ∙ low_n in
    let len : length (y.low.items ++ lo ∷ []) ≡ suc (suc m) = simp length-append (omega (arith, low_n)) in
    let runs = c.args.amounts.now.runs.items in
    let fit : length y.windows.items ≤ length runs = elim shift_down.all_or_none [
      | inl same ↦ omega (arith, same, told.each_run)
      | inr none ↦ omega (arith, none)
    ] in
    let cells : length y.low.items ≡ length z.low.items = shift_down.cells in
    let windows : AreWindows runs y.low.items y.high.items (length y.low.items) y.windows.items =
    rw cells (shift_down.windows runs (length z.low.items) told.windows) in
    let lo_sum : c.in_ok-sums.sums.low ≡ sum_by (contribution c.args.before c.args.after x.low.items (suc m)) parts = told.low
    ∙ ap (λ t. sum_by (contribution c.args.before c.args.after x.low.items t) parts) e in
    let hi_sum : c.in_ok-sums.sums.high ≡ sum_by (contribution c.args.before c.args.after x.high.items (suc m)) parts = told.high
    ∙ ap (λ t. sum_by (contribution c.args.before c.args.after x.high.items t) parts) e in
    let low_pushed : c.push.new.self.items ≡ y.low.items ++ lo ∷ [] = c.in_ok-push.ensures.items in
    let high_pushed : c.push-2.new.self.items ≡ y.high.items ++ hi ∷ [] = c.in_ok-push-2.ensures.items in
    let one_less : length (y.low.items ++ lo ∷ []) - 1 ≡ length y.low.items = omega (arith, len, low_n) in
    record {
      in_scale = record {
        sound = rw (low_pushed, high_pushed) (cells_pushed y.low.items y.high.items y.first lo hi shift_down.sound
            (omega (arith, shift_down.order, shift_down.small)) shift_down.small);
        some = rw low_pushed (omega (arith, len));
        windows = rw (low_pushed, high_pushed, one_less)
            (windows_grown runs y.low.items y.high.items lo hi y.windows.items shift_down.sound.alike
            c.requires.amounts.runs fit windows);
        all_or_none = elim shift_down.all_or_none [
          | inl same ↦ inl (omega (arith, same, told.each_run))
          | inr none ↦ inr none
        ];
      };
      cells = rw low_pushed (omega (arith, len, e));
      shift = omega (arith, shift_down.shift, told.same.shift);
      kept = λ same.
          let cells = shift_down.kept (same ∙ sym told.same.shift) in
          let low : y.low.items ≡ x.low.items = ap (λ v. v.items) (cells.low ∙ told.same.low) in
          let high : y.high.items ≡ x.high.items = ap (λ v. v.items) (cells.high ∙ told.same.high) in
          kept_pushed x _ lo hi c.requires.in_scale.sound.alike (low_pushed ∙ ap (λ t. t ++ lo ∷ []) low)
          (high_pushed ∙ ap (λ t. t ++ hi ∷ []) high);
      round = λ r F R.
          let Q : EncloseScaled r x.shift (suc m) x.low.items x.high.items =
          rw (← e) R in
          let Z : EncloseScaled r z.shift (suc m) z.low.items z.high.items =
          rw (told.same.shift, told.same.low, told.same.high) Q in
          let below : whole (c.divided.result.low * 2 ^ z.shift) ≤ℚ whole (2 ^ 61) *ℚ r (suc m) =
          rw (c.divided.ensures.low, told.same.shift)
          (next_low parts c.args.before c.args.after c.args.q r amounts c.requires.room.divisor F x.shift m x.low.items x.high.items
          Q d _ d_is lo_sum) in
          let above : whole (2 ^ 61) *ℚ r (suc m) ≤ℚ whole (c.divided.result.high * 2 ^ z.shift) =
          rw (c.divided.ensures.high, told.same.shift)
          (next_high parts c.args.before c.args.after c.args.q r amounts c.requires.room.divisor F x.shift m x.low.items x.high.items
          Q d _ d_is hi_sum) in
          rw (low_pushed, high_pushed, len)
          (pushed r y.shift (suc m) y.low.items y.high.items lo hi low_n high_n (shift_down.round r (suc m) Z)
          (shift_down.low _ below) (shift_down.high _ above));
    }
