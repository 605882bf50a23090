use Rattle.dl_transform.proofs.Common.{◌^◌, ◌<◌, arith, length, other}
use Rattle.dl_transform.proofs.Widths.{high_is, low_below, mixed_below}
use Rattle.dl_transform.proofs.multiply.products_by_two.Goals as goal

pub returns-clause-low : goal.returns-clause-low
returns-clause-low c s b =
    let inside : s < 2 ^ c.args.levels = omega (arith, b, c.requires.served.room.within, c.requires.served.room.room) in
    c.combine_all.ensures.is s b _ (low_below _ _ _ _ s _ (c.requires.served.sums s))
    (c.ends_modulo.ensures.low s inside) (c.ends_modulo-2.ensures.low s inside)

pub returns-clause-high : goal.returns-clause-high
returns-clause-high c s b =
    let here : s < length c.args.lows.now = omega (arith, b, c.requires.fewer) in
    let inside : s < 2 ^ c.args.levels = omega (arith, here, c.requires.served.room.within, c.requires.served.room.room) in
    let second = other c.args.a c.args.b in
    omega (
      arith,
      returns-clause-low c s here,
      c.combine_all-2.ensures.is s b _ (mixed_below _ _ _ _ s _ (c.requires.served.sums s))
          (c.ends_modulo.ensures.mixed s inside) (c.ends_modulo-2.ensures.mixed s inside),
      c.add_lows.ensures s (omega (arith, b)),
      high_is c.args.a.lows.now c.args.a.widths.now second.lows.now second.widths.now s,
    )
