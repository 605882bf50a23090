use Rattle.dl_recursion.proofs.Common.{◌≡◌, ℕ, ◌+◌, ◌<◌, arith, sym, length, ◌∙◌, get_or_default}
use Rattle.dl_recursion.proofs.BlockSums.{all_given, given_room, next_given}
use Rattle.dl_recursion.proofs.blocks.with_block.Goals as goal

inside : (k s n : ℕ) → k < s → s ≡ n → k < n
inside k s n l e = omega (arith, l, e)

pub overflow_add-low : goal.overflow_add-low
overflow_add-low c =
    let s : c.len-s.result ≡ length c.args.x.now.low.items = c.len-s.ensures ∙ c.args.x.now.low.ok.0 in
    record {
      fits = omega (
        arith,
        next_given c.loop-k.k c.len-s.result c.args.x.now.low.items c.args.factors.now c.loop-k.low c.from.result c.from-factor.result
            c.loop-k.invariant.low (c.from.ensures ∙ c.index.ensures ∙ get_or_default c.args.x.now.low.items c.loop-k.k _ 0 (inside _ _ _ c.loop-k-test.true (c.len-s.ensures ∙ c.args.x.now.low.ok.0))) c.from-factor.ensures,
        given_room c.args.after c.args.parts.now c.requires.amounts c.args.x.now.low.items c.args.factors.now _ c.requires.factors
            c.len-s.result (c.loop-k.k + 1) (rw s c.requires.some) (rw s c.requires.within) (omega (arith, c.loop-k-test.true))
            c.requires.sound.low_small (rw s c.requires.room),
      );
    }

pub overflow_add-high : goal.overflow_add-high
overflow_add-high c =
    let s : c.len-s.result ≡ length c.args.x.now.low.items = c.len-s.ensures ∙ c.args.x.now.low.ok.0 in
    record {
      fits = omega (
        arith,
        next_given c.loop-k.k c.len-s.result c.args.x.now.high.items c.args.factors.now c.loop-k.high c.from-in-loop-k.result c.from-factor.result
            c.loop-k.invariant.high (c.from-in-loop-k.ensures ∙ c.index-in-loop-k.ensures ∙ get_or_default c.args.x.now.high.items c.loop-k.k _ 0 (inside _ _ _ c.loop-k-test.true (c.len-s.ensures ∙ c.args.x.now.low.ok.0 ∙ sym c.requires.sound.alike))) c.from-factor.ensures,
        given_room c.args.after c.args.parts.now c.requires.amounts c.args.x.now.high.items c.args.factors.now _ c.requires.factors
            c.len-s.result (c.loop-k.k + 1) (rw s c.requires.some) (rw s c.requires.within) (omega (arith, c.loop-k-test.true))
            c.requires.sound.high_small (rw s c.requires.room),
      );
    }

pub loop-k-preserved : goal.loop-k-preserved
loop-k-preserved c = record {
  low = next_given c.loop-k.k c.len-s.result c.args.x.now.low.items c.args.factors.now c.loop-k.low c.from.result c.from-factor.result
      c.loop-k.invariant.low (c.from.ensures ∙ c.index.ensures ∙ get_or_default c.args.x.now.low.items c.loop-k.k _ 0 (inside _ _ _ c.loop-k-test.true (c.len-s.ensures ∙ c.args.x.now.low.ok.0))) c.from-factor.ensures;
  high = next_given c.loop-k.k c.len-s.result c.args.x.now.high.items c.args.factors.now c.loop-k.high c.from-in-loop-k.result c.from-factor.result
      c.loop-k.invariant.high (c.from-in-loop-k.ensures ∙ c.index-in-loop-k.ensures ∙ get_or_default c.args.x.now.high.items c.loop-k.k _ 0 (inside _ _ _ c.loop-k-test.true (c.len-s.ensures ∙ c.args.x.now.low.ok.0 ∙ sym c.requires.sound.alike))) c.from-factor.ensures;
  within = omega (arith, c.loop-k-test.true);
}

pub returns : goal.returns
returns c =
    let x = c.args.x.now in
    let s : c.len-s.result ≡ length x.low.items = c.len-s.ensures ∙ x.low.ok.0 in
    let k : c.loop-k.k ≡ length x.low.items = omega (arith, s, c.loop-k-test.false, c.loop-k.invariant.within) in
    record {
      low = rw (k, s) at c.loop-k.invariant.low
          ∙ sym (all_given c.args.after c.args.parts.now c.requires.amounts x.low.items c.args.factors.now _ c.requires.factors
          (length x.low.items) c.requires.some c.requires.within);
      high = rw (k, s) at c.loop-k.invariant.high
          ∙ sym (all_given c.args.after c.args.parts.now c.requires.amounts x.high.items c.args.factors.now _ c.requires.factors
          (length x.low.items) c.requires.some c.requires.within);
    }
