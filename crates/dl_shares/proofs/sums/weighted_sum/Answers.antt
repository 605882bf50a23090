use Rattle.dl_shares.proofs.Common.{◌-◌, arith, sym, refl, get_or, below_nothing, next_sum}
use Rattle.dl_shares.proofs.PairSums.{next_to, end_within, all_places}
use Rattle.dl_shares.proofs.sums.weighted_sum.Goals as goal

pub loop-z-init : goal.loop-z-init
loop-z-init c = record { end = sym (below_nothing _); so_far = sym (below_nothing _); sum = sym (below_nothing _) }

pub overflow_add-end : goal.overflow_add-end
overflow_add-end c =
    let within = end_within c.args.q c.loop-z.z _ _ (λ z. get_or c.args.others.now z 0) (omega arith)
    c.loop-z.invariant.end refl in omega (arith, within, c.requires.mass)

pub word_product-so_far-requires : goal.word_product-so_far-requires
word_product-so_far-requires c =
    let own = c.requires.own_words (c.args.q - c.loop-z.z) 0 (omega arith) in
    let within = end_within c.args.q c.loop-z.z _ _ (λ z. get_or c.args.others.now z 0) (omega arith)
    c.loop-z.invariant.end refl in
    record { first = omega arith; second = omega (arith, within, c.requires.mass) }

pub overflow_add-so_far : goal.overflow_add-so_far
overflow_add-so_far c =
    let step = next_to c.args.q c.loop-z.z _ _ _ _ _ (λ y. get_or c.args.own.now y 0)
    (λ z. get_or c.args.others.now z 0) (omega arith) c.loop-z.invariant.end refl c.loop-z.invariant.so_far
    c.loop-z.invariant.sum c.word_product-so_far.ensures in omega (arith, step.2, c.requires.fits)

pub overflow_add-sum : goal.overflow_add-sum
overflow_add-sum c =
    let step = next_to c.args.q c.loop-z.z _ _ _ _ _ (λ y. get_or c.args.own.now y 0)
    (λ z. get_or c.args.others.now z 0) (omega arith) c.loop-z.invariant.end refl c.loop-z.invariant.so_far
    c.loop-z.invariant.sum c.word_product-so_far.ensures in omega (arith, step.2, c.requires.fits)

pub loop-z-preserved : goal.loop-z-preserved
loop-z-preserved c =
    let step = next_to c.args.q c.loop-z.z _ _ _ _ _ (λ y. get_or c.args.own.now y 0)
    (λ z. get_or c.args.others.now z 0) (omega arith) c.loop-z.invariant.end refl c.loop-z.invariant.so_far
    c.loop-z.invariant.sum c.word_product-so_far.ensures in
    record {
      end = next_sum (λ z. get_or c.args.others.now z 0) c.loop-z.z _ _ c.loop-z.invariant.end refl;
      so_far = step.0;
      sum = step.1;
    }

pub returns : goal.returns
returns c = all_places c.args.q c.loop-z.z c.loop-z.sum (λ y. get_or c.args.own.now y 0)
    (λ z. get_or c.args.others.now z 0) (omega arith) c.loop-z.invariant.sum
