use Rattle.dl_shares.proofs.Common.{◌-◌, arith, sym, get_or, below_nothing}
use Rattle.dl_shares.proofs.Nested.{next_nested, all_nested}
use Rattle.dl_shares.proofs.beside.weighted_sum.Goals as goal

pub loop-z-init : goal.loop-z-init
loop-z-init c = record { so_far = sym (below_nothing _); sum = sym (below_nothing _) }

pub word_product-so_far-requires : goal.word_product-so_far-requires
word_product-so_far-requires c =
    let own = c.requires.own_words (c.args.x - c.loop-z.z) 0 (omega arith) in
    let other = c.requires.other_words c.loop-z.z 0 (omega arith) in
    record { first = omega arith; second = omega arith }

pub overflow_add-so_far : goal.overflow_add-so_far
overflow_add-so_far c =
    let step = next_nested c.args.x c.loop-z.z _ _ _ (λ y. get_or c.args.own.now y 0)
    (λ z. get_or c.args.other.now z 0) (omega arith) c.loop-z.invariant.so_far c.loop-z.invariant.sum
    c.word_product-so_far.ensures in omega (arith, step.2, c.requires.fits)

pub overflow_add-sum : goal.overflow_add-sum
overflow_add-sum c =
    let step = next_nested c.args.x c.loop-z.z _ _ _ (λ y. get_or c.args.own.now y 0)
    (λ z. get_or c.args.other.now z 0) (omega arith) c.loop-z.invariant.so_far c.loop-z.invariant.sum
    c.word_product-so_far.ensures in omega (arith, step.2, c.requires.fits)

pub loop-z-preserved : goal.loop-z-preserved
loop-z-preserved c =
    let step = next_nested c.args.x c.loop-z.z _ _ _ (λ y. get_or c.args.own.now y 0)
    (λ z. get_or c.args.other.now z 0) (omega arith) c.loop-z.invariant.so_far c.loop-z.invariant.sum
    c.word_product-so_far.ensures in record { so_far = step.0; sum = step.1 }

pub returns : goal.returns
returns c = all_nested c.args.x c.loop-z.z c.loop-z.sum (λ y. get_or c.args.own.now y 0)
    (λ z. get_or c.args.other.now z 0) (omega arith) c.loop-z.invariant.sum
