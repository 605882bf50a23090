use Rattle.dl_halves.proofs.Common.{arith}
use Rattle.dl_convolution.proofs.Fits.{fewer_fit}
use Rattle.dl_halves.proofs.Fits.{first_part, rest_long, second_part}
use Rattle.dl_halves.proofs.FirstPlaces.{one_fits, two_fits, all_sums}
use Rattle.dl_halves.proofs.short.+halved_sums.Goals as goal

pub first_sums-requires-clause-fits : goal.first_sums-requires-clause-fits
first_sums-requires-clause-fits t c = fewer_fit _ (omega arith) c.requires.fits

pub halved_sums-requires : goal.halved_sums-requires
halved_sums-requires t c = (
  omega (arith, c.decreases),
  (
    fewer_fit _ (omega arith) (first_part _ _ c.requires.fits),
    (omega (arith, rest_long c.half_length-half.result c.args.a.now), (omega arith, λ many. omega arith)),
  ),
)

pub halved_sums-requires-2 : goal.halved_sums-requires-2
halved_sums-requires-2 t c = (
  omega (arith, c.decreases),
  (
    fewer_fit _ (omega arith) (second_part _ _ c.requires.fits),
    (omega arith, (omega (arith, rest_long c.half_length-half.result c.args.b.now), λ many. omega arith)),
  ),
)

pub add_from-requires-clause-fits : goal.add_from-requires-clause-fits
add_from-requires-clause-fits t c k inside =
    one_fits c.half_length-half.result c.requires.fits c.half_length-half.ensures.enough c.half_length-half.ensures.less
    c.requires.in_first c.requires.in_second _ _ c.first_sums.ensures.each
    (λ s b. c.halved_sums.ensures.each s (omega arith)) k (omega arith)

pub add_from-requires-2-clause-fits : goal.add_from-requires-2-clause-fits
add_from-requires-2-clause-fits t c k inside =
    two_fits c.half_length-half.result c.requires.fits c.half_length-half.ensures.enough c.half_length-half.ensures.less
    c.requires.in_first c.requires.in_second _ _ c.first_sums.ensures.each
    (λ s b. c.halved_sums.ensures.each s (omega arith)) _ _ (λ s b. c.halved_sums-2.ensures.each s (omega arith))
    (λ s b. c.add_from.ensures.each s (omega arith)) c.add_from.ensures.first k (omega arith)

pub returns : goal.returns
returns t c = record {
  each = all_sums c.half_length-half.result c.requires.fits c.half_length-half.ensures.enough c.half_length-half.ensures.less
      c.requires.in_first c.requires.in_second _ _ c.first_sums.ensures.each
      (λ s b. c.halved_sums.ensures.each s (omega arith)) _ _ (λ s b. c.halved_sums-2.ensures.each s (omega arith))
      (λ s b. c.add_from.ensures.each s (omega arith)) c.add_from.ensures.first _
      (λ s b. c.add_from-2.ensures.each s (omega arith)) c.add_from-2.ensures.first;
}
