use Rattle.dl_sources.proofs.Common.{arith, get_or, ◌also◌, Nowhere}
use Rattle.dl_sources.proofs.Found.{found_reach, origin_drawn}
use Rattle.dl_sources.proofs.totals.drawn_with.Goals as goal

pub total_mean-mean-requires : goal.total_mean-mean-requires
total_mean-mean-requires g c =
    (omega arith) also c.requires.of.at also rw c.as_slice.ensures.value c.requires.means

pub returns : goal.returns
returns g c =
    let sources = c.requires.sources in record {
      drawn = record {
        some = sources.some;
        total = sources.total;
        means = record {
          mean = c.total_mean-mean.ensures.mean;
          small = c.total_mean-mean.ensures.small;
          units = c.requires.means.means;
          units_small = c.requires.means.small;
        };
        as_many = sources.as_many;
        origins = λ i inside. origin_drawn c.args.of.now.plan.now _ i _ (get_or c.args.sources.origins.items i Nowhere)
            c.requires.of.at.independent inside (c.requires.units i) (sources.each i inside);
      };
      reached = found_reach sources.each;
    }
