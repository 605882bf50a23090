use Rattle.dl_answers.proofs.Common.{arith, inl, inr, refl, ◌also◌, levels_each}
use Rattle.dl_answers.proofs.PriceRows.{price_answer, price_past}
use Rattle.dl_answers.proofs.rows.price_row.Goals as goal

pub price-requires : goal.price-requires
price-requires g c =
    let levels = levels_each c.args.terms.now c.requires.levels in
    (omega arith) also (omega arith) also c.requires.priced also (λ i t inside. (levels i t inside).below)
    also (λ i t inside. (levels i t inside).den) also c.requires.small

pub returns-in-Some-clause-price : goal.returns-in-Some-clause-price
returns-in-Some-clause-price g c = λ plan valid t m. inl (
    price_answer c.args.terms.now valid t m (λ past. let some = c.in-Some.ensures.none.1 past in cc)
    c.in-Some.ensures.holds
    c.in-Some.ensures.least c.in-Some.ensures.width c.ends_row.ensures.ends)

pub returns-in-None-clause-price : goal.returns-in-None-clause-price
returns-in-None-clause-price g c = λ plan valid t m. inr (record {
  past = c.beyond_row.ensures.ends;
  below = price_past c.args.terms.now valid t (c.in-None.ensures.none.0 refl);
})
