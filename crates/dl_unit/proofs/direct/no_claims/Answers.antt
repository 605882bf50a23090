use Rattle.dl_unit.proofs.Common.{arith, sym, ◌∙◌, nothing, compound_of, none_thinned, spread_none, if_ok_three, all_at_zero_encloses}
use Rattle.dl_unit.proofs.Families.{grid_same}
use Rattle.dl_unit.proofs.direct.no_claims.Goals as goal

pub returns : goal.returns
returns g c =
    let freq = c.args.freq.now in
    let sev = c.args.sev.now in
    let e = c.zero.ensures in
    if_ok_three c.zero.result _ _ _ _ (λ grid cells low high. record {
      cells = cells;
      encloses = grid_same grid nothing (compound_of freq sev)
          (none_thinned freq sev c.requires.valid.1.count c.requires.unbounded c.requires.none)
          (all_at_zero_encloses grid low high);
      spread = omega (arith, spread_none grid (λ x. high x ∙ sym (low x)));
    }) e.cells e.low e.high
