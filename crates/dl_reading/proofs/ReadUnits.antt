-- A unit that is read, by its parts.
use Rattle.dl_reading.proofs.Common.{ℕ, ◌≡◌, Option, arith, Fraction, IsRead, GridUnit, GridLayer, GridSev, GridClause, earlier_flaws, flaws_else, grid_layer, grid_clause, Flaws, Gridded, IsReadTo, flaws_within, count_with, freq_of, given_zero, grid_with, flaws_of_count, flaws_of_distribution, flaws_of_layer, flaws_of_clause, flaws_with, is_named, if_there, Bounds, UnitAst, GridFreq, GridCount}
use Rattle.dl_reading.proofs.Agreeing.{pair, read_both, read_earlier, read_longer}
use Rattle.dl_reading.proofs.Clean.{clean_first, clean_second}

abbrev pub made : UnitAst → (GridCount × Option GridLayer) × GridSev
    → Option GridClause × ((GridFreq × Option Fraction) × Option GridClause) → GridUnit
made u front terms = record {
  name = u.name.span;
  count = front.0.0;
  layer = front.0.1;
  sev = front.1;
  bang = u.sev.bang;
  zero = terms.1.0.1;
  occ = terms.0;
  agr = terms.1.1;
}

pub unit_read : (bounds : Bounds) (most : ℕ) (bs : Fraction) (u : UnitAst) {severity : Flaws} {right : GridSev}
    {given : Gridded (GridFreq × Option Fraction)} {count : Gridded GridCount} {layer : Gridded (Option GridLayer)}
    {sev : Gridded GridSev} {occ agr : Gridded (Option GridClause)} {own front tail terms all : Flaws}
    → IsReadTo 1 (flaws_of_distribution u.count) (freq_of u.count, given_zero u.count) given
    → IsRead (flaws_of_count bounds u.count) (count_with u.count given.part.0) count
    → IsRead (flaws_within (flaws_of_layer most bs) u.layer) (if_there (grid_layer bs) u.layer) layer
    → IsRead severity right sev
    → IsRead (flaws_within (flaws_of_clause most bs) u.occ) (if_there (grid_clause bs) u.occ) occ
    → IsRead (flaws_within (flaws_of_clause most bs) u.agr) (if_there (grid_clause bs) u.agr) agr
    → own ≡ flaws_else count.flaws layer.flaws → front ≡ earlier_flaws (is_named u.sev.body) own sev.flaws
    → tail ≡ flaws_else given.flaws agr.flaws → terms ≡ flaws_else occ.flaws tail → all ≡ flaws_else front terms
    → IsRead (flaws_with bounds most bs severity u) (grid_with bs right u)
    (record { part = made u ((count.part, layer.part), sev.part) (occ.part, (given.part, agr.part)); flaws = all })
unit_read bounds most bs u {severity = severity} given count layer sev occ agr own_is front_is tail_is terms_is all_is =
    let front = read_earlier (is_named u.sev.body) (read_both pair count layer own_is) sev front_is in
    let terms = read_both pair occ (read_both pair (read_longer 1 7 (omega arith) given) agr tail_is) terms_is in
    let both = read_both (made u) front terms all_is in
    record {
      first = both.first;
      right = λ clean.
          let later = clean_second (earlier_flaws (is_named u.sev.body) (flaws_else (flaws_of_count bounds u.count)
          (flaws_within (flaws_of_layer most bs) u.layer)) severity) _ clean in
          let last = clean_second (flaws_within (flaws_of_clause most bs) u.occ) _ later in
          let freq = given.right ((clean_first (flaws_of_distribution u.count) _ last).0, tt) in
          let same = both.right clean in
          rw freq (rw freq at same);
    }
