-- Amounts and probabilities, right where the values are.
use Rattle.dl_reading.proofs.Common.{ℕ, ◌≡◌, ◌∙◌, List, length, map, Option, sym, ap, ap₂, arith, Fraction, Span, Shares, IsRead, grid_atom, number_of, flaws_else, Atom, Flaws, Gridded, IsReadTo, flaws_within, grid_shares, flaws_of_list, flaws_beside, flaws_of_atom, if_there, spanned_values, Bounds, map-map}
use Rattle.dl_reading.proofs.Agreeing.{read_after, keeps_first}
use Rattle.dl_reading.proofs.Beside.{beside_read}
use Rattle.dl_reading.proofs.ListLengths.{amount_flaws, none_early}
use Rattle.dl_reading.proofs.losses.grid_atom.Goals as goal

-- probabilities are right where the values and the amounts are
atom_read : (bounds : Bounds) (most : ℕ) (bs : Fraction) (a : Atom) {spanned : Gridded (List (Fraction × Span))}
    {values : List (Fraction × Span)} {amounts : Gridded (List ℕ)} {probs : Gridded (Option Shares)} {own all : Flaws}
    → IsReadTo 3 (flaws_of_list bounds a.values) (spanned_values a.values) spanned → values ≡ spanned.part
    → IsRead (amount_flaws most bs values) (map (λ pair. number_of bs pair.0) values) amounts
    → IsRead (flaws_within (flaws_beside bounds (length values)) a.probs) (if_there grid_shares a.probs) probs
    → own ≡ flaws_else spanned.flaws amounts.flaws → all ≡ flaws_else own probs.flaws
    → IsRead (flaws_of_atom bounds most bs a) (grid_atom bs a)
    (record { part = record { amounts = amounts.part; probs = probs.part }; flaws = all })
atom_read bounds most bs a {spanned = spanned} {own = own} listed same gridded beside joined is =
    let right = spanned_values a.values in
    let f = flaws_of_list bounds a.values in
    let numbers = read_after 3 7 (amount_flaws most bs) (map (λ pair. number_of bs pair.0)) (λ xs ns. ns) (omega arith) listed
    (none_early most bs spanned.part ∙ sym (none_early most bs right)) (rw same at gridded) joined in
    let listed_only : IsReadTo 3 (flaws_else f (amount_flaws most bs right)) right (record { part = spanned.part; flaws = own }) =
    record { first = numbers.first; right = λ clean. listed.right (keeps_first 3 f (amount_flaws most bs right) clean) } in
    let both = beside_read bounds (λ (xs : List (Fraction × Span)). length xs) (λ xs p. p) a.probs listed_only
    (ap length same) beside is in
    record {
      first = both.first;
      right = λ clean. ap₂ (λ (ns : List ℕ) (p : Option Shares). record { amounts = ns; probs = p })
          (numbers.right (keeps_first 7 (flaws_else f (amount_flaws most bs right)) _ clean)
          ∙ sym (map-map (number_of bs) (λ (pair : Fraction × Span). pair.0) right)) (both.right clean);
    }

pub returns : goal.returns
returns c = atom_read c.args.bounds c.args.most c.args.bs c.args.atom.now c.in_ok-spanned.ensures.read c.as_slice-values.ensures
    c.in_ok-amounts.ensures c.in_ok-probs.ensures c.or-own.ensures c.or.ensures
