-- In the grammar as it is read the looks at the next tokens decide how to go on, and in a row of
-- parts whether another one follows.
use Rattle.std.specs.Prelude.{◌≡◌, true, refl}
use Rattle.dl_ast.specs.Prelude.{many, numeral, name, note, limit, layer, reference, side, count, zero_change, freq, claims, premium, common, head}
use Rattle.dl_parser.specs.Reading.{is_plain, is_settled}
use Rattle.dl_parser.specs.Factored.{item, next_item, items, list, atom, weighted, mixture, cost, sev}
use Rattle.dl_parser.specs.Factored.{defined, sevdef, cession, next_cession, layers, clause, ratio}
use Rattle.dl_parser.specs.Factored.{exposure, loss, ending, closing, exposed, listed, counted, body}
use Rattle.dl_parser.specs.Factored.{unit, units, book, program}

pub record IsPlainGrammar : Type 0 where
  pub whole : is_plain program ≡ true
  pub settled : is_settled program ≡ true
  pub by_items : is_plain (many next_item) ≡ true
  pub by_cessions : is_plain (many next_cession) ≡ true
  pub by_atoms : is_plain (many atom) ≡ true
  pub by_definitions : is_plain (many sevdef) ≡ true
  pub by_units : is_plain (many unit) ≡ true

pub plain : IsPlainGrammar
unfolding numeral name note item next_item items list limit layer atom weighted mixture reference
    cost sev defined sevdef cession side next_cession layers clause count zero_change freq claims
    premium ratio exposure loss ending closing exposed listed counted body unit common head units
    book program
plain = record {
  whole = refl;
  settled = refl;
  by_items = refl;
  by_cessions = refl;
  by_atoms = refl;
  by_definitions = refl;
  by_units = refl;
}
