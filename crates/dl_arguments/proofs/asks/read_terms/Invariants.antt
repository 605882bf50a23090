-- The terms so far, and what the rest is read as.
use Rattle.dl_arguments.proofs.Common.{◌≡◌, ◌++◌, option_map, ◌-◌, plus, term}
use denote.Shadow.{shadow}
use denote.Text.{Utf8}
use Rattle.dl_arguments.specs.Ways.{joined}
use Rattle.dl_arguments.proofs.asks.read_terms.Given as goal

abbrev pub invariant-loop-index : goal.invariant-loop-index
invariant-loop-index l = record {
  text : shadow (Utf8 l.rest);
  so_far : option_map (λ more. l.terms.items ++ more) (joined plus term.read (8 - l.index) l.rest)
      ≡ joined plus term.read 8 l.text;
}
