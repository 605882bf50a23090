-- How parts are written as words.
use Rattle.std.specs.Prelude.{List, [], ◌∷◌, ◌++◌, IsTrue, codes, map}
use Rattle.dl_arguments.specs.Parts.{Part, is_name}
use Rattle.dl_arguments.specs.Parts.Part.{option, positional}
use Rattle.dl_arguments.specs.Spelling.{Text, begins_plainly}

-- the words are these parts, in order
pub data AreParts : List Text → List Part → Type 0 where
  -- no words
  nothing : AreParts [] []
  -- `--NAME=v`
  joined : (name value : Text) (rest : List Text) (ps : List Part) → IsTrue (is_name name)
      → AreParts rest ps
      → AreParts ((codes "--" ++ (name ++ (codes "=" ++ value))) ∷ rest) (option name value ∷ ps)
  -- `--NAME`, and the next word is `v`
  apart : (name value : Text) (rest : List Text) (ps : List Part) → IsTrue (is_name name)
      → AreParts rest ps
      → AreParts ((codes "--" ++ name) ∷ value ∷ rest) (option name value ∷ ps)
  -- a word that no hyphen begins
  plain : (word : Text) (rest : List Text) (ps : List Part) → IsTrue (begins_plainly word)
      → AreParts rest ps
      → AreParts (word ∷ rest) (positional word ∷ ps)
  -- `--`, and any words
  ended : (rest : List Text) → AreParts (codes "--" ∷ rest) (map positional rest)
