-- The number and the name of each rule, as they are printed.
use Rattle.std.specs.Prelude.{ℕ, List, codes}
use Rattle.dl_rules.specs.declared.rule.Rule.{Rule}
use Rattle.dl_rules.specs.declared.rule.Rule.TheVariants.{DuplicateName, BadNumeral, BadRange, ListTooLong, LengthsDiffer, NotOne, OffGrid, TooFar, WeightsDiffer, NoneAbove, Overlap, ShareAboveOne, OffGridCession, ZeroMean, CountNotWhole, CountAboveOne, TrialsNotWhole, ShapeNotWhole, TooFine, TooManyClaims, HorizonTooLarge, TooManyUnits, DuplicateSeverity, UnknownSeverity, ZeroBase, CommonUnit, CommonShape, CommonSize, TotalTooLarge}

abbrev pub rule_number : Rule → ℕ
rule_number rule = elim rule [
  | DuplicateName ↦ 1
  | BadNumeral ↦ 2
  | BadRange ↦ 3
  | ListTooLong ↦ 4
  | LengthsDiffer ↦ 5
  | NotOne ↦ 6
  | OffGrid ↦ 7
  | TooFar ↦ 8
  | WeightsDiffer ↦ 9
  | NoneAbove ↦ 10
  | Overlap ↦ 11
  | ShareAboveOne ↦ 12
  | OffGridCession ↦ 13
  | ZeroMean ↦ 14
  | CountNotWhole ↦ 15
  | CountAboveOne ↦ 16
  | TrialsNotWhole ↦ 17
  | ShapeNotWhole ↦ 18
  | TooFine ↦ 19
  | TooManyClaims ↦ 20
  | HorizonTooLarge ↦ 21
  | TooManyUnits ↦ 22
  | DuplicateSeverity ↦ 23
  | UnknownSeverity ↦ 24
  | ZeroBase ↦ 25
  | CommonUnit ↦ 26
  | CommonShape ↦ 27
  | CommonSize ↦ 28
  | TotalTooLarge ↦ 30
]

abbrev pub rule_name : Rule → List ℕ
rule_name rule = elim rule [
  | DuplicateName ↦ codes "DuplicateName"
  | BadNumeral ↦ codes "BadNumeral"
  | BadRange ↦ codes "BadRange"
  | ListTooLong ↦ codes "ListTooLong"
  | LengthsDiffer ↦ codes "LengthsDiffer"
  | NotOne ↦ codes "NotOne"
  | OffGrid ↦ codes "OffGrid"
  | TooFar ↦ codes "TooFar"
  | WeightsDiffer ↦ codes "WeightsDiffer"
  | NoneAbove ↦ codes "NoneAbove"
  | Overlap ↦ codes "Overlap"
  | ShareAboveOne ↦ codes "ShareAboveOne"
  | OffGridCession ↦ codes "OffGridCession"
  | ZeroMean ↦ codes "ZeroMean"
  | CountNotWhole ↦ codes "CountNotWhole"
  | CountAboveOne ↦ codes "CountAboveOne"
  | TrialsNotWhole ↦ codes "TrialsNotWhole"
  | ShapeNotWhole ↦ codes "ShapeNotWhole"
  | TooFine ↦ codes "TooFine"
  | TooManyClaims ↦ codes "TooManyClaims"
  | HorizonTooLarge ↦ codes "HorizonTooLarge"
  | TooManyUnits ↦ codes "TooManyUnits"
  | DuplicateSeverity ↦ codes "DuplicateSeverity"
  | UnknownSeverity ↦ codes "UnknownSeverity"
  | ZeroBase ↦ codes "ZeroBase"
  | CommonUnit ↦ codes "CommonUnit"
  | CommonShape ↦ codes "CommonShape"
  | CommonSize ↦ codes "CommonSize"
  | TotalTooLarge ↦ codes "TotalTooLarge"
]
