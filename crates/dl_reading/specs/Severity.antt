-- The severity of a unit, step by step: the atoms, their weights, the conditioning on exceeding the
-- attachment, the layer, the occurrence clause. Amounts are in buckets.
use Rattle.std.specs.Prelude.{ℕ, Bool, not, ◌&&◌, nat_lt, if◌then◌else◌, List, [], ◌∷◌, ◌++◌, map, filter, zip, length, All, ⊤, Option, Some, None}
use Rattle.dl_exact.specs.Fraction.{Fraction, ◌*ℚ◌}
use Rattle.dl_plan.specs.Prelude.{Pairs, probability, conditioned, IsClause, kept, IsWhole}
use Rattle.dl_severity.specs.Steps.{scaled, layered, ceded_each}
use Rattle.dl_reading.specs.declared.grid.GridAtom.{GridAtom}
use Rattle.dl_reading.specs.declared.grid.GridSev.{GridSev}
use Rattle.dl_reading.specs.declared.grid.GridLayer.{GridLayer}
use Rattle.dl_reading.specs.declared.grid.GridUnit.{GridUnit}
use Rattle.dl_reading.specs.Lists.{probs_among}
use Rattle.dl_reading.specs.declared.grid.GridClause.{GridClause}
use Rattle.dl_reading.specs.declared.made.MadeClause.{MadeClause}
use Rattle.dl_reading.specs.declared.made.MadeClause.TheVariants.{Missing, TooFine, Whole}
use Rattle.dl_plan.specs.declared.severity.Sev.{Sev}
use Rattle.dl_reading.specs.Clauses.{clause_of}

abbrev pub atom_probs : GridAtom → List Fraction
atom_probs a = probs_among (length a.amounts) a.probs

-- each amount of an atom with its probability
abbrev pub atom_pairs : GridAtom → Pairs
atom_pairs a = zip a.amounts (atom_probs a)

-- one atom alone has the weight 1
abbrev pub weights_of : GridSev → List Fraction
weights_of s = probs_among (length s.atoms) s.weights

-- each probability times the weight of its atom
abbrev pub mixed : List Fraction → List Pairs → Pairs
mixed [] atoms = []
mixed (weight ∷ weights) [] = []
mixed (weight ∷ weights) (atom ∷ atoms) = scaled weight atom ++ mixed weights atoms

abbrev pub mixed_pairs : GridSev → Pairs
mixed_pairs s = mixed (weights_of s) (map atom_pairs s.atoms)

-- the attachment is above 0, and there is no final `!`
abbrev pub is_conditioned : Bool → GridLayer → Bool
is_conditioned bang l = not bang && nat_lt 0 l.attach

-- the severity in the layer
abbrev pub layer_pairs : Option GridLayer → Bool → GridSev → Pairs
layer_pairs None bang s = mixed_pairs s
layer_pairs (Some l) bang s =
    layered l.limit l.attach
    (if is_conditioned bang l then conditioned l.attach (mixed_pairs s) else mixed_pairs s)

-- the severity in the layer
abbrev pub severity_in_layer : GridUnit → Pairs
severity_in_layer u = layer_pairs u.layer u.bang u.sev

-- the final severity, after the occurrence clause
abbrev pub ceded_pairs : Option GridClause → Pairs → Pairs
ceded_pairs None pairs = pairs
ceded_pairs (Some c) pairs = ceded_each (clause_of c) pairs

-- a severity after a clause; unchanged where there is none, or its shares are not fine
abbrev pub made_pairs : MadeClause → Pairs → Pairs
made_pairs Missing pairs = pairs
made_pairs TooFine pairs = pairs
made_pairs (Whole clause span) pairs = ceded_each clause pairs

-- it keeps a whole number of each amount
abbrev pub KeepsWhole : MadeClause → Sev → Type 0
KeepsWhole Missing sev = ⊤
KeepsWhole TooFine sev = ⊤
KeepsWhole (Whole clause span) sev =
    IsClause clause × All (λ item. IsWhole (kept clause item.amount)) sev.items

abbrev pub final_severity : GridUnit → Pairs
final_severity u = ceded_pairs u.occ (severity_in_layer u)

-- the amounts of positive probability
abbrev pub support : Pairs → List ℕ
support pairs = map (λ pair. pair.0) (filter (λ pair. nat_lt 0 pair.1.num) pairs)

-- the products of a weight and the probabilities of its atom, equal amounts added up
abbrev pub shares_in_mixture : List Fraction → List Pairs → List Fraction
shares_in_mixture [] atoms = []
shares_in_mixture (weight ∷ weights) [] = []
shares_in_mixture (weight ∷ weights) (atom ∷ atoms) =
    map (λ pair. weight *ℚ probability atom pair.0) atom ++ shares_in_mixture weights atoms

abbrev pub mixture_shares : GridSev → List Fraction
mixture_shares s = shares_in_mixture (weights_of s) (map atom_pairs s.atoms)
