-- What a clause keeps, in parts of the common denominator of its shares.
use Rattle.std.specs.Prelude.{ℕ, ◌-◌, ◌*◌, if◌then◌else◌, sum_by}
use Rattle.dl_plan.specs.declared.cede.CedeLayer.{CedeLayer}
use Rattle.dl_plan.specs.Fine.{common_denominator, numerator_over}
use Rattle.dl_plan.specs.Clause.{Clause, layer, layer_shares}

-- how many parts make a bucket
abbrev pub parts_in_bucket : Clause → ℕ
parts_in_bucket clause = common_denominator (layer_shares clause.1)

-- the parts that a layer cedes of x, where c parts make a bucket
abbrev pub layer_parts : ℕ → ℕ → CedeLayer → ℕ
layer_parts c x l = numerator_over c l.share * layer l.limit l.attach x

-- the parts that are kept of x
abbrev pub kept_parts : Clause → ℕ → ℕ → ℕ
kept_parts clause c x =
    let ceded : ℕ = sum_by (layer_parts c x) clause.1 in
    if clause.0 then x * c - ceded else ceded
