use Rattle.dl_cert.proofs.Common.{ℕ, List, Ok, Err, Result, MatchResult, IfOk, Iv, GridEncloses, aggregates_of, total, Plan, IsValid, IsVerified, RefusesSteps, VerifyFault}
use Rattle.dl_cert.proofs.Passing.{certified}
use Rattle.dl_cert.proofs.checking.verify.Goals as goal

pub bases_of-requires : goal.bases_of-requires
bases_of-requires c = record { valid = (c.args.plan.now.cells, rw c.as_slice-units.ensures c.requires.plan.valid.units) }

pub targets_of-requires : goal.targets_of-requires
targets_of-requires c = record { valid = (c.args.plan.now.cells, rw c.as_slice-units.ensures c.requires.plan.valid.units) }

enclosed : (plan : Plan) (text : List ℕ) (r : Result (List (Iv 56)) VerifyFault) → IsValid plan
    → MatchResult r (IsVerified plan text) (RefusesSteps plan text)
    → IfOk r (λ grid. GridEncloses grid (total (aggregates_of plan)))
enclosed plan text (Ok grid) valid h = certified plan valid h.0 h.1.steps grid h.1.certify
enclosed plan text (Err fault) valid h = tt

pub returns-clause-encloses : goal.returns-clause-encloses
returns-clause-encloses c =
    enclosed c.args.plan.now c.args.steps.now c.last_grid.result c.requires.plan.valid c.last_grid.ensures
