-- Settings of the same rules, bucket and grid give a program the same plan and the same first fault.
use Rattle.dl_top.proofs.Common.{◌≡◌, ◌∙◌, ◌^◌, ℕ, List, refl, sym, ap, subst, Iv, Program, Plan, Settings, IsValid, first_fault, first_fault_of, fault_with, fault_on_grid, fault_of_port, IsPlanOf, IsUnitOf, IsCovered, IsVerified, steps_of, IsVerifiable}
use Rattle.std.specs.List.{AllZip}
use Rattle.dl_exact.specs.Fraction.{Fraction}
use Rattle.dl_rules.proofs.OnePlan.{one_plan}
use Rattle.dl_rules.specs.Faults.{by}
unfoldable use Rattle.dl_rules.specs.Faults.{fault_of_total}
use Rattle.dl_plan.specs.Prelude.{IsOfCert}
use Rattle.dl_arguments.proofs.RangeLaws.{certs_are_standard}
use Rattle.dl_top.specs.Repeated.{IsHandedOn}

-- settings with another bucket and another grid
abbrev on_grid : Settings → Fraction → ℕ → Settings
on_grid settings bs log2 = record settings { bs = bs; log2 = log2 }

-- a first fault hangs on these and the rules alone
on_its_grid : (p : Program) (a b : Settings) → first_fault p (by b.rules a) ≡ first_fault p (on_grid b a.bs a.log2)
unfolding first_fault first_fault_of fault_with fault_on_grid fault_of_port fault_of_total
on_its_grid p a b = refl

same_fault : (p : Program) (a b : Settings) → b.rules ≡ a.rules → b.bs ≡ a.bs → b.log2 ≡ a.log2
    → first_fault p a ≡ first_fault p b
same_fault p a b rules bucket cells =
    ap (λ r. first_fault p (by r a)) (sym rules)
    ∙ on_its_grid p a b
    ∙ ap (λ bs. first_fault p (on_grid b bs a.log2)) (sym bucket)
    ∙ ap (λ n. first_fault p (on_grid b b.bs n)) (sym cells)

-- and so does a plan
same_planned : (p : Program) (a b : Settings) (plan : Plan) → b.bs ≡ a.bs → b.log2 ≡ a.log2 → IsPlanOf p b plan
    → IsPlanOf p a plan
same_planned p a b plan bucket cells planned = record {
  bucket = planned.bucket ∙ bucket;
  cells = planned.cells ∙ ap (λ n. 2 ^ n) cells;
  units = subst (λ bs. AllZip (IsUnitOf bs p.sevs) p.units plan.units) bucket planned.units;
  common = planned.common;
}

-- what `cert` writes is what `verify` wants
pub handed_on : (words : List (List ℕ)) (input text : List ℕ) (words' : List (List ℕ)) (input' : List ℕ)
    → IsHandedOn words input text words' input' → IsVerifiable words' input'
handed_on words input text words' input' h = record {
  settings = h.reader;
  verify = h.verifies;
  has = record {
    program = h.means.program;
    spells = h.program;
    faultless = sym (same_fault h.means.program h.writer h.reader standard h.bucket h.cells) ∙ h.means.faultless;
    covered = λ plan planned valid. subst IsCovered (same plan planned) h.written.covered;
  };
  steps = λ plan planned valid. (
    h.written.grid,
    subst (λ steps. IsVerified plan steps h.written.grid) (sym h.steps)
        (subst (λ q. IsVerified q text h.written.grid) (same plan planned) (h.written.covered, h.written.verifies)),
  );
}
  where
    -- neither form of a certificate takes other rules
    standard : h.reader.rules ≡ h.writer.rules
    standard = certs_are_standard words' h.reader h.verifies.say (subst IsOfCert (sym h.verifies.form) tt)
        ∙ sym (certs_are_standard words h.writer h.certifies.say (subst IsOfCert (sym h.certifies.form) tt))

    same : (plan : Plan) → IsPlanOf h.means.program h.reader plan → h.plan ≡ plan
    same plan planned = one_plan h.means.program h.writer h.plan plan h.means.planned
        (same_planned h.means.program h.writer h.reader plan h.bucket h.cells planned)
