-- The severity is there, and the other fractions are fine.
use Rattle.dl_rules.proofs.Common.{◌∙◌, sym, subst, HasDistribution, pairs_of, IsFineSev, KeepsWhole, made_pairs, keeps_whole, final_means, final_near, final_few}
use Rattle.dl_rules.proofs.FineClaims.{coarse_severity, fine_parts}
use Rattle.dl_rules.proofs.fine.fine_severity.Goals as goal

pub final_severity-requires : goal.final_severity-requires
final_severity-requires c =
    let u = c.args.unit.now in
    let told = rw c.in-Some.is at c.requires.layered in
    let fine : IsFineSev c.args.bounds u = record {
      allowed = c.requires.bounds;
      layered = c.requires.unit;
      ceded = c.requires.ceded;
      fine = fine_parts c.args.bounds u told.0 (sym c.parts_too_fine.ensures ∙ c.if-parts_too_fine.false);
    } in
    subst (λ made. KeepsWhole made c.in-Some.layered) (sym c.requires.made.occ)
    (keeps_whole u fine c.in-Some.layered told.1)

pub returns-in_default : goal.returns-in_default
returns-in_default c =
    let told = rw c.in_default.is at c.requires.layered in
    coarse_severity c.args.bounds c.args.unit.now told

pub returns : goal.returns
returns c =
    let u = c.args.unit.now in
    let sev = c.in_ok-final_severity.field-0 in
    let told = rw c.in-Some.is at c.requires.layered in
    let parts = fine_parts c.args.bounds u told.0 (sym c.parts_too_fine.ensures ∙ c.if-parts_too_fine.false) in
    let fine : IsFineSev c.args.bounds u = record { allowed = c.requires.bounds; layered = c.requires.unit; ceded = c.requires.ceded; fine = parts } in
    let means = final_means u fine c.in-Some.layered sev told.1
    (subst (λ made. HasDistribution sev (made_pairs made (pairs_of c.in-Some.layered))) c.requires.made.occ c.in_ok-final_severity.ensures) in
    (parts, record { means = means; near = final_near u fine sev means; few = final_few u fine sev means })
