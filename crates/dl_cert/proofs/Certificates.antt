-- Steps that end at the target are a certificate, and a short one.
use Rattle.dl_cert.proofs.Common.{ℕ, ◌≡◌, ◌+◌, ◌*◌, ◌≤◌, ◌∙◌, suc, refl, sym, ap, arith, mul-le-mul, List, [], ◌∷◌, ◌++◌, length, take, take_more, take_all, Iv, Plan, IsCovered, Made, made_at, target, IsCertificate, IsWritten, EndsWith}
use Rattle.dl_cert.proofs.WrittenSteps.{text_spells, text_short}
use Rattle.dl_cert.proofs.Passings.{made_many}

last_apart : (made : List Made) (k : ℕ) → suc k ≡ length made → made ≡ take k made ++ made_at made k ∷ []
last_apart made k last =
    sym (take_all (k + 1) made (omega (arith, last)))
    ∙ take_more made k (record { cells = []; label = λ i. 0 }) (omega (arith, last))

pub is_certificate : {plan : Plan} {text : List ℕ} {count k : ℕ} {cells : List (Iv 56)} → IsCovered plan
    → EndsWith plan text count [] k cells (target plan) → IsCertificate plan text
is_certificate {k = k} covered e =
    let w = e.written in
    record {
      covered = covered;
      grid = (made_at e.later k).cells;
      verifies = record {
        steps = w.steps;
        spelled = rw w.lines (text_spells w.steps w.can_be);
        certify = record {
          pass = w.pass;
          before = take k e.later;
          last = made_at e.later k;
          made = w.makes ∙ last_apart e.later k e.last;
          label = e.step.label_is;
          cells = refl;
        };
      };
      exact = w.exact;
    }

pub is_short : {plan : Plan} {text : List ℕ} {count : ℕ} {made : List Made} → IsWritten plan text count made
    → plan.cells ≤ 1024 → count ≤ 577 → length text ≤ 66000000
is_short {plan} w few most =
    let many : length w.steps ≤ 577 = omega (arith, made_many [] w.steps, ap length w.makes, w.many, most) in
    let line : 26 + 36 * plan.cells ≤ 36890 = omega (arith, few) in
    omega (arith, ap length w.lines, text_short w.steps w.can_be, mul-le-mul many line)
