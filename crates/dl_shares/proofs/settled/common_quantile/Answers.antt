use Rattle.dl_shares.proofs.Common.{◌*◌, ◌^◌, ◌≤◌, inl, inr, arith, refl, low_at, true, false, ◌≡◌}
use Rattle.dl_shares.proofs.Absent.{not_past, not_open, not_rare, absent_rare, absent_open}
use Rattle.dl_shares.proofs.settled.common_quantile.Goals as goal

some_none : true ≡ false → ⊥
some_none e = cc

pub returns-in_err-q-clause-absent : goal.returns-in_err-q-clause-absent
returns-in_err-q-clause-absent g c us x d e none found = elim (c.in_err-q.ensures.none refl) [
  | inl past ↦ absurd (not_past c.args.g.now c.args.p x found past)
  | inr two ↦ absent_open c.args.g.now c.args.p us d e two
]

pub returns-then-at-units_of_one-clause-absent : goal.returns-then-at-units_of_one-clause-absent
returns-then-at-units_of_one-clause-absent g c us x d e none found =
    let settled = c.in_ok-q.ensures.some in
    absent_rare c.args.g.now c.args.p c.in_ok-q.q settled.0 settled.1 us d e (omega arith)

pub returns-clause-none : goal.returns-clause-none
returns-clause-none g c =
    let settled = c.in_ok-q.ensures.some in
    let enough : 2 ^ g.row.B ≤ low_at c.args.g.now c.in_ok-q.q * 65536 = omega arith in (
      λ e. absurd (some_none e),
      λ why. absurd (elim why [
        | inl past ↦ not_past c.args.g.now c.args.p c.in_ok-q.q settled.1.found past
        | inr more ↦ elim more [
          | inl two ↦ not_open c.args.g.now c.args.p c.in_ok-q.q settled.0 settled.1 two
          | inr rare ↦ not_rare c.args.g.now c.args.p c.in_ok-q.q settled.0 settled.1 enough rare
        ]
      ]),
    )
