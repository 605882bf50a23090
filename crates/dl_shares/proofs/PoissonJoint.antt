-- The joint mean of a Poisson unit beside independent units, from the cells of the total: Panjer's recursion. One claim
-- apart leaves a Poisson unit as it is.
use Rattle.dl_shares.proofs.Common.{ℕ, ◌≡◌, ◌∙◌, ◌<◌, ◌^◌, List, length, get_or, ap, subst, subst₂, arith, fun_ext, ◌over◌, ◌*ℚ◌, sum_pairs_same, UnitOfPlan, probability_of, expected_count, CanShare, Iv, low_at, high_at, pow_pos, Holds, GridEncloses, Loss, One, Point, Joint, partial_sums, claims_mean, cell, poisson, Family, unit_of, without, poisson_next, unit_is, poisson_weights}
use Rattle.dl_model.specs.Plans.{loss_of}
use Rattle.dl_model.specs.Program.{AreDeclarable, total}
use Rattle.dl_shares.proofs.BesideJoint.{cells_split}
use Rattle.dl_shares.proofs.JointValues.{amounts_over}
use Rattle.dl_shares.proofs.OneClaim.{beside_holds}
use Rattle.dl_shares.proofs.PlainUnits.{plain_cells}

module _ (us : List Loss) (i x : ℕ) (w : AreDeclarable us) where
  pub poisson_exact : {B : ℕ} (grid : List (Iv B)) (u : UnitOfPlan) → CanShare u → i < length us
      → get_or us i (loss_of u) ≡ loss_of u → GridEncloses grid (total us) → x < length grid
      → Holds (partial_sums us (Joint i x)) (partial_sums us One) (claims_mean u (2 ^ B) x (low_at grid))
      (claims_mean u (2 ^ B) x (high_at grid))
  poisson_exact {B} grid u shares there here encloses inside =
      let n = expected_count u.freq in
      let f = probability_of u.sev in
      let s = pow_pos B in
      let unit : (y N : ℕ) → (unit_of us i).cells y N ≡ cell (poisson n) f y N =
      λ y N. ap (λ (F : Family). F.cells y N) (unit_is us i (loss_of u) there)
      ∙ ap (λ (l : Loss). l.family.cells y N) here ∙ plain_cells u shares.clause shares.zero y N
      ∙ ap (λ c. cell c f y N) (poisson_weights u.freq shares.count) in
      let told = beside_holds (poisson n) (poisson n) n (poisson_next n) f us w i there unit x (partial_sums us One)
      (λ k. low_at grid k over 2 ^ B) (λ k. high_at grid k over 2 ^ B)
      (λ k near. subst (λ Q. Holds Q (partial_sums us One) (low_at grid k over 2 ^ B) (high_at grid k over 2 ^ B))
      (fun_ext (λ N. cells_split us w i k N there
      ∙ sum_pairs_same k _ _ (λ y z e. ap (λ c. c *ℚ partial_sums (without us i) (Point z) N) (unit y N))))
      (encloses k (omega arith))) in
      subst₂ (λ a b. Holds (partial_sums us (Joint i x)) (partial_sums us One) a b)
      (ap (λ z. n *ℚ z) (amounts_over x (2 ^ B) u.sev (low_at grid) s))
      (ap (λ z. n *ℚ z) (amounts_over x (2 ^ B) u.sev (high_at grid) s)) told
