-- What a grid encloses besides: other families of the same declared values.
use Rattle.dl_unit.proofs.Common.{ℕ, ◌≡◌, ◌^◌, ◌≤◌, arith, if_ok_three, List, length, spread, Iv, low_at, high_at, SameCells, GridEncloses, Family, Result, IfOk, same_cells_enclosed, IsNarrow}

pub grid_same : {B : ℕ} (g : List (Iv B)) (F G : Family) → SameCells F G → GridEncloses g F → GridEncloses g G
grid_same {B} g F G = same_cells_enclosed (2 ^ B) (length g) (low_at g) (high_at g) F G

-- a grid that is made, by what else is told of it
pub narrow_by : {B : ℕ} {E : Type 0} (made : Result (List (Iv B)) E) (told : List (Iv B) → Type 0) (F : Family) (n : ℕ) {m bound : ℕ}
    → ((g : List (Iv B)) → told g → GridEncloses g F) → m ≤ bound → IfOk made (λ g. length g ≡ n) → IfOk made told
    → IfOk made (λ g. spread g ≤ m) → IfOk made (IsNarrow n bound F)
narrow_by made told F n encloses le = if_ok_three made _ _ _ _ (λ g cells known narrow. record {
  cells = cells;
  encloses = encloses g known;
  spread = omega (arith, narrow, le);
})
