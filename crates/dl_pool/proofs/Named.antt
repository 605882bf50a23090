-- What the one unit has by its parts: the shape and the mean of its count, and the first unit's name.
use Rattle.dl_pool.proofs.Common.{ℕ, ◌≡◌, ◌∙◌, ◌<◌, List, length, get_or, ap, Bor, lent, can_share, Fraction, whole, ◌+ℚ◌, FitsFrac, admitted_fits, Freq, Gamma, UnitOfPlan, Plan, SharesFactor, raised, expected_of, get_or_default, has_factor, Option, Some, subst, All, HasPartsOf48Bits, expected_count, sym, IfSome}
use Rattle.std.specs.List.{filter}
use Rattle.dl_pool.proofs.Units.{all_sharing}

pub gamma_shape : (freq : Freq) (shape r mean v : Fraction) → freq ≡ Gamma shape mean → freq ≡ Gamma r v → shape ≡ r
gamma_shape freq shape r mean v is told = cc

pub gamma_mean : (freq : Freq) (shape r mean v : Fraction) → freq ≡ Gamma shape mean → freq ≡ Gamma r v → mean ≡ v
gamma_mean freq shape r mean v is told = cc

-- the first unit is the same by whatever default it was read
pub first_name : (units read : List UnitOfPlan) (u default : UnitOfPlan) (name : List ℕ) → read ≡ units
    → 0 < length units → name ≡ (get_or read 0 u).name → name ≡ (get_or units 0 default).name
first_name units read u default name same some copied =
    copied ∙ ap (λ (w : UnitOfPlan). w.name) (ap (λ (us : List UnitOfPlan). get_or us 0 u) same
    ∙ get_or_default units 0 u default some)

pub next_fits : (plan : Plan) (r : Fraction) → SharesFactor plan r → FitsFrac (r +ℚ whole 1)
next_fits plan r shares = admitted_fits _ (has_factor plan r shares).next_shape.admitted

pub raised_fits : (plan : Plan) (r : Fraction) → SharesFactor plan r → FitsFrac (raised r (expected_of plan.units))
raised_fits plan r shares = admitted_fits _ (has_factor plan r shares).raised_expected

-- the units of a plan under a common factor can all be pooled
pub all_lent : (plan : Plan) (r : Fraction) → SharesFactor plan r → (units : List (Bor UnitOfPlan)) (read : List UnitOfPlan)
    → lent units ≡ filter can_share read → read ≡ plan.units → lent units ≡ plan.units
all_lent plan r shares units read are is =
    are ∙ ap (filter can_share) is ∙ all_sharing plan.units (has_factor plan r shares).can_share

pub each_expected : (plan : Plan) (r : Fraction) → SharesFactor plan r → (units : List (Bor UnitOfPlan)) (read : List UnitOfPlan)
    → lent units ≡ filter can_share read → read ≡ plan.units
    → All (λ u. HasPartsOf48Bits (expected_count u.freq)) (lent units)
each_expected plan r shares units read are is =
    subst (All (λ (u : UnitOfPlan). HasPartsOf48Bits (expected_count u.freq)))
    (sym (all_lent plan r shares units read are is)) (λ k d h. (shares.valid.units k d h).expected)

-- the number of claims that they expect is that of the plan's units
pub all_expected : (units : List UnitOfPlan) (all : List (Bor UnitOfPlan)) (sum : Option Fraction) (mean : Fraction)
    → lent all ≡ units → sum ≡ Some mean → IfSome sum (λ claims. claims ≡ expected_of (lent all))
    → mean ≡ expected_of units
all_expected units all sum mean are is told =
    subst (λ o. IfSome o (λ claims. claims ≡ expected_of (lent all))) is told ∙ ap expected_of are
