-- The plan of a program: its meaning.
use Rattle.std.specs.Prelude.{ℕ, ◌≡◌, List, Option, Some, None, IfSome}
use Rattle.dl_exact.specs.Fraction.{Fraction, whole, ◌over◌, ◌/ℚ◌}
use Rattle.dl_plan.specs.declared.plan.Freq.{Freq}
use Rattle.dl_plan.specs.declared.plan.Freq.TheVariants as of_plan
use Rattle.dl_plan.specs.declared.plan.Unit.{Unit as UnitOfPlan}
use Rattle.dl_plan.specs.declared.plan.Plan.{Plan}
use Rattle.dl_plan.specs.declared.settings.Settings.{Settings}
use Rattle.dl_plan.specs.declared.item.Item.{Item}
use Rattle.dl_plan.specs.Prelude.{weight_at, probability, HasDistribution, Clause, IsClause, IsClaimCount, expected_count as expected_of_plan, HasPartsOf48Bits}
use Rattle.dl_reading.specs.declared.grid.GridFreq.{GridFreq}
use Rattle.dl_reading.specs.declared.grid.GridFreq.TheVariants.{Fixed, Poisson, Bernoulli, Binomial, Gamma}
use Rattle.dl_reading.specs.declared.grid.GridCount.{GridCount}
use Rattle.dl_reading.specs.declared.grid.GridCount.TheVariants.{Exposed, Listed}
use Rattle.dl_reading.specs.declared.grid.ValueList.{ValueList}
use Rattle.dl_reading.specs.declared.grid.Shares.{Shares}
use Rattle.dl_reading.specs.declared.grid.GridClause.{GridClause}
use Rattle.dl_reading.specs.declared.grid.GridUnit.{GridUnit}
use Rattle.dl_reading.specs.Prelude.{grid_of, value, clause_of, final_severity}
use Rattle.dl_ast.specs.declared.ast.MixAst.{MixAst}
use Rattle.dl_ast.specs.declared.ast.Numeral.{Numeral}
use Rattle.dl_ast.specs.declared.ast.PortHead.{PortHead}
use Rattle.dl_ast.specs.declared.ast.SevDef.{SevDef}
use Rattle.dl_ast.specs.declared.ast.UnitAst.{UnitAst}
use Rattle.dl_ast.specs.declared.ast.Program.{Program}
use Rattle.std.specs.List.{AllZip}
use Rattle.dl_reading.specs.declared.made.MadeClause.{MadeClause}
use Rattle.dl_reading.specs.declared.made.MadeClause.TheVariants.{Missing, TooFine, Whole}
use Rattle.dl_rules.specs.Exposures.{expected_count, shape_of}
use Rattle.dl_rules.specs.Faults.{cells_asked}
use Rattle.dl_rules.specs.Listed.{pairs_of_counts}
use Rattle.dl_rules.specs.Severities.{mixture_of}

-- a table of these numbers of claims, equal ones added up
abbrev pub IsTableOf : ValueList → Option Shares → Freq → Type 0
IsTableOf counts probs freq =
    (table : List Item) × (total : ℕ) × (freq ≡ of_plan.Table table total)
    × ((n : ℕ) → weight_at table n over total ≡ probability (pairs_of_counts counts probs) n)

-- with n claims expected, the claim count of the plan is that of the text; a binomial count has as
-- many trials as n over the probability of one
abbrev pub IsCountWith : GridFreq → Fraction → Freq → Type 0
IsCountWith (Fixed _) n freq = (m : ℕ) × (whole m ≡ n) × (freq ≡ of_plan.Fixed m)
IsCountWith (Poisson _) n freq = freq ≡ of_plan.Poisson n
IsCountWith (Bernoulli _) n freq = freq ≡ of_plan.Bernoulli n
IsCountWith (Binomial p _) n freq =
    (m : ℕ) × (whole m ≡ n /ℚ p) × (freq ≡ of_plan.Binomial m p)
IsCountWith (Gamma c _) n freq = freq ≡ of_plan.Gamma (shape_of c) n

-- the claim count of the plan is that of the text, in lowest terms where it is listed
abbrev pub IsCountOf : Fraction → GridUnit → GridCount → Freq → Type 0
IsCountOf bs u (Exposed exposure dist) freq = IsCountWith dist (expected_count bs u exposure) freq
IsCountOf bs u (Listed counts probs) freq = IsTableOf counts probs freq × IsClaimCount freq

-- that count in numbers, where what has to be whole is
abbrev pub freq_with : GridFreq → Fraction → Freq
freq_with (Fixed _) n = of_plan.Fixed n.num
freq_with (Poisson _) n = of_plan.Poisson n
freq_with (Bernoulli _) n = of_plan.Bernoulli n
freq_with (Binomial p _) n = of_plan.Binomial (n /ℚ p).num p
freq_with (Gamma c _) n = of_plan.Gamma (shape_of c) n

-- the table of listed counts, which is valid
pub record IsTabled (counts : ValueList) (probs : Option Shares) (freq : Freq) : Type 0 where
  pub table : IsTableOf counts probs freq
  pub valid : IsClaimCount freq
  pub expected : HasPartsOf48Bits (expected_of_plan freq)

-- the plan's claim count from that of the text
abbrev pub IsCountMade : GridCount → Option Fraction → Freq → Type 0
IsCountMade (Exposed exposure dist) n freq = IfSome n (λ x. freq ≡ freq_with dist x)
IsCountMade (Listed counts probs) n freq = IsTabled counts probs freq

abbrev pub aggregate_clause : Option GridClause → Option Clause
aggregate_clause None = None
aggregate_clause (Some c) = Some (clause_of c)

-- the clause, where its shares are fine
abbrev pub cede_of : MadeClause → Option Clause
cede_of Missing = None
cede_of TooFine = None
cede_of (Whole clause span) = Some clause

-- the aggregate clause, where there is one
pub record IsCedeOf (clause : Option GridClause) (made : Option Clause) : Type 0 where
  pub same : made ≡ aggregate_clause clause
  pub accepted : IfSome made IsClause

-- the unit of the plan has the name, the final severity, the claim count and the aggregate clause
-- of a unit in whole buckets, and its changed probability of no claim, where it has one
pub record IsUnitOn (bs : Fraction) (text : List ℕ) (u : GridUnit) (made : UnitOfPlan) : Type 0
  where
    pub name : made.name ≡ text
    pub severity : HasDistribution made.sev (final_severity u)
    pub count : IsCountOf bs u u.count made.freq
    pub clause : made.cede ≡ aggregate_clause u.agr
    pub zero : made.zero ≡ u.zero

-- and those of the text, whose severity is this mixture
abbrev pub IsUnitWith : Fraction → UnitAst → MixAst → UnitOfPlan → Type 0
IsUnitWith bs u m made = IsUnitOn bs u.name.text (grid_of bs u m) made

-- the same with named severities
pub record IsUnitOf (bs : Fraction) (sevs : List SevDef) (u : UnitAst) (made : UnitOfPlan) : Type 0
  where
    pub mix : MixAst
    pub named : mixture_of sevs u.sev.body ≡ Some mix
    pub unit : IsUnitWith bs u mix made

-- the shape of a gamma factor with the coefficient of variation that is written, where one is
abbrev pub IsWrittenShape : Option Numeral → Option Fraction → Type 0
IsWrittenShape None shape = shape ≡ None
IsWrittenShape (Some c) shape = shape ≡ Some (shape_of (value c))

-- that of the factor that all units of a portfolio share
abbrev pub IsSharedShape : Option PortHead → Option Fraction → Type 0
IsSharedShape None shape = shape ≡ None
IsSharedShape (Some h) shape = IsWrittenShape h.common shape

-- the plan of a program: the bucket size and the cells of the settings, the units in the order of
-- the text, and the shape of the factor that they share
pub record IsPlanOf (program : Program) (settings : Settings) (plan : Plan) : Type 0 where
  pub bucket : plan.bs ≡ settings.bs
  pub cells : plan.cells ≡ cells_asked settings
  pub units : AllZip (IsUnitOf settings.bs program.sevs) program.units plan.units
  pub common : IsSharedShape program.port plan.common
