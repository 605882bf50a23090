-- What the forms of a call are about.
use Rattle.std.specs.Prelude.{⊤}
use Rattle.dl_plan.specs.declared.settings.Form.{Form}
use Rattle.dl_plan.specs.declared.settings.Form.TheVariants.{Run, Fmt, Cert, Verify}

-- a certificate is written or checked
abbrev pub IsOfCert : Form → Type 0
IsOfCert Run = ⊥
IsOfCert Fmt = ⊥
IsOfCert Cert = ⊤
IsOfCert Verify = ⊤

-- the program has to keep the rules, since its plan is needed
abbrev pub IsOfPlan : Form → Type 0
IsOfPlan Run = ⊤
IsOfPlan Fmt = ⊥
IsOfPlan Cert = ⊤
IsOfPlan Verify = ⊤
