use Rattle.dl_arguments.proofs.Common.{◌≡◌, ◌∙◌, refl, sym, ap, ap₂, Ok, Settings, found_of, values_in, with_asks, and_left, and_right}
use Rattle.dl_arguments.proofs.Judged.{asks_no_line, explained, fitting_tests, misfit_found, plain_found, texts_found}
use Rattle.dl_arguments.proofs.judge.judge.Goals.{then-not-begin_plainly-via-then-not-begin_plainly, then-not-begin_plainly-via-else-not-begin_plainly+then-not-admits}
use Rattle.dl_arguments.proofs.judge.judge.Goals as goal

rules_same : {s t : Settings} → s ≡ t → s.rules ≡ t.rules
rules_same same = ap (λ (s : Settings). s.rules) same

pub returns-in_default-settings_of-clause-fault : goal.returns-in_default-settings_of-clause-fault
returns-in_default-settings_of-clause-fault c =
    misfit_found (found_of c.args.matches.now) _ (sym c.in-Some.is ∙ c.form_of.ensures) (and_left _ _ (and_left _ _ c.in_default-settings_of.ensures.none))

pub returns-then-not-begin_plainly-clause-fault : goal.returns-then-not-begin_plainly-clause-fault
returns-then-not-begin_plainly-clause-fault c =
    let same = texts_found _ _ _ _ c.unwrap_or-texts.ensures refl c.get_strs.ensures in
    misfit_found (found_of c.args.matches.now) _ (sym c.in-Some.is ∙ c.form_of.ensures) (elim c.then-not-begin_plainly.branch [
      | then-not-begin_plainly-via-then-not-begin_plainly w ↦
          and_left _ _ (and_right _ _ (sym (plain_found _ _ _ c.begin_plainly.ensures same) ∙ w.if-not-begin_plainly.true))
      | then-not-begin_plainly-via-else-not-begin_plainly+then-not-admits w ↦
          and_right _ _ (rw same at (sym w.admits.ensures ∙ w.if-not-admits.true))
    ])

pub returns-in-Ok-clause-settings : goal.returns-in-Ok-clause-settings
returns-in-Ok-clause-settings c =
    let taken = c.in-Some-settings_of.ensures.some in
    fitting_tests (found_of c.args.matches.now) _ _ _ _ _ (sym c.in-Some.is ∙ c.form_of.ensures)
    (texts_found _ _ _ _ c.unwrap_or-texts.ensures refl c.get_strs.ensures) taken.0 (rules_same taken.1)
    c.begin_plainly.ensures c.if-not-begin_plainly.false c.admits.ensures c.if-not-admits.false
    ∙ ap (with_asks _ (values_in (found_of c.args.matches.now))) c.in-Ok.ensures.asks
    ∙ ap₂ (λ (s : Settings) asks. Ok (record s { asks = asks })) (sym taken.1) (sym c.from_vec.ensures)

pub returns-in-Ok-clause-line : goal.returns-in-Ok-clause-line
returns-in-Ok-clause-line c =
    let found = found_of c.args.matches.now in
    let fit = fitting_tests found _ _ _ _ _ (sym c.in-Some.is ∙ c.form_of.ensures)
    (texts_found _ _ _ _ c.unwrap_or-texts.ensures refl c.get_strs.ensures) c.in-Some-settings_of.ensures.some.0 (rules_same c.in-Some-settings_of.ensures.some.1)
    c.begin_plainly.ensures c.if-not-begin_plainly.false c.admits.ensures c.if-not-admits.false in
    λ line. absurd (asks_no_line _ (values_in found) _ (sym fit ∙ line))

pub returns : goal.returns
returns c =
    let found = found_of c.args.matches.now in
    let fit = fitting_tests found _ _ _ _ _ (sym c.in-Some.is ∙ c.form_of.ensures)
    (texts_found _ _ _ _ c.unwrap_or-texts.ensures refl c.get_strs.ensures) c.in-Some-settings_of.ensures.some.0 (rules_same c.in-Some-settings_of.ensures.some.1)
    c.begin_plainly.ensures c.if-not-begin_plainly.false c.admits.ensures c.if-not-admits.false in
    record {
      settings = tt;
      fault = explained _ (values_in found) _ _ c.in-Err.fault fit c.in-Err.ensures.fault;
      line = λ line. absurd (asks_no_line _ (values_in found) _ (sym fit ∙ line));
    }
