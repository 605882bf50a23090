use Rattle.dl_report.proofs.Common.{◌≡◌, ◌≢◌, ◌∙◌, ◌++◌, ap, subst, sym, codes, List, ℕ, decimal, IsAscii, on_ok_weaker}
use Rattle.dl_report.proofs.Fractions.{whole_text, parts_ascii, parts_behind}
use Rattle.dl_report.proofs.objects.push_fraction.Goals as goal

pub returns-then-den-eq1-clause-appends : goal.returns-then-den-eq1-clause-appends
returns-then-den-eq1-clause-appends c =
    let text = whole_text c.args.fraction (sym c.den.ensures.part ∙ c.if-den-eq1.true) in
    c.in_ok-push_whole.ensures.appends ∙ ap (λ (t : List ℕ). c.args.text.now.items ++ t)
    (ap decimal c.num.ensures.part ∙ sym text)

pub returns-then-den-eq1-clause-ascii : goal.returns-then-den-eq1-clause-ascii
returns-then-den-eq1-clause-ascii c =
    let text = whole_text c.args.fraction (sym c.den.ensures.part ∙ c.if-den-eq1.true) in
    subst IsAscii (ap decimal c.num.ensures.part ∙ sym text) c.in_ok-push_whole.ensures.ascii

pub returns-clause-appends : goal.returns-clause-appends
returns-clause-appends c =
    let other : c.args.fraction.den ≢ 1 = λ e. c.if-den-eq1.false (c.den.ensures.part ∙ e) in
    let front = c.args.text.now.items in
    let num : c.push_whole.new.text.items ≡ front ++ decimal c.args.fraction.num =
    c.in_ok-push_whole.ensures.appends ∙ ap
    (λ n. front ++ decimal n) c.num.ensures.part in
    let slash : c.extend_from_slice.new.self.items ≡ front ++ decimal c.args.fraction.num ++ codes "/" =
    c.in_ok-extend_from_slice.ensures.items
    ∙ ap (λ t. t ++ codes "/") num in
    on_ok_weaker c.push_whole-2.result (λ e. e ∙ ap (λ n. c.extend_from_slice.new.self.items ++ decimal n)
    c.den-2.ensures.part ∙ ap
    (λ t. t ++ decimal c.args.fraction.den) slash ∙ parts_behind c.args.fraction front other)
    c.push_whole-2.ensures.appends

pub returns-clause-ascii : goal.returns-clause-ascii
returns-clause-ascii c =
    let other : c.args.fraction.den ≢ 1 = λ e. c.if-den-eq1.false (c.den.ensures.part ∙ e) in
    let num = subst (λ n. IsAscii (decimal n)) c.num.ensures.part c.in_ok-push_whole.ensures.ascii in
    on_ok_weaker c.push_whole-2.result (λ (h : IsAscii (decimal c.den-2.result)). parts_ascii c.args.fraction other num
    (subst (λ n. IsAscii (decimal n)) c.den-2.ensures.part h)) c.push_whole-2.ensures.ascii
