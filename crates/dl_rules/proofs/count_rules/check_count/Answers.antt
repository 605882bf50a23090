-- What is expected is told of the severity in the layer. The rules before the last are not broken.
use Rattle.dl_rules.proofs.Common.{◌≡◌, ◌∙◌, sym, ap, subst, TooFine, breaks, too_fine, too_many_claims, HasFault, first_broken, whole_rules, ZeroMean, TooManyClaims}
use Rattle.dl_rules.proofs.RuleLists.{only}
use Rattle.dl_rules.proofs.Stops.{skip, stop_first, stop_second}
use Rattle.dl_rules.proofs.UnitFacts.{number_is, whole_is, whole_here, many_span, count_fault, count_told}
use Rattle.dl_rules.proofs.count_rules.check_count.Goals as goal

pub expected_claims-count-requires-clause-layered : goal.expected_claims-count-requires-clause-layered
expected_claims-count-requires-clause-layered c = (c.args.bounds, c.in_ok-layered.ensures)

pub check_fine-requires-clause-weighed : goal.check_fine-requires-clause-weighed
check_fine-requires-clause-weighed c = rw c.in_ok-kept.ensures.same c.in_ok-layered.ensures

pub check_fine-requires-clause-number : goal.check_fine-requires-clause-number
check_fine-requires-clause-number c = rw (c.expected_claims-count.ensures c.args.bounds c.in_ok-layered.ensures) (number_is c.args.bounds c.args.bs c.args.unit.now)

pub check_fine-requires-clause-shape : goal.check_fine-requires-clause-shape
check_fine-requires-clause-shape c =
    (whole_is c.args.bounds c.args.number c.args.unit.now.count c.expected_claims-count.result
    (c.in_ok-kept.ensures.fault _ c.check_whole-whole.ensures)).shape

pub too_many_claims-many-requires : goal.too_many_claims-many-requires
too_many_claims-many-requires c =
    let u = c.args.unit.now in
    let is = c.in_ok-claims.ensures.count in
    rw (is.same, is.number) (whole_here c.args.bounds u c.expected_claims-count.result
    (whole_is c.args.bounds c.args.number u.count c.expected_claims-count.result (c.in_ok-kept.ensures.fault _ c.check_whole-whole.ensures))
    (only _ TooFine _ c.in_ok-claims.ensures.fault))

pub returns-in_err-kept-clause-fault : goal.returns-in_err-kept-clause-fault
returns-in_err-kept-clause-fault c =
    let stop = c.in_err-kept.field-0.0 in
    count_told c.args.bounds c.args.bs c.args.number c.args.unit.now c.deref.result.now c.expected_claims-count.result
    c.zero_mean-span.result (c.deref.ensures.value ∙ c.requires.amounts) (c.expected_claims-count.ensures c.args.bounds c.in_ok-layered.ensures)
    c.zero_mean-span.ensures c.from_residual-in_err-kept.result stop c.from_residual-in_err-kept.ensures
    (stop_second (breaks c.args.number ZeroMean c.zero_mean-span.result) _ stop c.in_ok-broken.ensures
    (stop_first (first_broken c.args.number (whole_rules c.args.bounds c.args.unit.now.count c.expected_claims-count.result)) _ stop
    (c.in_err-kept.ensures.fault _ c.check_whole-whole.ensures)))

pub returns-in_err-claims-clause-fault : goal.returns-in_err-claims-clause-fault
returns-in_err-claims-clause-fault c =
    let u = c.args.unit.now in
    let n = c.expected_claims-count.result in
    let stop = c.in_err-claims.field-0.0 in
    count_told c.args.bounds c.args.bs c.args.number u c.deref.result.now n c.zero_mean-span.result
    (c.deref.ensures.value ∙ c.requires.amounts) (c.expected_claims-count.ensures c.args.bounds c.in_ok-layered.ensures) c.zero_mean-span.ensures
    c.from_residual-in_err-claims.result stop c.from_residual-in_err-claims.ensures
    (stop_second (breaks c.args.number ZeroMean c.zero_mean-span.result) _ stop c.in_ok-broken.ensures
    (stop_second (first_broken c.args.number (whole_rules c.args.bounds u.count n)) _ stop (c.in_ok-kept.ensures.fault _ c.check_whole-whole.ensures)
    (stop_first (breaks c.args.number TooFine (too_fine c.args.bounds u n)) _ stop c.in_err-claims.ensures.fault)))

pub returns-clause-fault : goal.returns-clause-fault
returns-clause-fault c =
    let u = c.args.unit.now in
    let n = c.expected_claims-count.result in
    let span : c.span_if.result ≡ too_many_claims u n = c.span_if.ensures ∙ many_span u n c.in_ok-claims.claims
    c.too_many_claims-many.result c.in_ok-claims.ensures.claims c.in_ok-claims.ensures.count
    c.too_many_claims-many.ensures in
    let last = count_fault c.args.bounds c.args.bs c.args.number u c.deref.result.now n c.zero_mean-span.result
    (c.deref.ensures.value ∙ c.requires.amounts) (c.expected_claims-count.ensures c.args.bounds c.in_ok-layered.ensures) c.zero_mean-span.ensures
    ∙ skip (breaks c.args.number ZeroMean c.zero_mean-span.result) _ c.in_ok-broken.ensures
    ∙ skip (first_broken c.args.number (whole_rules c.args.bounds u.count n)) _ (c.in_ok-kept.ensures.fault _ c.check_whole-whole.ensures)
    ∙ skip (breaks c.args.number TooFine (too_fine c.args.bounds u n)) _ c.in_ok-claims.ensures.fault in
    subst (λ fault. HasFault fault c.unless_broken-2.result) (ap (breaks c.args.number TooManyClaims) span ∙ sym last)
    (c.unless_broken-2.ensures.fault _ c.broken-checked.ensures)
