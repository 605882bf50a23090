-- A check that stops: where its part stops, or at an item beside those before it.
use Rattle.dl_rules.proofs.Common.{◌≡◌, ℕ, ◌<◌, List, [], length, take, get_or, Option, None, Ok, Err, sym, ap, ap₂, subst, arith, in_turn, breaks, ◌else◌, CheckFault, Typing, OutOfMemory, length-take-le, Result, IsErr, IsErrAnd, SevDef, NoneTurned, turn_found, StopsAt, fault_of_severity, repeated, severity_names, duplicate_severity, TypeFault}
use Rattle.dl_rules.specs.declared.rule.Rule.TheVariants as rules

-- where a call stops, its caller does
pub stopped : {A : Type 0} (P : Result A CheckFault → Type 0) (r : Result A CheckFault) (stop : CheckFault)
    → IsErr r × IsErrAnd r (λ e. e ≡ stop) → P (Err stop) → P r
stopped P (Ok x) stop h told = absurd (cc (h.0))
stopped P (Err e) stop h told = subst (λ e. P (Err e)) (sym h.1) told

-- a fault of the first part, or of the second where the first has none
pub stop_first : (p q : Option TypeFault) (stop : CheckFault) → StopsAt p stop → StopsAt (p else q) stop
stop_first p q (Typing t) told = ap (λ o. o else q) told
stop_first p q OutOfMemory told = tt

pub skip : (p q : Option TypeFault) → p ≡ None → (p else q) ≡ q
skip p q none = ap (λ o. o else q) none

pub stop_second : (p q : Option TypeFault) (stop : CheckFault) → p ≡ None → StopsAt q stop → StopsAt (p else q) stop
stop_second p q stop none told = subst (λ o. StopsAt o stop) (sym (skip p q none)) told

-- a fault of one item is that of all
pub turn_stopped : {A : Type 0} (f : List A → A → Option TypeFault) (xs : List A) (i : ℕ) (x : A) → NoneTurned f xs i
    → i < length xs → x ≡ get_or xs i x → (stop : CheckFault) → StopsAt (f (take i xs) x) stop
    → StopsAt (in_turn f [] xs) stop
turn_stopped f xs i x turned lt is (Typing t) told = sym (turn_found f xs i x t turned lt is (sym told))
turn_stopped f xs i x turned lt is OutOfMemory told = tt

-- the rule on the name of one severity, by the names before it
pub severity_rule : (sevs : List SevDef) (i : ℕ) (d : SevDef) (names : List (List ℕ)) → i < length sevs
    → names ≡ severity_names (take i sevs)
    → breaks i rules.DuplicateSeverity (repeated names d.name) ≡ fault_of_severity (take i sevs) d
unfolding duplicate_severity
severity_rule sevs i d names lt same =
    ap₂ (λ n before. breaks n rules.DuplicateSeverity (repeated before d.name)) (sym (length-take-le i sevs (omega arith))) same
