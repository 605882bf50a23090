-- What asks have, and the numbers of the units that they name.
use Rattle.dl_answers.proofs.Common.{ℕ, ◌≡◌, ◌<◌, ◌↔◌, List, length, get_or, sym, ap, ◌∙◌, subst, length-map, Option, None, Some, IfSome, All, Any, refl, Asked, NamesUnit, index_of, named_unit, named_units, option_map, get_or-map, All-map, UnitOfPlan, facts_of, IsNamed, ◌≤◌, arith, Iv, Plan, IsInside, IsAskInRange, edge_of, Row, zip, subst₂, Ask, LayerMean, Settings, AreInRange, IsAskOf, AreInside, NameUnits, all_pairs, any_here}

-- an ask names a unit where the number is that of one
pub names_inside : (units : List UnitOfPlan) (ask : Ask) → IfSome (named_unit units ask) (λ i. i < length units)
    ↔ NamesUnit units ask
names_inside units ask = inside (facts_of ask).unit
  where
    inside : (name : Option (List ℕ)) → IfSome (option_map (λ n. index_of n units) name) (λ i. i < length units)
        ↔ IfSome name (λ n. IsNamed n units)
    inside None = (λ h. h, λ h. h)
    inside (Some name) = (λ h. h, λ h. h)

-- the number that was read is that of the ask that was read
pub named_here : (units : List UnitOfPlan) {slice asks : List Asked} {named : List (Option ℕ)} (i : ℕ) {asked : Asked}
    → slice ≡ asks → named ≡ named_units units asks → asked ≡ get_or slice i asked → i < length slice
    → get_or named i None ≡ named_unit units asked.ask
named_here units {slice = slice} i {asked = asked} sliced same here inside =
    ap (λ t. get_or t i None) (same ∙ ap (named_units units) (sym sliced))
    ∙ get_or-map (λ (a : Asked). named_unit units a.ask) slice i asked None inside
    ∙ ap (λ (a : Asked). named_unit units a.ask) (sym here)

-- as many numbers as asks
pub numbers_many : (units : List UnitOfPlan) {slice asks : List Asked} {named : List (Option ℕ)} → slice ≡ asks
    → named ≡ named_units units asks → length named ≡ length slice
numbers_many units {asks = asks} sliced same = ap (λ t. length t) same
    ∙ length-map asks (λ (a : Asked). named_unit units a.ask) ∙ sym (ap (λ t. length t) sliced)

-- the number of the unit with the name that an ask has
pub index_named : (units : List UnitOfPlan) (ask : Ask) {name : List ℕ} {unit : Option ℕ} {i : ℕ}
    → (facts_of ask).unit ≡ Some name → unit ≡ named_unit units ask → unit ≡ Some i → i ≡ index_of name units
index_named units ask {name = name} {i = i} names same is =
    some_same i (index_of name units) (sym is ∙ same ∙ ap (option_map (λ n. index_of n units)) names)
  where
    some_same : (x y : ℕ) → Some x ≡ Some y → x ≡ y
    some_same x y e = cc

-- an ask names a unit where the number at its place is that of one
pub names_there : (units : List UnitOfPlan) (asks : List Asked) (named : List (Option ℕ)) (i : ℕ) (a : Asked)
    → named ≡ named_units units asks → i < length asks
    → IfSome (get_or named i None) (λ n. n < length units) ↔ NamesUnit units (get_or asks i a).ask
names_there units asks named i a same inside =
    rw (ap (λ t. get_or t i None) same
    ∙ get_or-map (λ (asked : Asked). named_unit units asked.ask) asks i a None inside)
    (names_inside units (get_or asks i a).ask)

-- each is that of one of so many units, where there is one
abbrev AreUnits : ℕ → List (Option ℕ) → Type 0
AreUnits units named = All (λ unit. IfSome unit (λ i. i < units)) named

-- each is that of a unit, where each ask names one
pub are_units : (units : List UnitOfPlan) (asks : List Asked) {named : List (Option ℕ)} → named ≡ named_units units asks
    → All (λ asked. NamesUnit units asked.ask) asks → AreUnits (length units) named
are_units units asks same all = subst (AreUnits (length units)) (sym same)
    (All-map (λ unit. IfSome unit (λ i. i < length units)) (λ (asked : Asked). named_unit units asked.ask) asks
    (λ k d inside. (names_inside units (get_or asks k d).ask).1 (all k d inside)))

-- what holds of each unit that an ask names
pub each_named : {P : ℕ → Type 0} (named : List (Option ℕ)) {n : ℕ} → AreUnits n named
    → ((i : ℕ) → i < n → Any (λ unit. unit ≡ Some i) named → P i) → All (λ unit. IfSome unit P) named
each_named {P} named {n} units holds = λ k d inside. there k d inside (get_or named k d) refl (units k d inside)
  where
    there : (k : ℕ) (d : Option ℕ) → k < length named → (unit : Option ℕ) → get_or named k d ≡ unit
        → IfSome unit (λ i. i < n) → IfSome unit P
    there k d inside None is unit = tt
    there k d inside (Some i) is unit = holds i unit (any_here (λ (unit : Option ℕ). unit ≡ Some i) named k d inside is)

-- ---- what all asks have

-- an ask that was read there has what all have
pub ask_has : (P : Asked → Type 0) {all asks : List Asked} (i : ℕ) {a : Asked} → all ≡ asks → a ≡ get_or all i a
    → i < length all → All P asks → P a
ask_has P i {a = a} same is inside each = subst P (sym (is ∙ ap (λ t. get_or t i a) same))
    (each i a (omega (arith, inside, ap (λ t. length t) same)))

-- the ask that was read is one about the plan
pub ask_of : (plan : Plan) {settings : Settings} {all : List Asked} (i : ℕ) {a : Asked} → all ≡ settings.asks
    → a ≡ get_or all i a → i < length all → AreInRange settings → AreInside plan settings → NameUnits plan settings
    → IsAskOf plan a.ask
ask_of plan i same is inside ranges within named = record {
  inside = ask_has (λ (a : Asked). IsInside plan.cells a.ask) i same is inside within;
  unit = ask_has (λ (a : Asked). NamesUnit plan.units a.ask) i same is inside named;
  values = ask_has (λ (a : Asked). IsAskInRange a.ask) i same is inside ranges.asks;
}

-- each row is one of its ask
pub each_row : (P : Asked → Row → Type 0) {slice asks : List Asked} {rows items : List Row} (i : ℕ) → slice ≡ asks
    → rows ≡ items → length items ≡ i → length slice ≤ i → i ≤ length slice
    → ((k : ℕ) (a : Asked) (r : Row) → k < i → P (get_or slice k a) (get_or items k r))
    → All (λ pair. P pair.0 pair.1) (zip asks rows)
each_row P {slice = slice} {items = items} i same made many all few each =
    subst₂ (λ xs ys. All (λ pair. P pair.0 pair.1) (zip xs ys)) same (sym made)
    (all_pairs P slice items (omega (arith, many, all, few)) (λ j a r below. each j a r (omega (arith, below, few))))
