-- The first severity with a name, one severity after another.
use Rattle.dl_rules.proofs.Common.{◌≡◌, ◌∙◌, ℕ, suc, ◌+◌, ◌<◌, ◌≤◌, List, ◌∷◌, length, get_or, Bool, true, false, Some, None, refl, sym, ap, bytes_eq, if◌then◌else◌, drop, drop-cons, add-one, ◌≢◌, drop_all, bytes_eq-Decides, SevDef, named}

named_one : (d : SevDef) (ds : List SevDef) (name : List ℕ) (t : Bool) → bytes_eq d.name.text name ≡ t
    → named (d ∷ ds) name ≡ (if t then Some d.mix else named ds name)
unfolding named
named_one d ds name t e = ap (λ b. if b then Some d.mix else named ds name) e

-- the severities from a place on begin with that there
from_span : (ds : List SevDef) (i : ℕ) (d : SevDef) → i < length ds → d ≡ get_or ds i d
    → drop i ds ≡ d ∷ drop (i + 1) ds
from_span ds i d lt is = rw add-one (drop-cons ds i d lt ∙ ap (λ x. x ∷ drop (suc i) ds) (sym is))

pub named_here : (ds : List SevDef) (i : ℕ) (d : SevDef) (name : List ℕ) → i < length ds → d ≡ get_or ds i d
    → d.name.text ≡ name → named (drop i ds) name ≡ Some d.mix
named_here ds i d name lt is e =
    ap (λ xs. named xs name) (from_span ds i d lt is)
    ∙ named_one d (drop (i + 1) ds) name true ((bytes_eq-Decides d.name.text name).1 e)

pub named_later : (ds : List SevDef) (i : ℕ) (d : SevDef) (name : List ℕ) → i < length ds → d ≡ get_or ds i d
    → d.name.text ≢ name → named (drop i ds) name ≡ named (drop (i + 1) ds) name
named_later ds i d name lt is other =
    ap (λ xs. named xs name) (from_span ds i d lt is)
    ∙ named_one d (drop (i + 1) ds) name false (not_so (bytes_eq d.name.text name) refl)
  where
    not_so : (t : Bool) → bytes_eq d.name.text name ≡ t → bytes_eq d.name.text name ≡ false
    not_so true e = absurd (other ((bytes_eq-Decides d.name.text name).0 e))
    not_so false e = e

pub named_none : (ds : List SevDef) (i : ℕ) (name : List ℕ) → length ds ≤ i → named (drop i ds) name ≡ None
unfolding named
named_none ds i name le = rw (drop_all i ds le) refl
