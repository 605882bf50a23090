-- Layers that are looked at beside those before them.
use Rattle.dl_reading.proofs.Common.{◌≡◌, ◌∙◌, ℕ, ◌+◌, ◌<◌, ◌≤◌, List, [], length, take, drop, get_or, Option, Some, None, true, refl, sym, ap₂, arith, max, take_more, list_any, nat_tests, Span, CedeLayer, Overlap, GridCeded, ◌else◌, at_if, in_turn, overlaps, ceded_layer, share_exceeds, at_drop_all, at_drop_more, IsBelowTop, is_below_top, and_from}

abbrev pub overlap_at : List GridCeded → GridCeded → Option Span
overlap_at before l = at_if (list_any (λ m. overlaps (ceded_layer m) (ceded_layer l)) before) l.layer.span

abbrev pub share_at : GridCeded → Option Span
share_at l = at_if (share_exceeds l.share) l.span

-- ---- in turn

-- the items before i have no answer beside those before them
pub record NoneTurned {A B : Type 0} (f : List A → A → Option B) (xs : List A) (i : ℕ) : Type 0 where
  pub same : in_turn f [] xs ≡ in_turn f (take i xs) (drop i xs)

pub turn_start : {A B : Type 0} (f : List A → A → Option B) (xs : List A) → NoneTurned f xs 0
turn_start f xs = record { same = refl }

turn_from : {A B : Type 0} (f : List A → A → Option B) (xs : List A) (i : ℕ) (x : A) → i < length xs → x ≡ get_or xs i x
    → in_turn f (take i xs) (drop i xs) ≡ (f (take i xs) x else in_turn f (take (i + 1) xs) (drop (i + 1) xs))
unfolding in_turn
turn_from f xs i x lt is =
    at_drop_more (in_turn f (take i xs)) xs i x lt
    ∙ ap₂ (λ z s. f (take i xs) z else in_turn f s (drop (i + 1) xs)) (sym is) (sym (take_more xs i x lt))

module _ {A B : Type 0} (f : List A → A → Option B) (xs : List A) (i : ℕ) where
  pub turn_found : (x : A) (y : B) → NoneTurned f xs i → i < length xs → x ≡ get_or xs i x → Some y ≡ f (take i xs) x
      → Some y ≡ in_turn f [] xs
  turn_found x y before lt is e = sym (before.same ∙ turn_from f xs i x lt is ∙ rw (← e))

  pub turn_passed : (x : A) → NoneTurned f xs i → i < length xs → x ≡ get_or xs i x → None ≡ f (take i xs) x
      → NoneTurned f xs (i + 1)
  turn_passed x before lt is e = record {
    same = before.same ∙ turn_from f xs i x lt is ∙ rw (← e);
  }

pub turn_ended : {A B : Type 0} (f : List A → A → Option B) (xs : List A) (i : ℕ) → NoneTurned f xs i → length xs ≤ i
    → None ≡ in_turn f [] xs
unfolding in_turn
turn_ended f xs i before le = sym (before.same ∙ at_drop_all (in_turn f (take i xs)) xs i le)

-- ---- overlaps

is_below : (o : Option ℕ) (a x : ℕ) → IsBelowTop o a x → is_below_top o a x ≡ true
is_below None a x e = refl
is_below (Some limit) a x e = grind (arith, nat_tests, e)

pub yes_overlap : (l m : CedeLayer) → Overlap l m → overlaps l m ≡ true
yes_overlap l m o =
    let x : ℕ = max l.attach m.attach in
    and_from (is_below_top l.limit l.attach x) (is_below_top m.limit m.attach x) (is_below l.limit l.attach x o.0)
    (is_below m.limit m.attach x o.1)
