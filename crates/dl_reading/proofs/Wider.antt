-- Wider bounds: a unit that keeps the rules by some bounds, and whose fractions are fine by them, keeps them by wider
-- ones, and its fractions are fine by those too.
use Rattle.dl_reading.proofs.Common.{ℕ, ◌≡◌, ◌≤◌, ◌&&◌, ◌||◌, Bool, true, false, not, nat_lt, ◌==◌, List, [], ◌∷◌, length, map, Option, Some, None, refl, sym, ap, ◌∙◌, arith, nat_tests, All, All-head, All-tail, Fraction, Span, at_if, ◌else◌, is_fine, are_fine, is_not_one, sum_of, is_one, common_denominator, probs_among, Flaws, AreNone, IsClean, spans, flaws_else, flaws_in, flaws_within, earlier_flaws, long_at, lengths_at, sum_at, flaws_of_item, flaws_of_list, flaws_of_amount, flaws_of_amounts, flaws_of_shares, flaws_beside, flaws_of_atom, flaws_of_mixture, flaws_of_count, flaws_of_distribution, flaws_of_layer, flaws_of_clause, is_named, values_in, spanned_values, values_of, if_there, and_parts, GridSev, GridUnit, GridAtom, grid_atom, grid_mixture, grid_shares, grid_count, atom_probs, weights_of, mixture_shares, has_probs, has_severity, has_shares, ListAst, Atom, MixAst, Bounds, ⊤, nat_le, list_all, AreWithin, CountAst, UnitAst, GridCount, fractions_too_fine, grid_of, flaws_of}
use Rattle.dl_ast.specs.declared.ast.CountAst.TheVariants.{Exposed, Listed}
use Rattle.dl_reading.specs.declared.grid.GridCount.TheVariants as counts
use Rattle.dl_reading.proofs.Agreeing.{zip_else}
use Rattle.dl_reading.proofs.Clean.{clean_both, clean_each, clean_earlier, clean_first}
use Rattle.dl_reading.proofs.Firsts.{keeps_limit}
use Rattle.dl_reading.proofs.FineUnits.{parts_of}
use Rattle.dl_reading.proofs.GridUnits.{not_long, too_long}
use Rattle.dl_reading.proofs.ItemRanges.{list_few}
use Rattle.dl_reading.proofs.ListLengths.{short}

-- ---- tests

-- the probabilities of the count, the shares of both clauses, and the severity are fine
all_fine : (bounds : Bounds) (g : GridUnit) → fractions_too_fine bounds g ≡ false
    → (has_probs bounds g.count ≡ true) × (has_shares g.occ ≡ true) × (has_shares g.agr ≡ true) × (has_severity bounds g.sev ≡ true)
all_fine bounds g fine = each (has_probs bounds g.count) (has_shares g.occ) (has_shares g.agr) (has_severity bounds g.sev) fine
  where
    each : (p q r s : Bool) → (not p || not q || not r || not s) ≡ false → (p ≡ true) × (q ≡ true) × (r ≡ true) × (s ≡ true)
    each p q r s h = grind (arith, nat_tests, h)

both_true : (p q : Bool) → p ≡ true → q ≡ true → (p && q) ≡ true
both_true p q h k = grind (arith, nat_tests, h, k)

all_true : (p q r : Bool) → p ≡ true → q ≡ true → r ≡ true → (p && q && r) ≡ true
all_true p q r h k l = grind (arith, nat_tests, h, k, l)

none_true : (p q r s : Bool) → p ≡ true → q ≡ true → r ≡ true → s ≡ true → (not p || not q || not r || not s) ≡ false
none_true p q r s h k l m = grind (arith, nat_tests, h, k, l, m)

-- ---- parts without flaws

none_join : (xs ys : List (Option Span)) → AreNone xs → AreNone ys → AreNone (zip_else xs ys)
none_join [] ys h k = tt
none_join (x ∷ xs) [] h k = tt
none_join (x ∷ xs) (y ∷ ys) h k = (ap (λ o. o else y) h.0 ∙ k.0, none_join xs ys h.1 k.1)

clean_join : (f g : Flaws) → IsClean f → IsClean g → IsClean (flaws_else f g)
clean_join f g h k = none_join (spans f) (spans g) h k

clean_in : {A : Type 0} (f : A → Flaws) (xs : List A) → All (λ x. IsClean (f x)) xs → IsClean (flaws_in f xs)
unfolding flaws_in
clean_in f [] all = (refl, (refl, (refl, (refl, (refl, (refl, (refl, tt)))))))
clean_in f (x ∷ xs) all =
    clean_join (f x) (flaws_in f xs) (All-head (λ y. IsClean (f y)) x xs all)
    (clean_in f xs (All-tail (λ y. IsClean (f y)) x xs all))

clean_front : (named : Bool) (own severity : Flaws) → IsClean own → IsClean severity → IsClean (earlier_flaws named own severity)
clean_front true own severity h k = clean_join severity own k h
clean_front false own severity h k = clean_join own severity h k

long_none : (o : Option Span) → None ≡ o → IsClean (long_at o)
long_none o e = (refl, (refl, (sym e, (refl, (refl, (refl, (refl, tt)))))))

sum_none : (o : Option Span) → None ≡ o → IsClean (sum_at o)
sum_none o e = (refl, (refl, (refl, (refl, (sym e, (refl, (refl, tt)))))))

not_there : (b : Bool) (p : Span) → b ≡ false → None ≡ at_if b p
not_there b p e = ap (λ t. at_if t p) (sym e)

module _ (a b : Bounds) (wider : AreWithin a b) where
  -- ---- lists

  list_wider : (l : ListAst) → IsClean (flaws_of_list a l) → IsClean (flaws_of_list b l)
  list_wider l clean =
      clean_join (flaws_in flaws_of_item l.items) (long_at (at_if (nat_lt b.values (length (spanned_values l))) l.span))
      (clean_first (flaws_in flaws_of_item l.items) _ clean)
      (long_none _ (keeps_limit b.values (length (spanned_values l)) l.span (omega (arith, list_few a l clean, wider.values))))

  fine_more : (xs : List Fraction) → are_fine a.parts xs ≡ true → are_fine b.parts xs ≡ true
  fine_more xs fine = grind (arith, nat_tests, fine, wider.parts)

  -- a fine list sums to 1
  one_more : (xs : List Fraction) → are_fine a.parts xs ≡ true → is_not_one b.parts xs ≡ false
  one_more xs fine =
      let one = (and_parts (is_fine a.parts xs) (is_one (sum_of xs)) fine).1 in
      ap (λ t. is_fine b.parts xs && not t) one ∙ nothing (is_fine b.parts xs)
    where
      nothing : (t : Bool) → (t && false) ≡ false
      nothing true = refl
      nothing false = refl

  shares_wider : (l : ListAst) → are_fine a.parts (values_of l) ≡ true → IsClean (flaws_of_shares a l) → IsClean (flaws_of_shares b l)
  shares_wider l fine clean =
      clean_join (flaws_of_list b l) (sum_at (at_if (is_not_one b.parts (values_of l)) l.span))
      (list_wider l (clean_first (flaws_of_list a l) _ clean)) (sum_none _ (not_there _ l.span (one_more (values_of l) fine)))

  -- probabilities that are fine, where there are some
  abbrev AreFine : Option ListAst → Type 0
  AreFine None = ⊤
  AreFine (Some l) = are_fine a.parts (values_of l) ≡ true

  fine_among : (n : ℕ) (o : Option ListAst) → are_fine a.parts (probs_among n (if_there grid_shares o)) ≡ true → AreFine o
  fine_among n None fine = tt
  fine_among n (Some l) fine = fine

  beside_wider : (n : ℕ) (o : Option ListAst) → AreFine o → IsClean (flaws_within (flaws_beside a n) o)
      → IsClean (flaws_within (flaws_beside b n) o)
  beside_wider n None fine clean = clean
  beside_wider n (Some l) fine clean =
      let both = clean_both (flaws_of_shares a l) _ clean in
      clean_join (flaws_of_shares b l) (lengths_at (at_if (not (n == length (spanned_values l))) l.span))
      (shares_wider l fine both.0) both.1

  weights_wider : (o : Option ListAst) → AreFine o → IsClean (flaws_within (flaws_of_shares a) o)
      → IsClean (flaws_within (flaws_of_shares b) o)
  weights_wider None fine clean = clean
  weights_wider (Some l) fine clean = shares_wider l fine clean

  -- ---- the count

  count_wider : (k : CountAst) → has_probs a (grid_count k) ≡ true → IsClean (flaws_of_count a k) → IsClean (flaws_of_count b k)
  count_wider (Exposed exposure freq zero) fine clean = clean
  count_wider (Listed values probs span) fine clean =
      let n : ℕ = length (spanned_values values) in
      let both = clean_both (flaws_of_list a values) _ clean in
      clean_join (flaws_of_list b values) (flaws_within (flaws_beside b n) probs) (list_wider values both.0)
      (beside_wider n probs (fine_among (length (values_of values)) probs fine) both.1)

  -- ---- the severity

  module _ (most : ℕ) (bs : Fraction) where
    atom_wider : (x : Atom) → are_fine a.parts (atom_probs (grid_atom bs x)) ≡ true → IsClean (flaws_of_atom a most bs x)
        → IsClean (flaws_of_atom b most bs x)
    atom_wider x fine clean =
        let n : ℕ = values_in x in
        let both = clean_both (flaws_of_amounts a most bs x.values) _ clean in
        let amounts = flaws_in (λ (pair : Fraction × Span). flaws_of_amount most bs pair.0 pair.1) (spanned_values x.values) in
        let list = clean_both (flaws_of_list a x.values) amounts both.0 in
        clean_join (flaws_of_amounts b most bs x.values) (flaws_within (flaws_beside b n) x.probs)
        (clean_join (flaws_of_list b x.values) amounts (list_wider x.values list.0) list.1)
        (beside_wider n x.probs (fine_among (length (grid_atom bs x).amounts) x.probs fine) both.1)

    atoms_wider : (xs : List Atom) → list_all (λ g. are_fine a.parts (atom_probs g)) (map (grid_atom bs) xs) ≡ true
        → IsClean (flaws_in (flaws_of_atom a most bs) xs) → IsClean (flaws_in (flaws_of_atom b most bs) xs)
    unfolding flaws_in
    atoms_wider [] fine clean = clean
    atoms_wider (x ∷ xs) fine clean =
        let test : GridAtom → Bool = λ g. are_fine a.parts (atom_probs g) in
        let parts = and_parts (test (grid_atom bs x)) (list_all test (map (grid_atom bs) xs)) fine in
        let both = clean_both (flaws_of_atom a most bs x) (flaws_in (flaws_of_atom a most bs) xs) clean in
        clean_join (flaws_of_atom b most bs x) (flaws_in (flaws_of_atom b most bs) xs) (atom_wider x parts.0 both.0)
        (atoms_wider xs parts.1 both.1)

    mixture_wider : (m : MixAst) → has_severity a (grid_mixture bs m) ≡ true → IsClean (flaws_of_mixture a most bs m)
        → IsClean (flaws_of_mixture b most bs m)
    mixture_wider m fine clean =
        let s : GridSev = grid_mixture bs m in
        let parts = parts_of a s fine in
        let outer = clean_both (too_long a m) _ clean in
        let inner = clean_both (flaws_in (flaws_of_atom a most bs) m.atoms) _ outer.1 in
        let few : All (λ x. values_in x ≤ a.values) m.atoms =
        λ k d h. list_few a _ (clean_first (flaws_of_list a _) _ (clean_first (flaws_of_amounts a most bs _) _
        (clean_each (flaws_of_atom a most bs) m.atoms inner.0 k d h))) in
        let total = not_long a m outer.0 few in
        clean_join (too_long b m) (flaws_else (flaws_in (flaws_of_atom b most bs) m.atoms) (flaws_within (flaws_of_shares b) m.weights))
        (long_none _ (not_there _ m.span (short b m total.0 total.1)))
        (clean_join (flaws_in (flaws_of_atom b most bs) m.atoms) (flaws_within (flaws_of_shares b) m.weights)
        (atoms_wider m.atoms parts.0 inner.0)
        (weights_wider m.weights (fine_among (length s.atoms) m.weights parts.1) inner.1))

    -- ---- the unit

    pub flaws_wider : (u : UnitAst) (m : MixAst) → fractions_too_fine a (grid_of bs u m) ≡ false → IsClean (flaws_of a most bs u m)
        → IsClean (flaws_of b most bs u m)
    unfolding flaws_of grid_of
    flaws_wider u m fine clean =
        let g : GridUnit = grid_of bs u m in
        let parts = all_fine a g fine in
        let layer = flaws_within (flaws_of_layer most bs) u.layer in
        let own : Bounds → Flaws = λ c. flaws_else (flaws_of_count c u.count) layer in
        let front : Bounds → Flaws = λ c. earlier_flaws (is_named u.sev.body) (own c) (flaws_of_mixture c most bs m) in
        let terms = flaws_else (flaws_within (flaws_of_clause most bs) u.occ)
        (flaws_else (flaws_of_distribution u.count) (flaws_within (flaws_of_clause most bs) u.agr)) in
        let outer = clean_both (front a) terms clean in
        let fronts = clean_earlier (is_named u.sev.body) (own a) (flaws_of_mixture a most bs m) outer.0 in
        let owns = clean_both (flaws_of_count a u.count) layer fronts.0 in
        clean_join (front b) terms
        (clean_front (is_named u.sev.body) (own b) (flaws_of_mixture b most bs m)
        (clean_join (flaws_of_count b u.count) layer (count_wider u.count parts.0 owns.0) owns.1)
        (mixture_wider m parts.3 fronts.1))
        outer.1

  -- ---- the fractions of a unit

  all_more : (xs : List GridAtom) → list_all (λ g. are_fine a.parts (atom_probs g)) xs ≡ true
      → list_all (λ g. are_fine b.parts (atom_probs g)) xs ≡ true
  all_more [] h = refl
  all_more (x ∷ xs) h =
      let parts = and_parts (are_fine a.parts (atom_probs x)) (list_all (λ g. are_fine a.parts (atom_probs g)) xs) h in
      both_true _ _ (fine_more (atom_probs x) parts.0) (all_more xs parts.1)

  pub severity_wider : (s : GridSev) → has_severity a s ≡ true → has_severity b s ≡ true
  severity_wider s h =
      let parts = parts_of a s h in
      all_true _ _ _ (all_more s.atoms parts.0) (fine_more (weights_of s) parts.1)
      (less (common_denominator (mixture_shares s)) parts.2)
    where
      less : (n : ℕ) → nat_le n a.parts ≡ true → nat_le n b.parts ≡ true
      less n h = grind (arith, nat_tests, h, wider.parts)

  probs_wider : (k : GridCount) → has_probs a k ≡ true → has_probs b k ≡ true
  probs_wider (counts.Exposed exposure freq) h = refl
  probs_wider (counts.Listed values probs) h = fine_more (probs_among (length values.values) probs) h

  pub fractions_wider : (g : GridUnit) → fractions_too_fine a g ≡ false → fractions_too_fine b g ≡ false
  fractions_wider g fine =
      let parts = all_fine a g fine in
      none_true _ _ _ _ (probs_wider g.count parts.0) parts.1 parts.2 (severity_wider g.sev parts.3)
