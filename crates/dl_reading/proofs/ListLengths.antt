-- How many values the lists of a severity have, and the rules that ask it.
use Rattle.dl_reading.proofs.Common.{ℕ, ◌≡◌, ◌∙◌, ◌+◌, ◌<◌, ◌≤◌, ◌&&◌, ◌||◌, Bool, true, false, get_or, take_more, not, ◌==◌, List, [], ◌∷◌, ◌++◌, length, take, flat_map, Option, Some, None, refl, sym, ap, ap₂, subst, arith, nat_tests, nat_lt, list_any, sum_by, sum_by-cons, Fraction, Span, at_if, ◌else◌, else_second, flaws_else, not_at, is_not_one, most_atoms, most_values, range_values, Range, Atom, ListAst, ListItem, MixAst, Flaws, Gridded, AgreeOnLists, AgreeToFirst, AreNone, IsReadTo, KeepsLengths, spans, no_flaws, flaws_in, flaws_within, long_at, lengths_at, sum_at, flaws_of_item, flaws_of_list, flaws_of_amount, flaws_of_amounts, flaws_of_shares, flaws_beside, flaws_of_atom, flaws_of_mixture, listed_beside, listed_flaws, are_many_values, is_long_mixture, values_in, spanned_item, spanned_values, values_of, range_of, Bounds, length-map, min, length-append, ltb-false, flat_map-append, list_any-append}
use Rattle.dl_reading.proofs.Firsts.{else_none}
use Rattle.dl_reading.proofs.Agreeing.{agree_else, agree_same, agree_take, keeps_first, read_after, read_also, read_both, flaws_more, zip_else}

-- ---- amounts of money have flaws of the last rules alone

module _ (most : ℕ) (bs : Fraction) where
  abbrev pub amount_flaws : List (Fraction × Span) → Flaws
  amount_flaws spanned = flaws_in (λ pair. flaws_of_amount most bs pair.0 pair.1) spanned

  none_on_lists : (spanned : List (Fraction × Span)) → take 4 (spans (amount_flaws spanned)) ≡ None ∷ None ∷ None ∷ None ∷ []
  unfolding flaws_in
  none_on_lists [] = refl
  none_on_lists (pair ∷ spanned) = none_on_lists spanned

  pub none_early : (spanned : List (Fraction × Span)) → take 3 (spans (amount_flaws spanned)) ≡ None ∷ None ∷ None ∷ []
  none_early spanned = ap (take 3) (none_on_lists spanned)

-- ---- an item

-- an item whose numerals or whose range are bad is not counted
pub item_stopped : (i : ListItem) (most : ℕ) {range : Gridded Range} {n : ℕ} → IsReadTo 2 (flaws_of_item i) (range_of i) range
    → (AreNone (take 2 (spans range.flaws)) → n ≡ min (length (range_values range.part)) most)
    → IsReadTo 2 (flaws_of_item i) (min (length (spanned_item i)) most) (record { part = n; flaws = range.flaws })
item_stopped i most {range = range} {n = n} read counted = record {
  first = read.first;
  right = λ keeps.
      let one : range.flaws.numeral ≡ None = read.first.0 ∙ keeps.0 in
      let two : range.flaws.range ≡ None = (read.first.1 keeps.0).0 ∙ keeps.1.0 in
      counted (one, (two, tt))
      ∙ ap (λ (r : Range). min (length (range_values r)) most) (read.right keeps)
      ∙ ap (λ k. min k most) (sym (length-map {B = Fraction × Span} (range_values (range_of i)) (λ x. (x, i.span))));
}

-- ---- a list

-- numbers that are added up, where none of them counts above a bound
bounded_sum : (a b m : ℕ) → min (min a m + min b m) m ≡ min (a + b) m
bounded_sum a b m = omega arith

module _ (most : ℕ) where
  pub items_none : {flaws : Flaws} → flaws ≡ no_flaws
      → IsReadTo 2 (flaws_in flaws_of_item []) (min (length (flat_map spanned_item [])) most) (record { part = 0; flaws = flaws })
  unfolding flaws_in
  items_none e = record { first = rw e (agree_same (spans no_flaws)); right = λ keeps. omega arith }

  pub items_more : (items : List ListItem) (i : ℕ) {x : ListItem} {n new : ℕ} {one : Gridded ℕ} {flaws all : Flaws} → i < length items
      → x ≡ get_or items i x
      → IsReadTo 2 (flaws_in flaws_of_item (take i items)) (min (length (flat_map spanned_item (take i items))) most)
      (record { part = n; flaws = flaws })
      → IsReadTo 2 (flaws_of_item x) (min (length (spanned_item x)) most) one → new ≡ min (n + one.part) most
      → all ≡ flaws_else flaws one.flaws
      → IsReadTo 2 (flaws_in flaws_of_item (take (i + 1) items)) (min (length (flat_map spanned_item (take (i + 1) items))) most)
      (record { part = new; flaws = all })
  items_more items i {x = x} {one = one} {all = all} lt at before here added is =
      let more : take (i + 1) items ≡ take i items ++ x ∷ [] =
      take_more items i x lt ∙ ap (λ y. take i items ++ y ∷ []) (sym at) in
      let a : ℕ = length (flat_map spanned_item (take i items)) in
      let b : ℕ = length (spanned_item x) in
      let counted : length (flat_map spanned_item (take i items ++ x ∷ [])) ≡ a + b =
      omega (
        arith,
        ap (λ (xs : List (Fraction × Span)). length xs) (flat_map-append spanned_item (take i items) (x ∷ [])),
        length-append (flat_map spanned_item (take i items)) (flat_map spanned_item (x ∷ [])),
        length-append (spanned_item x) [],
      ) in
      rw (more, flaws_more flaws_of_item (take i items) x, counted, added)
      (rw (bounded_sum a b most) at (read_both (λ (p q : ℕ). min (p + q) most) before here is))

-- what stands above a bound does so where it counts one above it at most
still_above : (v n : ℕ) → nat_lt v (min n (v + 1)) ≡ nat_lt v n
still_above v n = grind (arith, nat_tests)

pub length_read : (bounds : Bounds) (l : ListAst) {n : ℕ} {flaws all : Flaws}
    → IsReadTo 2 (flaws_in flaws_of_item l.items) (min (length (spanned_values l)) (bounds.values + 1)) (record { part = n; flaws = flaws })
    → all ≡ flaws_else flaws (long_at (at_if (nat_lt bounds.values n) l.span))
    → IsReadTo 2 (flaws_of_list bounds l) (min (length (spanned_values l)) (bounds.values + 1)) (record { part = n; flaws = all })
length_read bounds l read is =
    rw (still_above bounds.values (length (spanned_values l))) at
    (read_also 2 (λ (n : ℕ). long_at (at_if (nat_lt bounds.values n) l.span)) read refl is)

-- a list that is not too long is counted to its end
counted_whole : (v n : ℕ) → nat_lt v n ≡ false → min n (v + 1) ≡ n
counted_whole v n h = omega (arith, ltb-false v n h)

exact : (bounds : Bounds) (l : ListAst) {a : Gridded ℕ}
    → IsReadTo 2 (flaws_of_list bounds l) (min (length (spanned_values l)) (bounds.values + 1)) a
    → IsReadTo 3 (flaws_of_list bounds l) (length (spanned_values l)) a
exact bounds l read = record {
  first = read.first;
  right = λ keeps.
      read.right (keeps.0, (keeps.1.0, tt))
      ∙ counted_whole bounds.values (length (spanned_values l))
      (not_at _ l.span (else_second (flaws_in flaws_of_item l.items).long _ keeps.1.1.0));
}

-- ---- an atom

pub probs_read : (bounds : Bounds) (count : ℕ) (l : ListAst) {a : Gridded ℕ} {all : Flaws}
    → IsReadTo 2 (flaws_of_list bounds l) (min (length (spanned_values l)) (bounds.values + 1)) a
    → all ≡ flaws_else a.flaws (lengths_at (at_if (not (count == a.part)) l.span))
    → AgreeToFirst (spans all) (spans (listed_beside bounds count l))
probs_read bounds count l read is =
    (read_also 3 (λ (n : ℕ). lengths_at (at_if (not (count == n)) l.span)) (exact bounds l read) refl is).first

early_beside : (bounds : Bounds) (m n : ℕ) (o : Option ListAst)
    → take 3 (spans (flaws_within (listed_beside bounds m) o)) ≡ take 3 (spans (flaws_within (listed_beside bounds n) o))
early_beside bounds m n None = refl
early_beside bounds m n (Some l) = refl

atom_read : (bounds : Bounds) (a : Atom) {values : Gridded ℕ} {probs all : Flaws}
    → IsReadTo 2 (flaws_of_list bounds a.values) (min (values_in a) (bounds.values + 1)) values
    → AgreeToFirst (spans probs) (spans (flaws_within (listed_beside bounds values.part) a.probs))
    → all ≡ flaws_else values.flaws probs
    → IsReadTo 2 (listed_flaws bounds a) (min (values_in a) (bounds.values + 1)) (record { part = values.part; flaws = all })
atom_read bounds a {values = values} {probs = probs} read beside is =
    let g : ℕ → Flaws = λ n. flaws_within (listed_beside bounds n) a.probs in
    let other : Gridded ℕ = record { part = 0; flaws = probs } in
    record {
      first = (read_after 3 7 g (λ n. 0) (λ n k. n) {b = other} (omega arith) (exact bounds a.values read)
          (early_beside bounds values.part (values_in a) a.probs) (record { first = beside; right = λ keeps. refl }) is).first;
      right = λ keeps. read.right (keeps_first 2 (flaws_of_list bounds a.values) (g (values_in a)) keeps);
    }

-- ---- all atoms

-- whether one of the lists is too long, and how many values they have, none counted above a bound
abbrev Counted : Type 0
Counted = Bool × ℕ

abbrev pub counted : Bool → ℕ → Counted
counted is_long total = (is_long, total)

abbrev cap : ℕ
cap = most_values + 1

abbrev add : ℕ → Counted → ℕ → Counted
add v before n = (before.0 || nat_lt v n, min (before.1 + n) cap)

abbrev pub count_of : ℕ → List Atom → Counted
count_of v atoms =
    (list_any (λ a. nat_lt v (values_in a)) atoms, min (sum_by (λ a. min (values_in a) (v + 1)) atoms) cap)

pub total_more : (f : Atom → ℕ) (xs : List Atom) (a : Atom) → sum_by f (xs ++ a ∷ []) ≡ sum_by f xs + f a
total_more f [] a = omega arith
total_more f (x ∷ xs) a = omega (arith, sum_by-cons f x (xs ++ a ∷ []), sum_by-cons f x xs, total_more f xs a)

capped_sum : (a b m : ℕ) → min (min a m + b) m ≡ min (a + b) m
capped_sum a b m = omega arith

or_none : (b c : Bool) → (b || (c || false)) ≡ (b || c)
or_none true c = refl
or_none false true = refl
or_none false false = refl

count_more : (v : ℕ) (xs : List Atom) (a : Atom) → count_of v (xs ++ a ∷ []) ≡ add v (count_of v xs) (min (values_in a) (v + 1))
count_more v xs a =
    let test : Atom → Bool = λ b. nat_lt v (values_in b) in
    let n : Atom → ℕ = λ b. min (values_in b) (v + 1) in
    ap₂ counted (list_any-append test xs (a ∷ []) ∙ or_none (list_any test xs) (test a)
    ∙ ap (λ b. list_any test xs || b) (sym (still_above v (values_in a))))
    (ap (λ k. min k cap) (total_more n xs a) ∙ sym (capped_sum (sum_by n xs) (n a) cap))

module _ (bounds : Bounds) where
  pub atoms_none : {flaws : Flaws} → flaws ≡ no_flaws
      → IsReadTo 2 (flaws_in (listed_flaws bounds) []) (count_of bounds.values []) (record { part = counted false 0; flaws = flaws })
  unfolding flaws_in
  atoms_none e = record { first = rw e (agree_same (spans no_flaws)); right = λ keeps. refl }

  pub atoms_more : (atoms : List Atom) (i : ℕ) {a : Atom} {is_long long : Bool} {total sum : ℕ} {values : Gridded ℕ}
      {flaws probs one all : Flaws} → i < length atoms → a ≡ get_or atoms i a
      → IsReadTo 2 (flaws_in (listed_flaws bounds) (take i atoms)) (count_of bounds.values (take i atoms))
      (record { part = counted is_long total; flaws = flaws })
      → IsReadTo 2 (flaws_of_list bounds a.values) (min (values_in a) (bounds.values + 1)) values
      → AgreeToFirst (spans probs) (spans (flaws_within (listed_beside bounds values.part) a.probs))
      → one ≡ flaws_else values.flaws probs → all ≡ flaws_else flaws one
      → long ≡ (is_long || nat_lt bounds.values values.part) → sum ≡ min (total + values.part) cap
      → IsReadTo 2 (flaws_in (listed_flaws bounds) (take (i + 1) atoms)) (count_of bounds.values (take (i + 1) atoms))
      (record { part = counted long sum; flaws = all })
  atoms_more atoms i {a = a} lt at before values beside joined is longer added =
      let more : take (i + 1) atoms ≡ take i atoms ++ a ∷ [] =
      take_more atoms i a lt ∙ ap (λ b. take i atoms ++ b ∷ []) (sym at) in
      rw (more, flaws_more (listed_flaws bounds) (take i atoms) a, count_more bounds.values (take i atoms) a, longer, added)
      (read_both (add bounds.values) before (atom_read bounds a values beside joined) is)

-- lists none of which is too long are counted to their ends
whole_total : (v : ℕ) (atoms : List Atom) → list_any (λ a. nat_lt v (values_in a)) atoms ≡ false
    → sum_by (λ a. min (values_in a) (v + 1)) atoms ≡ sum_by values_in atoms
whole_total v [] h = refl
whole_total v (a ∷ atoms) h =
    let parts = or_both (nat_lt v (values_in a)) (list_any (λ b. nat_lt v (values_in b)) atoms) h in
    omega (
      arith,
      sum_by-cons (λ b. min (values_in b) (v + 1)) a atoms,
      sum_by-cons values_in a atoms,
      counted_whole v (values_in a) parts.0,
      whole_total v atoms parts.1,
    )
  where
    or_both : (b c : Bool) → (b || c) ≡ false → (b ≡ false) × (c ≡ false)
    or_both true c h = absurd cc
    or_both false c h = (refl, h)

many_by_count : (v : ℕ) (atoms : List Atom) (b : Bool) → list_any (λ a. nat_lt v (values_in a)) atoms ≡ b
    → (not b && nat_lt most_values (min (sum_by (λ a. min (values_in a) (v + 1)) atoms) cap))
    ≡ (not b && nat_lt most_values (sum_by values_in atoms))
many_by_count v atoms true h = refl
many_by_count v atoms false h =
    ap (λ n. nat_lt most_values (min n cap)) (whole_total v atoms h) ∙ still_above most_values (sum_by values_in atoms)

pub many_read : (bounds : Bounds) (atoms : List Atom) {is_long many : Bool} {total : ℕ} {flaws : Flaws}
    → IsReadTo 2 (flaws_in (listed_flaws bounds) atoms) (count_of bounds.values atoms)
    (record { part = counted is_long total; flaws = flaws })
    → many ≡ (not is_long && nat_lt most_values total)
    → IsReadTo 2 (flaws_in (listed_flaws bounds) atoms) (are_many_values bounds atoms) (record { part = many; flaws = flaws })
many_read bounds atoms read is = record {
  first = read.first;
  right = λ keeps.
      let right = read.right keeps in
      is ∙ ap (λ (c : Counted). not c.0 && nat_lt most_values c.1) right
      ∙ many_by_count bounds.values atoms (list_any (λ a. nat_lt bounds.values (values_in a)) atoms) refl;
}

-- ---- a mixture

-- few atoms with few values
pub short : (bounds : Bounds) (m : MixAst) → length m.atoms ≤ most_atoms → sum_by values_in m.atoms ≤ most_values
    → is_long_mixture bounds m ≡ false
short bounds m atoms values = grind (arith, nat_tests, atoms, values)

-- whether it is too long is known where the numerals and the ranges are good
long_before : {x y : Option Span} {made flaws : Flaws} → AgreeToFirst (spans made) (spans flaws)
    → (AreNone (take 2 (spans flaws)) → x ≡ y)
    → AgreeToFirst (spans (flaws_else (long_at x) made)) (spans (flaws_else (long_at y) flaws))
long_before {y = y} {flaws = flaws} h same = (
  h.0,
  λ one. (
    (h.1 one).0,
    λ two.
        let rest = (h.1 one).1 two in
        (ap₂ (λ a b. a else b) (same (one, (two, tt))) rest.0, λ three. rest.1 (else_second y flaws.long three)),
  ),
)

module _ (bounds : Bounds) (most : ℕ) (bs : Fraction) where
  abbrev lists : Flaws → List (Option Span)
  lists f = take 4 (spans f)

  lists_both : (f g h k : Flaws) → lists f ≡ lists g → lists h ≡ lists k → lists (flaws_else f h) ≡ lists (flaws_else g k)
  lists_both f g h k p q = ap₂ zip_else p q

  lists_alone : (f g : Flaws) → lists g ≡ None ∷ None ∷ None ∷ None ∷ [] → lists f ≡ lists (flaws_else f g)
  lists_alone f g none = sym (ap (zip_else (lists f)) none ∙ simp else_none)

  shares_lists : (l : ListAst) → lists (flaws_of_list bounds l) ≡ lists (flaws_of_shares bounds l)
  shares_lists l = lists_alone (flaws_of_list bounds l) (sum_at (at_if (is_not_one bounds.parts (values_of l)) l.span)) refl

  weights_lists : (o : Option ListAst) → lists (flaws_within (flaws_of_list bounds) o) ≡ lists (flaws_within (flaws_of_shares bounds) o)
  weights_lists None = refl
  weights_lists (Some l) = shares_lists l

  beside_lists : (n : ℕ) (o : Option ListAst)
      → lists (flaws_within (listed_beside bounds n) o) ≡ lists (flaws_within (flaws_beside bounds n) o)
  beside_lists n None = refl
  beside_lists n (Some l) =
      let other = lengths_at (at_if (not (n == length (spanned_values l))) l.span) in
      lists_both (flaws_of_list bounds l) (flaws_of_shares bounds l) other other (shares_lists l) refl

  atom_lists : (a : Atom) → lists (listed_flaws bounds a) ≡ lists (flaws_of_atom bounds most bs a)
  atom_lists a =
      let f = flaws_of_list bounds a.values in
      let n : ℕ = values_in a in
      lists_both f (flaws_of_amounts bounds most bs a.values) (flaws_within (listed_beside bounds n) a.probs)
      (flaws_within (flaws_beside bounds n) a.probs)
      (lists_alone f (amount_flaws most bs (spanned_values a.values)) (none_on_lists most bs (spanned_values a.values)))
      (beside_lists n a.probs)

  atoms_lists : (atoms : List Atom) → lists (flaws_in (listed_flaws bounds) atoms) ≡ lists (flaws_in (flaws_of_atom bounds most bs) atoms)
  unfolding flaws_in
  atoms_lists [] = refl
  atoms_lists (a ∷ atoms) = lists_both (listed_flaws bounds a) (flaws_of_atom bounds most bs a)
      (flaws_in (listed_flaws bounds) atoms) (flaws_in (flaws_of_atom bounds most bs) atoms) (atom_lists a) (atoms_lists atoms)

  pub mixture_agrees : (m : MixAst) {many : Bool} {atoms weights rest all : Flaws}
      → IsReadTo 2 (flaws_in (listed_flaws bounds) m.atoms) (are_many_values bounds m.atoms) (record { part = many; flaws = atoms })
      → AgreeToFirst (spans weights) (spans (flaws_within (flaws_of_list bounds) m.weights)) → rest ≡ flaws_else atoms weights
      → all ≡ flaws_else (long_at (at_if (nat_lt most_atoms (length m.atoms) || many) m.span)) rest
      → AgreeOnLists all (flaws_of_mixture bounds most bs m)
  mixture_agrees m {many = many} {atoms = atoms} {weights = weights} {rest = rest} {all = all} own others joined is =
      let f = flaws_in (listed_flaws bounds) m.atoms in
      let g = flaws_within (flaws_of_list bounds) m.weights in
      let far = at_if (is_long_mixture bounds m) m.span in
      let both : AgreeToFirst (spans rest) (spans (flaws_else f g)) =
      rw joined (agree_else (spans atoms) (spans f) (spans weights) (spans g) own.first others) in
      let whole : AgreeToFirst (spans all) (spans (flaws_else (long_at far) (flaws_else f g))) =
      rw is (long_before {y = far} {made = rest} {flaws = flaws_else f g} both
      (λ keeps. ap (λ b. at_if (nat_lt most_atoms (length m.atoms) || b) m.span) (own.right (keeps_first 2 f g keeps)))) in
      let f2 = flaws_in (flaws_of_atom bounds most bs) m.atoms in
      let g2 = flaws_within (flaws_of_shares bounds) m.weights in
      subst (λ xs. AgreeToFirst (lists all) xs)
      (lists_both (long_at far) (long_at far) (flaws_else f g) (flaws_else f2 g2) refl
      (lists_both f f2 g g2 (atoms_lists m.atoms) (weights_lists m.weights)))
      (agree_take 4 (spans all) (spans (flaws_else (long_at far) (flaws_else f g))) whole)

-- ---- where these rules are kept

pub lengths_kept : (made flaws : Flaws) → AgreeOnLists made flaws → KeepsLengths made → KeepsLengths flaws
lengths_kept made flaws h keeps =
    let one = sym h.0 ∙ keeps.0 in
    let two = sym (h.1 one).0 ∙ keeps.1.0 in
    let three = sym ((h.1 one).1 two).0 ∙ keeps.1.1.0 in
    (one, (two, (three, (sym (((h.1 one).1 two).1 three).0 ∙ keeps.1.1.1.0, tt))))
