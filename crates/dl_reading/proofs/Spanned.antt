-- The values of a list whose numerals and ranges are good.
use Rattle.dl_reading.proofs.Common.{ℕ, ◌≡◌, ◌∙◌, ◌<◌, ◌≤◌, List, [], ◌∷◌, map, flat_map, length, take, get_or, false, Option, Some, None, refl, sym, ap, subst, arith, All, All-nil, All-cons, All-map, length-map, Fraction, Span, else_second, IsClean, flaws_else, HasPartsOf18Digits, IsRange, range_values, Range, Numeral, ListItem, ListAst, IsFormedItem, IsFormedList, Flaws, Gridded, IsReadTo, AgreeToFirst, AreNone, spans, flaws_in, flaws_within, range_at, long_at, flaws_of_numeral, flaws_of_item, flaws_of_list, range_of, spanned_range, spanned_in, spanned_item, spanned_values, AreTooMany, Bounds, ◌+◌, flat_map-map, length-flat_map-take, ExpandFault, TooLong, OutOfMemory}
use Rattle.std.specs.Prelude.{is_some}
use Rattle.dl_reading.proofs.Firsts.{passes_limit, keeps_limit}
use Rattle.dl_reading.proofs.Agreeing.{agree_else, agree_same, keeps_first, keeps_second, flaws_none}
use Rattle.dl_reading.proofs.ItemRanges.{item_is, item_modest, all_joined, enough}

-- with the values of one range more there are more than a list may have
pub too_many : (bounds : Bounds) (ranges : List (Range × Span)) (i : ℕ) (pair : Range × Span) (values : List (Fraction × Span))
    (fault : ExpandFault) → i < length ranges → pair ≡ get_or ranges i pair
    → values ≡ flat_map spanned_in (take i ranges) → AreTooMany bounds (length values + length (range_values pair.0)) fault
    → AreTooMany bounds (length (flat_map spanned_in ranges)) fault
too_many bounds ranges i pair values TooLong lt at so_far far =
    omega (
      arith,
      far,
      ap length so_far,
      length-flat_map-take spanned_in ranges i pair lt,
      ap (λ (p : Range × Span). length (spanned_in p)) at,
      length-map {B = Fraction × Span} (range_values pair.0) (λ x. (x, pair.1)),
    )
too_many bounds ranges i pair values OutOfMemory lt at so_far far = tt

-- an item has flaws of the first two rules alone
abbrev item_flaws : Numeral → Option Numeral → Option Numeral → Option Span → Flaws
item_flaws from to step bad =
    flaws_else (flaws_of_numeral from) (flaws_else (flaws_within flaws_of_numeral to)
    (flaws_else (flaws_within flaws_of_numeral step) (range_at bad)))

no_later : (from : Numeral) (to step : Option Numeral) (bad : Option Span)
    → AreNone (take 2 (spans (item_flaws from to step bad))) → IsClean (item_flaws from to step bad)
no_later from None None bad h = (h.0, (h.1.0, (refl, (refl, (refl, (refl, (refl, tt)))))))
no_later from None (Some n) bad h = (h.0, (h.1.0, (refl, (refl, (refl, (refl, (refl, tt)))))))
no_later from (Some n) None bad h = (h.0, (h.1.0, (refl, (refl, (refl, (refl, (refl, tt)))))))
no_later from (Some n) (Some m) bad h = (h.0, (h.1.0, (refl, (refl, (refl, (refl, (refl, tt)))))))

items_clean : (items : List ListItem) → AreNone (take 2 (spans (flaws_in flaws_of_item items)))
    → All (λ i. IsClean (flaws_of_item i)) items
unfolding flaws_in
items_clean [] h = All-nil (λ i. IsClean (flaws_of_item i))
items_clean (i ∷ items) h =
    All-cons (λ j. IsClean (flaws_of_item j)) i items
    (no_later i.from i.to i.step _ (keeps_first 2 (flaws_of_item i) (flaws_in flaws_of_item items) h))
    (items_clean items (keeps_second 2 (flaws_of_item i) (flaws_in flaws_of_item items) h))

pub none_is : {A : Type 0} (o : Option A) → is_some o ≡ false → o ≡ None
none_is None e = refl
none_is (Some x) e = absurd (cc)

-- the range of an item whose numerals are good, and which is one
pub range_good : (i : ListItem) → IsFormedItem i → (range : Gridded Range) → IsReadTo 2 (flaws_of_item i) (range_of i) range
    → range.flaws.numeral ≡ None → range.flaws.range ≡ None → IsRange range.part
range_good i formed range read numeral ranged =
    let one = sym read.first.0 ∙ numeral in
    let two = sym (read.first.1 one).0 ∙ ranged in
    subst IsRange (sym (read.right (one, (two, tt)))) (item_is i formed (no_later i.from i.to i.step _ (one, (two, tt))))

pub many : (bounds : Bounds) (l : ListAst) → bounds.values < length l.items
    → bounds.values < length (spanned_values l)
many bounds l h = omega (arith, h, enough l.items)

-- no values of a list that has too many, beside the flaws of its items
pub long_read : (bounds : Bounds) (l : ListAst) {values : List (Fraction × Span)} (items : Flaws) {all : Flaws} → bounds.values < length (spanned_values l)
    → AgreeToFirst (spans items) (spans (flaws_in flaws_of_item l.items)) → all ≡ flaws_else items (long_at (Some l.span))
    → IsReadTo 3 (flaws_of_list bounds l) (spanned_values l) (record { part = values; flaws = all })
long_read bounds l items many told is =
    let far = passes_limit bounds.values (length (spanned_values l)) l.span many in
    let late = spans (long_at (Some l.span)) in
    record {
      first = rw (is, ← far) (agree_else (spans items) (spans (flaws_in flaws_of_item l.items)) late late told (agree_same late));
      right = λ keeps.
          let none = else_second (flaws_in flaws_of_item l.items).long _ keeps.1.1.0 in
          absurd (cc (none, far));
    }

module _ (l : ListAst) (formed : IsFormedList l) (ranges : Gridded (List (Range × Span)))
    (read : IsReadTo 2 (flaws_in flaws_of_item l.items) (map spanned_range l.items) ranges)
    (numeral : ranges.flaws.numeral ≡ None) (range : ranges.flaws.range ≡ None) where
  kept : AreNone (take 2 (spans (flaws_in flaws_of_item l.items)))
  kept = let none = sym read.first.0 ∙ numeral in (none, (sym (read.first.1 none).0 ∙ range, tt))

  clean : All (λ i. IsClean (flaws_of_item i)) l.items
  clean = items_clean l.items kept

  pub all_ranges : All (λ pair. IsRange pair.0) ranges.part
  all_ranges = subst (λ ps. All (λ pair. IsRange pair.0) ps) (sym (read.right kept))
      (All-map (λ pair. IsRange pair.0) spanned_range l.items
      (λ k d h. item_is _ (formed.items k d h) (clean k d h)))

  pub values_are : flat_map spanned_in ranges.part ≡ spanned_values l
  values_are = ap (flat_map spanned_in) (read.right kept) ∙ flat_map-map spanned_in spanned_range l.items

  pub values_modest : (values : List (Fraction × Span)) → values ≡ flat_map spanned_in ranges.part
      → All (λ pair. HasPartsOf18Digits pair.0) values
  values_modest values e = subst (λ vs. All (λ pair. HasPartsOf18Digits pair.0) vs) (sym (e ∙ values_are))
      (all_joined (λ pair. HasPartsOf18Digits pair.0) spanned_item l.items
      (λ k d h. item_modest _ (formed.items k d h) (clean k d h)))

  -- not too many values
  pub few_read : (bounds : Bounds) (values : List (Fraction × Span)) → values ≡ flat_map spanned_in ranges.part
      → length values ≤ bounds.values
      → IsReadTo 3 (flaws_of_list bounds l) (spanned_values l) (record { part = values; flaws = ranges.flaws })
  few_read bounds values e few =
      let none = keeps_limit bounds.values (length (spanned_values l)) l.span
      (omega (arith, few, ap length (e ∙ values_are))) in
      record {
        first = subst (λ o. AgreeToFirst (spans ranges.flaws) (spans (flaws_else (flaws_in flaws_of_item l.items) (long_at o))))
            none (subst (λ f. AgreeToFirst (spans ranges.flaws) (spans f))
            (sym (flaws_none (flaws_in flaws_of_item l.items))) read.first);
        right = λ keeps. e ∙ values_are;
      }
