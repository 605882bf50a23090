-- Items with their amounts mapped, and lists of amounts with whole weights.
use Rattle.dl_severity.proofs.Common.{ℕ, ◌≡◌, ◌∙◌, ◌+◌, ◌<◌, List, [], ◌∷◌, ◌++◌, length, map, zip, sum, get_or, take, refl, sym, ap, ap₂, arith, length-take-le, map_more, take_more, sum_by-cons, Fraction, whole, ◌over◌, Clause, kept, Item, Sev, weight_sum, weight_at, probability, shares, pairs_of, Weights, weighed, items_of, with_amount, severity_total, amounts_of, append_assoc, Result, Ok, Err, IfOk, map-map, whole_num, probability-shares, with_amounts}

pub weight_sum-mapped : (f : ℕ → ℕ) (xs : List Item) → weight_sum (map (with_amount f) xs) ≡ weight_sum xs
weight_sum-mapped f [] = refl
weight_sum-mapped f (x ∷ xs) =
    sum_by-cons (λ (i : Item). i.weight) (with_amount f x) (map (with_amount f) xs)
    ∙ ap (λ n. x.weight + n) (weight_sum-mapped f xs) ∙ sym (sum_by-cons (λ (i : Item). i.weight) x xs)

shares-mapped : (f : ℕ → ℕ) (xs : List Item) (t : ℕ) → with_amounts f (shares xs t) ≡ shares (map (with_amount f) xs) t
shares-mapped f [] t = refl
shares-mapped f (x ∷ xs) t = ap (λ ps. (f x.amount, x.weight over t) ∷ ps) (shares-mapped f xs t)

-- the probabilities of mapped amounts
pub probability-mapped : (f : ℕ → ℕ) (xs : List Item) (t y : ℕ) → 0 < t
    → probability (with_amounts f (shares xs t)) y ≡ weight_at (map (with_amount f) xs) y over t
probability-mapped f xs t y h =
    ap (λ ps. probability ps y) (shares-mapped f xs t) ∙ probability-shares (map (with_amount f) xs) t y h

-- ---- amounts and weights, item by item

pub weight_sum-items : (xs ws : List ℕ) → length xs ≡ length ws → weight_sum (items_of xs ws) ≡ sum ws
weight_sum-items [] [] e = refl
weight_sum-items [] (w ∷ ws) e = absurd (omega (arith, e))
weight_sum-items (x ∷ xs) [] e = absurd (omega (arith, e))
weight_sum-items (x ∷ xs) (w ∷ ws) e =
    sum_by-cons (λ (i : Item). i.weight) (record { amount = x; weight = w }) (items_of xs ws)
    ∙ ap (λ n. w + n) (weight_sum-items xs ws (omega (arith, e)))
    ∙ sym (sum_by-cons (λ n. n) w ws)

weighed-shares : (xs : List ℕ) (weights : Weights)
    → weighed xs weights ≡ shares (items_of xs weights.weights) weights.total
weighed-shares xs weights = sym (map-map (λ (i : Item). (i.amount, i.weight over weights.total))
    (λ pair. record { amount = pair.0; weight = pair.1 }) (zip xs weights.weights))

pub probability-weighed : (xs : List ℕ) (weights : Weights) (y : ℕ) → 0 < weights.total
    → probability (weighed xs weights) y ≡ weight_at (items_of xs weights.weights) y over weights.total
probability-weighed xs weights y h = ap (λ ps. probability ps y) (weighed-shares xs weights)
    ∙ probability-shares (items_of xs weights.weights) weights.total y h

items_of-push : (xs ws : List ℕ) (x w : ℕ) → length xs ≡ length ws
    → items_of (xs ++ x ∷ []) (ws ++ w ∷ []) ≡ items_of xs ws ++ record { amount = x; weight = w } ∷ []
items_of-push [] [] x w e = refl
items_of-push [] (v ∷ ws) x w e = absurd (omega (arith, e))
items_of-push (z ∷ xs) [] x w e = absurd (omega (arith, e))
items_of-push (z ∷ xs) (v ∷ ws) x w e =
    ap (λ is. record { amount = z; weight = v } ∷ is) (items_of-push xs ws x w (omega (arith, e)))

pub items_of-more : (xs ws : List ℕ) (i d : ℕ) → i < length xs → i < length ws
    → items_of (take (i + 1) xs) (take (i + 1) ws) ≡ items_of (take i xs)
    (take i ws) ++ record { amount = get_or xs i d; weight = get_or ws i d } ∷ []
items_of-more xs ws i d p q =
    ap₂ items_of (take_more xs i d p) (take_more ws i d q)
    ∙ items_of-push (take i xs) (take i ws) (get_or xs i d) (get_or ws i d)
    (length-take-le i xs (omega (arith, p)) ∙ sym (length-take-le i ws (omega (arith, q))))

-- ---- the items of a severity, mapped

pub mapped_sum : (sev : Sev) (f : ℕ → ℕ) (items : List Item) → items ≡ map (with_amount f) sev.items
    → weight_sum items ≡ sev.total
mapped_sum sev f items e = ap weight_sum e ∙ weight_sum-mapped f sev.items ∙ sev.weighted.sum

pub mapped_means : (sev : Sev) (f : ℕ → ℕ) (items : List Item) (y : ℕ) → items ≡ map (with_amount f) sev.items
    → weight_at items y over weight_sum items ≡ probability (with_amounts f (pairs_of sev)) y
mapped_means sev f items y e =
    ap₂ (λ n d. n over d) (ap (λ xs. weight_at xs y) e) (mapped_sum sev f items e)
    ∙ sym (probability-mapped f sev.items sev.total y (severity_total sev))

-- one item more, with what a clause keeps of its amount
pub ceded_more : (clause : Clause) (items made new : List Item) (i amount : ℕ) (d : Item) → i < length items
    → made ≡ map (with_amount (λ x. (kept clause x).num)) (take i items)
    → new ≡ made ++ record { amount = amount; weight = (get_or items i d).weight } ∷ []
    → kept clause (get_or items i d).amount ≡ whole amount
    → new ≡ map (with_amount (λ x. (kept clause x).num)) (take (i + 1) items)
ceded_more clause items made new i amount d h so_far pushed value =
    let f : ℕ → ℕ = λ x. (kept clause x).num in
    let same : f (get_or items i d).amount ≡ amount = ap (λ (x : Fraction). x.num) value ∙ whole_num amount in
    pushed
    ∙ ap₂ (λ (xs : List Item) (a : ℕ). xs ++ record { amount = a; weight = (get_or items i d).weight } ∷ []) so_far
    (sym same)
    ∙ sym (map_more (with_amount f) items i d h)

-- one amount more behind others
pub amounts_more : (old amounts new : List ℕ) (items : List Item) (i : ℕ) (d : Item) → i < length items
    → amounts ≡ old ++ amounts_of (take i items) → new ≡ amounts ++ (get_or items i d).amount ∷ []
    → new ≡ old ++ amounts_of (take (i + 1) items)
amounts_more old amounts new items i d h so_far pushed =
    pushed ∙ rw (so_far, append_assoc, map_more (λ (item : Item). item.amount) items i d h) refl

-- what holds of a result holds of what follows from it
pub if_ok : {T E : Type 0} (r : Result T E) (P Q : T → Type 0) → ((x : T) → P x → Q x) → IfOk r P → IfOk r Q
if_ok (Ok x) P Q h p = h x p
if_ok (Err e) P Q h p = tt
