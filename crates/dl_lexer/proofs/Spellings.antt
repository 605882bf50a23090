-- Words of keywords: a keyword is found by its spelling, so no two share one.
use Rattle.dl_lexer.proofs.Common.{ℕ, ◌≡◌, ◌≢◌, ◌∙◌, ◌+◌, ◌<◌, ◌≤◌, List, [], ◌∷◌, length, get_or, drop, map, Bool, true, false, cond, refl, sym, ap, add-one, drop-cons, Some, IfSome, bytes_eq, bytes_eq-Decides, Keyword, IsWord, spelling, first_spelled, Option, None, IfNone, drop_all, Agg, Port, Claim, Claims, Loss, Prem, Premium, At, Lr, Dfreq, Dsev, Sev, Dhistogram, Xps, Xs, Inf, Occurrence, Aggregate, Net, Of, Ceded, To, And, So, Po, Fixed, Poisson, Bernoulli, Binomial, Mixed, Gamma, Wts, Lognorm, Expon, Pareto, Weibull, Norm, Uniform, Beta, Chistogram, Note, Geometric, Zt, Zm, Common}

-- the keywords in the order of the table
abbrev pub keywords : List Keyword
keywords =
    Agg ∷ Port ∷ Claim ∷ Claims ∷ Loss ∷ Prem ∷ Premium ∷ At ∷ Lr ∷ Dfreq ∷ Dsev ∷ Sev ∷ Dhistogram ∷ Xps ∷ Xs ∷ Inf
    ∷ Occurrence ∷ Aggregate ∷ Net ∷ Of ∷ Ceded ∷ To ∷ And ∷ So ∷ Po ∷ Fixed ∷ Poisson ∷ Bernoulli ∷ Binomial ∷ Mixed
    ∷ Gamma ∷ Wts ∷ Lognorm ∷ Expon ∷ Pareto ∷ Weibull ∷ Norm ∷ Uniform ∷ Beta ∷ Chistogram ∷ Note ∷ Geometric ∷ Zt
    ∷ Zm ∷ Common ∷ []

pub found : (k : Keyword) → first_spelled keywords (spelling k) ≡ Some k
unfolding first_spelled
found Agg = refl
found _ = refl

-- no two keywords share a spelling
pub spelling_one : (a b : Keyword) → spelling a ≡ spelling b → a ≡ b
spelling_one a b e = let same : Some a ≡ Some b = sym (found a) ∙ ap (first_spelled keywords) e ∙ found b in cc

-- one keyword at the front of a table
pub first_spelled_here : (k : Keyword) (ks : List Keyword) (bytes : List ℕ) → spelling k ≡ bytes
    → first_spelled (k ∷ ks) bytes ≡ Some k
unfolding first_spelled
first_spelled_here k ks bytes e = rw ((bytes_eq-Decides (spelling k) bytes).1 e) refl

pub first_spelled_later : (k : Keyword) (ks : List Keyword) (bytes : List ℕ) → spelling k ≢ bytes
    → first_spelled (k ∷ ks) bytes ≡ first_spelled ks bytes
unfolding first_spelled
first_spelled_later k ks bytes other = later (bytes_eq (spelling k) bytes) refl
  where
    later : (t : Bool) → bytes_eq (spelling k) bytes ≡ t
        → cond (bytes_eq (spelling k) bytes) (Some k) (first_spelled ks bytes) ≡ first_spelled ks bytes
    later true is = absurd (other ((bytes_eq-Decides (spelling k) bytes).0 is))
    later false is = rw is refl

-- what is found is spelled so
pub first_spelled_is : (ks : List Keyword) (bytes : List ℕ) → IfSome (first_spelled ks bytes) (λ k. spelling k ≡ bytes)
unfolding first_spelled
first_spelled_is [] bytes = tt
first_spelled_is (k ∷ ks) bytes = here (bytes_eq (spelling k) bytes) refl (first_spelled_is ks bytes)
  where
    here : (t : Bool) → bytes_eq (spelling k) bytes ≡ t → IfSome (first_spelled ks bytes) (λ k. spelling k ≡ bytes)
        → IfSome (cond (bytes_eq (spelling k) bytes) (Some k) (first_spelled ks bytes)) (λ k. spelling k ≡ bytes)
    here true is rest = rw is ((bytes_eq-Decides (spelling k) bytes).0 is)
    here false is rest = rw is rest

-- where none is found, no keyword is spelled so
pub none_spelled : (r : Option Keyword) (bytes : List ℕ) → r ≡ first_spelled keywords bytes
    → IfNone r ((k : Keyword) → spelling k ≢ bytes)
none_spelled (Some k) bytes e = tt
none_spelled None bytes e =
    λ k is. let some : first_spelled keywords bytes ≡ Some k = ap (first_spelled keywords) (sym is) ∙ found k in cc

-- a table from a place on, by its keywords
pub rest_of_table : {B : Type 0} (items : List (Keyword × B)) (i : ℕ) (d : Keyword × B) → i < length items
    → map (λ item. item.0) (drop i items) ≡ (get_or items i d).0 ∷ map (λ item. item.0) (drop (i + 1) items)
rest_of_table items i d h = rw (add-one, drop-cons items i d h) refl

pub table_ends : {B : Type 0} (items : List (Keyword × B)) (i : ℕ) (bytes : List ℕ) → length items ≤ i
    → first_spelled (map (λ item. item.0) (drop i items)) bytes ≡ None
unfolding first_spelled
table_ends items i bytes h = rw (drop_all i items h) refl

-- each keyword is a word
pub keyword_is_word : (k : Keyword) → IsWord (spelling k)
keyword_is_word Agg = refl
keyword_is_word _ = refl
