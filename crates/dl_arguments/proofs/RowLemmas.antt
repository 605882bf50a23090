-- What the uses of options and positionals leave in the rows.
use Rattle.dl_arguments.proofs.Common.{◌≡◌, ◌∙◌, inl, inr, ℕ, true, false, refl, sym, ap, subst, List, [], ◌∷◌, ◌++◌, Option, Some, None, true≢false, length, append_assoc, arith, ◌+◌, ◌≤◌, if◌then◌else◌, is_some, unwrap_or, option_map, ⊤, fold, bytes_eq, bytes_eq-Decides, cases_Bool, explicit_source, is_given, Kinds, or_else, Row, Rule, action_of, all_of, arg_by_id, has_row, Shape, repeat_fault, use_fault, Text, DefaultValue, CommandLine, is_append, reading_by, stronger, with_values, without, ArgAction, Set, Append, Reading, ValueSource, find}
use Rattle.dl_arguments.proofs.Simulation.{Fails, Use, bytes_same, fault, faults, step}

-- the first row of an id
abbrev pub look : Text → List Row → Option Row
look id rows = find (λ r. bytes_eq r.id id) rows

strong : (o : Option ValueSource) → explicit_source (Some (stronger o CommandLine)) ≡ true
strong None = refl
strong (Some CommandLine) = refl
strong (Some DefaultValue) = refl

-- one with these values behind what is there, and which comes from the words
abbrev HasMore : Text → List Text → List Row → List Row → Type 0
HasMore id vs rows more = (row : Row) × (look id more ≡ Some row)
    × (row.values ≡ unwrap_or (all_of id rows) [] ++ vs) × (explicit_source row.source ≡ true)

look_same : (id : Text) (how : Reading) (vs : List Text) (rows : List Row)
    → HasMore id vs rows (with_values id how CommandLine vs rows)
look_same id how vs [] =
    let new : Row = record { id = id; values = vs; count = None; source = Some CommandLine; reading = how } in
    (new, rw (bytes_same id) refl, refl, refl)
look_same id how vs (r ∷ rs) = elim (cases_Bool (bytes_eq r.id id)) [
  | inl e ↦ rw (e, e) (_, refl, refl, strong r.source)
  | inr e ↦ rw (e, e) (look_same id how vs rs)
]

look_other : (id other : Text) (how : Reading) (vs : List Text) (rows : List Row) → bytes_eq id other ≡ false
    → look other (with_values id how CommandLine vs rows) ≡ look other rows
look_other id other how vs [] d = rw d refl
look_other id other how vs (r ∷ rs) d = elim (cases_Bool (bytes_eq r.id id)) [
  | inl e ↦
      let differ = subst (λ t. bytes_eq t other ≡ false) (sym ((bytes_eq-Decides r.id id).0 e)) d in
      rw (e, differ) refl
  | inr e ↦ rw (e, look_other id other how vs rs d) refl
]

without-none : (id : Text) (rows : List Row) → has_row id rows ≡ false → without id rows ≡ rows
without-none id [] h = refl
without-none id (r ∷ rs) h = elim (cases_Bool (bytes_eq r.id id)) [
  | inl e ↦ absurd (true≢false (rw e at h))
  | inr e ↦ rw e (ap (λ l. r ∷ l) (without-none id rs (rw e at h)))
]

has_row-all_of : (id : Text) (rows : List Row) → has_row id rows ≡ is_some (all_of id rows)
has_row-all_of id [] = refl
has_row-all_of id (r ∷ rs) = grind (arith, has_row-all_of id rs)

-- ---- uses of arguments that keep their values: one that may stand once, or one that gathers them

pub data Kept (s : Shape) (id : Text) : Type 0 where
  kept_once : (a : Rule) → arg_by_id s.rules id ≡ Some a → a.id ≡ id → action_of a ≡ Set
      → ((v : Text) (r : List Row) → use_fault false a (v ∷ []) r ≡ repeat_fault false a.id r) → Kept s id
  kept_all : (a : Rule) → arg_by_id s.rules id ≡ Some a → a.id ≡ id → action_of a ≡ Append
      → ((v : Text) (r : List Row) → use_fault false a (v ∷ []) r ≡ []) → Kept s id

-- the argument of this id may stand once
abbrev pub IsSingle : Shape → Text → Type 0
IsSingle s id = (a : Rule) → arg_by_id s.rules id ≡ Some a → action_of a ≡ Set

set_not_append : (a : ArgAction) → a ≡ Set → a ≡ Append → ⊥
set_not_append a e f = true≢false (sym (ap is_append f) ∙ ap is_append e)

abbrev pub AllKept : Shape → List Use → Type 0
AllKept s [] = ⊤
AllKept s (u ∷ us) = Kept s u.0 × AllKept s us

abbrev pub values_in : Text → List Use → List Text
values_in id [] = []
values_in id (u ∷ us) = if bytes_eq u.0 id then u.1 ∷ values_in id us else values_in id us

abbrev pub more : Option (List Text) → List Text → Option (List Text)
more o [] = o
more o (v ∷ vs) = Some (unwrap_or o [] ++ v ∷ vs)

more-more : (o : Option (List Text)) (v : Text) (vs : List Text)
    → more (Some (unwrap_or o [] ++ v ∷ [])) vs ≡ more o (v ∷ vs)
more-more o v [] = refl
more-more o v (w ∷ vs) = ap Some (append_assoc (unwrap_or o []) (v ∷ []) (w ∷ vs))

no_repeat : (id : Text) (r : List Row) → repeat_fault false id r ≡ [] → has_row id r ≡ false
no_repeat id r h = grind arith

pub both_empty : (a b : Kinds) → or_else a b ≡ [] → (a ≡ []) × (b ≡ [])
both_empty [] b h = (refl, h)
both_empty (k ∷ ks) b h = absurd (subst Fails h tt)

module _ (s : Shape) where
  use_once : (r : List Row) (u : Use) (a : Rule) → arg_by_id s.rules u.0 ≡ Some a → a.id ≡ u.0
      → ((v : Text) (r : List Row) → use_fault false a (v ∷ []) r ≡ repeat_fault false a.id r)
      → fault s r u ≡ [] → has_row u.0 r ≡ false
  use_once r u a found same uf h = rw (← same) (no_repeat a.id r (sym (uf u.1 r) ∙ (rw found at h)))

  -- what a use with no fault does
  step_is : (r : List Row) (u : Use) → Kept s u.0 → fault s r u ≡ []
      → (how : Reading) × (step s r u ≡ with_values u.0 how CommandLine (u.1 ∷ []) r)
  step_is r u (kept_once a found same action uf) h =
      (reading_by a, rw (found, action, same, without-none u.0 r (use_once r u a found same uf h)) refl)
  step_is r u (kept_all a found same action uf) h = (reading_by a, rw (found, action, same) refl)

  step_same : (r : List Row) (u : Use) → Kept s u.0 → fault s r u ≡ [] → HasMore u.0 (u.1 ∷ []) r (step s r u)
  step_same r u k h = let t = step_is r u k h in rw t.1 (look_same u.0 t.0 (u.1 ∷ []) r)

  step_other : (r : List Row) (u : Use) (id : Text) → bytes_eq u.0 id ≡ false → Kept s u.0 → fault s r u ≡ []
      → look id (step s r u) ≡ look id r
  step_other r u id d k h = let t = step_is r u k h in ap (look id) t.1 ∙ look_other u.0 id t.0 (u.1 ∷ []) r d

  more_values : (r : List Row) (u : Use) → Kept s u.0 → fault s r u ≡ []
      → all_of u.0 (step s r u) ≡ Some (unwrap_or (all_of u.0 r) [] ++ u.1 ∷ [])
  more_values r u k h =
      let t = step_same r u k h in ap (option_map (λ (r : Row). r.values)) t.1 ∙ ap Some t.2

  -- what an id has at the end
  pub gathered : (us : List Use) (r : List Row) (id : Text) → AllKept s us → faults s r us ≡ []
      → all_of id (fold (step s) r us) ≡ more (all_of id r) (values_in id us)
  gathered [] r id kept h = refl
  gathered (u ∷ us) r id kept h =
      let parts = both_empty (fault s r u) _ h in
      let rest = gathered us (step s r u) id kept.1 parts.1 in
      elim (cases_Bool (bytes_eq u.0 id)) [
        | inl e ↦
            let same : all_of id (step s r u) ≡ Some (unwrap_or (all_of id r) [] ++ u.1 ∷ []) =
            subst (λ t. all_of t (step s r u) ≡ Some (unwrap_or (all_of t r) [] ++ u.1 ∷ []))
            ((bytes_eq-Decides u.0 id).0 e) (more_values r u kept.0 parts.0) in
            rest ∙ ap (λ o. more o (values_in id us)) same ∙ more-more (all_of id r) u.1 (values_in id us) ∙ (rw e refl)
        | inr e ↦ rest ∙ ap (λ (o : Option Row). more (option_map (λ r. r.values) o) (values_in id us)) (step_other r u id e kept.0 parts.0) ∙ (rw e refl)
      ]

  -- how often an id stands, in the rows and in the uses that follow
  abbrev pub count : Text → List Row → List Use → ℕ
  count id r us = (if is_some (all_of id r) then 1 else 0) + length (values_in id us)

  counted : (us : List Use) (r : List Row) (u : Use) (id : Text) → Kept s u.0 → fault s r u ≡ [] → IsSingle s id
      → count id (step s r u) us ≡ count id r (u ∷ us)
  counted us r u id k h single = elim (cases_Bool (bytes_eq u.0 id)) [
    | inl e ↦
        let is : u.0 ≡ id = (bytes_eq-Decides u.0 id).0 e in
        elim k [
          | kept_once a found same action uf ↦
              let none : is_some (all_of id r) ≡ false = subst (λ t. is_some (all_of t r) ≡ false) is
              (sym (has_row-all_of u.0 r) ∙ use_once r u a found same uf h) in
              let after : is_some (all_of id (step s r u)) ≡ true =
              subst (λ t. is_some (all_of t (step s r u)) ≡ true) is
              (ap is_some (more_values r u (kept_once a found same action uf) h)) in
              rw (e, none, after) (omega arith)
          | kept_all a found same action uf ↦
              absurd (set_not_append (action_of a)
              (single a (subst (λ t. arg_by_id s.rules t ≡ Some a) is found)) action)
        ]
    | inr e ↦ rw (e, step_other r u id e k h) refl
  ]

  -- with no fault an id that may stand once does so
  pub at_most_once : (us : List Use) (r : List Row) (id : Text) → AllKept s us → IsSingle s id → faults s r us ≡ []
      → count id r us ≤ 1
  at_most_once [] r id kept single h = grind arith
  at_most_once (u ∷ us) r id kept single h =
      let parts = both_empty (fault s r u) _ h in
      subst (λ n. n ≤ 1) (counted us r u id kept.0 parts.0 single)
      (at_most_once us (step s r u) id kept.1 single parts.1)

  -- a fault means that one stands twice
  pub twice : (us : List Use) (r : List Row) → AllKept s us → Fails (faults s r us) → (id : Text) × IsSingle s id
      × (2 ≤ count id r us)
  twice [] r kept h = absurd h
  twice (u ∷ us) r kept h = go (λ k. twice us (step s r u) kept.1 k) (fault s r u) refl kept.0 h
    where
      single_of : (a : Rule) (id : Text) → arg_by_id s.rules id ≡ Some a → action_of a ≡ Set → IsSingle s id
      single_of a id found action = λ b is. ap (λ o. action_of (unwrap_or o a)) (sym is ∙ found) ∙ action

      there : (a : Rule) → a.id ≡ u.0 → Fails (repeat_fault false a.id r) → 2 ≤ count u.0 r (u ∷ us)
      there a same f = grind (arith, has_row-all_of u.0 r, bytes_same u.0)

      go : (Fails (faults s (step s r u) us) → (id : Text) × IsSingle s id × (2 ≤ count id (step s r u) us))
          → (f : Kinds) → fault s r u ≡ f → Kept s u.0 → Fails (or_else f (faults s (step s r u) us))
          → (id : Text) × IsSingle s id × (2 ≤ count id r (u ∷ us))
      go rest [] e k h =
          let got = rest h in
          (got.0, got.1, subst (λ n. 2 ≤ n) (counted us r u got.0 k e got.1) got.2)
      go rest (x ∷ xs) e (kept_once a found same action uf) h = grind (arith, single_of a u.0 found action, there)
      go rest (x ∷ xs) e (kept_all a found same action uf) h = grind arith

  -- what an id has comes from the words
  pub given_told : (id : Text) (us : List Use) (r : List Row) → AllKept s us → faults s r us ≡ []
      → is_given id r ≡ is_some (all_of id r)
      → is_given id (fold (step s) r us) ≡ is_some (all_of id (fold (step s) r us))
  given_told id [] r kept f h = h
  given_told id (u ∷ us) r kept f h =
      let free = both_empty (fault s r u) _ f in
      given_told id us (step s r u) kept.1 free.1 (elim (cases_Bool (bytes_eq u.0 id)) [
        | inl e ↦
            let same : u.0 ≡ id = (bytes_eq-Decides u.0 id).0 e in
            let t = step_same r u kept.0 free.0 in rw (← same, t.1) t.3
        | inr e ↦ rw (step_other r u id e kept.0 free.0) h
      ])
