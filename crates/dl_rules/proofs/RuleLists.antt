-- The first of some rules that is broken.
use Rattle.dl_rules.proofs.Common.{ℕ, ◌≡◌, List, [], ◌∷◌, ◌++◌, Option, Some, None, refl, ap₂, Span, ◌else◌, else_first, else_second, breaks, Rule, TypeFault, first_in, first-append, first_broken, AllKept}

module _ (unit : ℕ) where
  pub only : (rule : Rule) (span : Option Span) → breaks unit rule span ≡ None → span ≡ None
  only rule None e = refl
  only rule (Some span) e = absurd (cc)

  pub both : (rule : Rule) (span : Option Span) (rest : Option TypeFault)
      → (breaks unit rule span else rest) ≡ None → (span ≡ None) × (rest ≡ None)
  both rule span rest e =
      (only rule span (else_first (breaks unit rule span) rest e), else_second (breaks unit rule span) rest e)

  pub all_kept : (rules : List (Rule × Option Span)) → first_broken unit rules ≡ None → AllKept rules
  unfolding first_in
  all_kept [] e = tt
  all_kept (x ∷ rules) e =
      let parts = both x.0 x.1 (first_broken unit rules) e in
      (parts.0, all_kept rules parts.1)

  pub none_broken : (rules : List (Rule × Option Span)) → AllKept rules → first_broken unit rules ≡ None
  unfolding first_in
  none_broken [] kept = refl
  none_broken (x ∷ rules) kept = ap₂ (λ span rest. breaks unit x.0 span else rest) kept.0 (none_broken rules kept.1)

  -- the rules of one list, and then those of another
  pub lists : (xs ys : List (Rule × Option Span))
      → first_broken unit (xs ++ ys) ≡ (first_broken unit xs else first_broken unit ys)
  lists xs ys = first-append (λ rule. breaks unit rule.0 rule.1) xs ys
