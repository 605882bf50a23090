-- The terms of a price as a loop reads them: those so far, and what the rest is read as.
use Rattle.dl_arguments.proofs.Common.{◌≡◌, ◌∙◌, ℕ, suc, ◌≤◌, ◌<◌, ◌+◌, List, [], ◌∷◌, ◌++◌, append_assoc, Option, Some, None, arith, refl, ap, option_map, cut_at, Text, ◌-◌, Term, joined_at}
use Rattle.dl_arguments.specs.Table.{plus, term as a_term}
unfoldable use Rattle.dl_arguments.specs.Ways.{joined}

-- these terms in front of others
abbrev pub before : List Term → Option (List Term) → Option (List Term)
before terms rest = option_map (λ more. terms ++ more) rest

-- one more term behind the others, and in front of the rest
one_more : (terms : List Term) (term : Term) (rest : Option (List Term))
    → before (terms ++ term ∷ []) rest ≡ before terms (option_map (λ more. term ∷ more) rest)
one_more terms term None = refl
one_more terms term (Some more) = ap Some (append_assoc terms (term ∷ []) more)

one_last : (terms : List Term) (term : Option Term)
    → option_map (λ t. terms ++ t ∷ []) term ≡ before terms (option_map (λ t. t ∷ []) term)
one_last terms None = refl
one_last terms (Some term) = refl

module _ (i : ℕ) (rest text : Text) (terms : List Term)
    (so_far : before terms (joined plus a_term.read (8 - i) rest) ≡ joined plus a_term.read 8 text) where
  read_there : i < 8 → (cut : Option (Text × Text)) → cut ≡ cut_at 43 rest
      → before terms (joined_at a_term.read (λ more. joined plus a_term.read (7 - i) more) rest cut) ≡ joined plus a_term.read 8 text
  unfolding joined
  read_there inside cut is =
      let left : suc (7 - i) ≡ 8 - i = omega (arith, inside) in
      ap (λ c. before terms (joined_at a_term.read (λ more. joined plus a_term.read (7 - i) more) rest c)) is
      ∙ ap (λ n. before terms (joined plus a_term.read n rest)) left ∙ so_far

  pub last_read : i < 8 → None ≡ cut_at 43 rest → (all : Option (List Term))
      → all ≡ option_map (λ term. terms ++ term ∷ []) (a_term.read rest) → all ≡ joined plus a_term.read 8 text
  last_read inside none all is = is ∙ one_last terms (a_term.read rest) ∙ read_there inside None none

  pub none_read : i < 8 → (cut : Text × Text) → Some cut ≡ cut_at 43 rest → None ≡ a_term.read cut.0
      → None ≡ joined plus a_term.read 8 text
  none_read inside cut is none = rw (← none) at (read_there inside (Some cut) is)

  pub next_read : i < 8 → (cut : Text × Text) → Some cut ≡ cut_at 43 rest → (term : Term)
      → Some term ≡ a_term.read cut.0 → (pushed : List Term) → pushed ≡ terms ++ term ∷ []
      → before pushed (joined plus a_term.read (8 - (i + 1)) cut.1) ≡ joined plus a_term.read 8 text
  next_read inside cut is term read pushed more =
      grind (arith, one_more terms term (joined plus a_term.read (7 - i) cut.1), read_there inside (Some cut) is)

  pub too_many : 8 ≤ i → None ≡ joined plus a_term.read 8 text
  unfolding joined
  too_many past = grind arith
