-- Reading by a rule from left to right, with a look at the next token, and at one more where a rule
-- says so.
use Rattle.std.specs.Prelude.{ℕ, zero, suc, Bool, true, false, cond, ◌&&◌, ◌||◌, List, [], ◌∷◌, ◌++◌, length, Some, None}
use Rattle.std.specs.List.{list_any}
use denote.Enum.Bare.{sameb}
use Rattle.dl_lexer.specs.contracts.token.Keyword.{the_type as keywords}
use Rattle.dl_lexer.specs.contracts.token.Sign.{the_type as signs}
use Rattle.dl_lexer.specs.declared.token.Kind.{Kind}
use Rattle.dl_lexer.specs.declared.token.Kind.TheVariants.{Word, Name, Ref, Numeral, Note, Sign}
use Rattle.dl_ast.specs.Prelude.{Lexeme, Rule, one, ◌▸◌, ◌or◌, maybe, many, unless, made, node}

abbrev pub same_kind : Kind → Kind → Bool
same_kind (Word a) (Word b) = sameb keywords a b
same_kind (Sign a) (Sign b) = sameb signs a b
same_kind Name Name = true
same_kind Ref Ref = true
same_kind Numeral Numeral = true
same_kind Note Note = true
same_kind _ _ = false

abbrev pub among : Kind → List Kind → Bool
among k ks = list_any (same_kind k) ks

-- the place of a reader: the end of the last token, and the tokens that are left
pub record State : Type 0 where
  pub end : ℕ
  pub rest : List Lexeme

-- what was read and the place behind it, or the kind that the next token is not
pub data Outcome (X : Type 0) : Type 0 where
  got : X → State → Outcome X
  stuck : Kind → State → Outcome X

infixl 10 ◌>>=◌
abbrev pub ◌>>=◌ : {A B : Type 0} → Outcome A → (A → State → Outcome B) → Outcome B
(got x p) >>= f = f x p
(stuck k p) >>= f = stuck k p

-- the next token is of one of these kinds
abbrev pub begins : List Kind → List Lexeme → Bool
begins ks [] = false
begins ks (t ∷ ts) = among t.kind ks

-- where the next token starts, and at where there is none
abbrev pub start_of : ℕ → List Lexeme → ℕ
start_of at [] = at
start_of at (t ∷ ts) = t.span.start

-- a rule may spell something by no tokens
abbrev pub is_empty : {X : Type 0} → Rule X → Bool
is_empty (one k) = false
is_empty (a ▸ b) = is_empty a && is_empty b
is_empty (a or b) = is_empty a || is_empty b
is_empty (maybe a) = true
is_empty (many a) = true
is_empty (unless j k a) = true
is_empty (made f a) = is_empty a
is_empty (node f a) = is_empty a

-- the kinds that a rule may begin with
abbrev pub first : {X : Type 0} → Rule X → List Kind
first (one k) = k ∷ []
first (a ▸ b) = first a ++ cond (is_empty a) (first b) []
first (a or b) = first a ++ first b
first (maybe a) = first a
first (many a) = first a
first (unless j k a) = first a
first (made f a) = first a
first (node f a) = first a

-- the next two tokens are of these kinds
abbrev pub two_at : Kind → Kind → List Lexeme → Bool
two_at j k [] = false
two_at j k (t ∷ ts) = same_kind t.kind j && begins (k ∷ []) ts

-- the next token is of one of these kinds, and the next two are not of the two
abbrev pub enters : Kind → Kind → List Kind → List Lexeme → Bool
enters j k ks ts = cond (two_at j k ts) false (begins ks ts)

-- these tokens would be taken to go on with what is already spelled
abbrev pub goes_on : {X : Type 0} → Rule X → List Lexeme → Bool
goes_on (one k) ts = false
goes_on (a ▸ b) ts = goes_on b ts || (is_empty b && goes_on a ts)
goes_on (a or b) ts = goes_on a ts || goes_on b ts
goes_on (maybe a) ts = begins (first a) ts || goes_on a ts
goes_on (many a) ts = begins (first a) ts || goes_on a ts
goes_on (unless j k a) ts = enters j k (first a) ts || goes_on a ts
goes_on (made f a) ts = goes_on a ts
goes_on (node f a) ts = goes_on a ts

-- a rule may spell something by a single token of a kind, and the kinds that may be second behind
-- it
abbrev pub alone : {X : Type 0} → Kind → Rule X → Bool
alone j (one k) = same_kind k j
alone j (a ▸ b) = (alone j a && is_empty b) || (is_empty a && alone j b)
alone j (a or b) = alone j a || alone j b
alone j (maybe a) = alone j a
alone j (many a) = alone j a
alone j (unless _ _ a) = alone j a
alone j (made f a) = alone j a
alone j (node f a) = alone j a

abbrev pub seconds : {X : Type 0} → Kind → Rule X → List Kind
seconds j (one k) = []
seconds j (a ▸ b) = seconds j a ++
    (cond (alone j a) (first b) [] ++ cond (is_empty a) (seconds j b) [])
seconds j (a or b) = seconds j a ++ seconds j b
seconds j (maybe a) = seconds j a
seconds j (many a) = seconds j a ++ cond (alone j a) (first a) []
seconds j (unless _ _ a) = seconds j a
seconds j (made f a) = seconds j a
seconds j (node f a) = seconds j a

-- the kinds that decide how reading goes on
abbrev pub watched : {X : Type 0} → Rule X → List Kind
watched (one k) = []
watched (a ▸ b) = watched a ++ watched b
watched (a or b) = first a ++ (watched a ++ watched b)
watched (maybe a) = first a ++ watched a
watched (many a) = first a ++ watched a
watched (unless j k a) = (j ∷ k ∷ first a) ++ watched a
watched (made f a) = watched a
watched (node f a) = watched a

abbrev pub one_at : Kind → ℕ → List Lexeme → Outcome Lexeme
one_at k end [] = stuck k (record { end = end; rest = [] })
one_at k end (t ∷ ts) = cond (same_kind t.kind k) (got t (record { end = t.span.end; rest = ts }))
    (stuck k (record { end = end; rest = t ∷ ts }))

abbrev pub repeat : {A : Type 0} → List Kind → (State → Outcome A) → ℕ → State → Outcome (List A)
repeat ks f zero p = got [] p
repeat ks f (suc n) p =
    cond (begins ks p.rest) (f p >>= λ x q. repeat ks f n q >>= λ xs s. got (x ∷ xs) s) (got [] p)

-- with these before what is read
abbrev pub front : {A : Type 0} → List A → List A → State → Outcome (List A)
front xs ys p = got (xs ++ ys) p

abbrev pub read : {X : Type 0} → Rule X → State → Outcome X
read (one k) p = one_at k p.end p.rest
read (a ▸ b) p = read a p >>= λ x q. read b q >>= λ y s. got (x, y) s
read (a or b) p = cond (begins (first a) p.rest) (read a p) (read b p)
read (maybe a) p = cond (begins (first a) p.rest) (read a p >>= λ x q. got (Some x) q) (got None p)
read (many a) p = repeat (first a) (read a) (length p.rest) p
read (unless j k a) p =
    cond (enters j k (first a) p.rest) (read a p >>= λ x q. got (Some x) q) (got None p)
read (made f a) p = read a p >>= λ x q. got (f x) q
read (node f a) p =
    read a p >>= λ x q. got (f x (record { start = start_of p.end p.rest; end = q.end })) q

-- no kind is in both
abbrev pub apart : List Kind → List Kind → Bool
apart [] ks = true
apart (j ∷ js) ks = cond (among j ks) false (apart js ks)

-- the kinds but this one; all are this one; not
abbrev pub others : Kind → List Kind → List Kind
others j [] = []
others j (i ∷ is) = cond (same_kind i j) (others j is) (i ∷ others j is)

abbrev pub all_are : Kind → List Kind → Bool
all_are k [] = true
all_are k (i ∷ is) = same_kind i k && all_are k is

abbrev pub no : Bool → Bool
no b = cond b false true

-- what b spells is never taken to go on with what a spells
abbrev pub clears : {X Y : Type 0} → Rule X → Rule Y → Bool
clears (one k) b = true
clears (a ▸ c) b = clears c b && cond (is_empty c) (clears a b) true
clears (a or c) b = clears a b && clears c b
clears (maybe a) b = apart (first a) (first b) && clears a b
clears (many a) b = apart (first a) (first b) && clears a b
clears (unless j k a) b =
    (apart (first a) (others j (first b)) && (no (alone j b) && all_are k (seconds j b)))
    && clears a b
clears (made f a) b = clears a b
clears (node f a) b = clears a b

-- no look at two tokens comes last
abbrev pub is_settled : {X : Type 0} → Rule X → Bool
is_settled (one k) = true
is_settled (a ▸ b) = is_settled b
is_settled (a or b) = is_settled a && is_settled b
is_settled (maybe a) = is_settled a
is_settled (many a) = true
is_settled (unless j k a) = false
is_settled (made f a) = is_settled a
is_settled (node f a) = is_settled a

-- where one comes last, its first kind is one of these
abbrev pub settles : {X : Type 0} → List Kind → Rule X → Bool
settles ks (one k) = true
settles ks (a ▸ b) = settles ks b
settles ks (a or b) = settles ks a && settles ks b
settles ks (maybe a) = settles ks a
settles ks (many a) = true
settles ks (unless j k a) = among j ks && settles ks a
settles ks (made f a) = settles ks a
settles ks (node f a) = settles ks a

-- the looks at the next tokens decide how to go on
abbrev pub is_plain : {X : Type 0} → Rule X → Bool
is_plain (one k) = true
is_plain (a ▸ b) = is_plain a && (is_plain b && (clears a b && is_settled a))
is_plain (a or b) = is_plain a &&
    (is_plain b && (apart (first a) (first b) &&
    (cond (is_empty a) false (cond (is_empty b) false true))))
is_plain (maybe a) = is_plain a && cond (is_empty a) false true
is_plain (many a) = is_plain a &&
    (cond (is_empty a) false true && (clears a a && settles (first a) a))
is_plain (unless j k a) = is_plain a &&
    (cond (is_empty a) false true && no (alone j a || among k (seconds j a)))
is_plain (made f a) = is_plain a
is_plain (node f a) = is_plain a && cond (is_empty a) false true
