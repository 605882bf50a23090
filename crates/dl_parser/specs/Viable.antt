-- How far the tokens of a text begin a program.
use Rattle.std.specs.Prelude.{◌≡◌, ℕ, ◌≤◌, List, [], ◌∷◌, ◌++◌, length, take, drop, All, Contains, ⊤}
use Rattle.dl_lexer.specs.declared.token.Keyword.TheVariants as words
use Rattle.dl_lexer.specs.declared.token.Kind.{Kind}
use Rattle.dl_lexer.specs.declared.token.Kind.TheVariants.{Word}
use Rattle.dl_ast.specs.declared.ast.Program.{Program}
use Rattle.dl_ast.specs.Prelude.{Lexeme, IsReal, Spells, program}
use Rattle.dl_parser.specs.declared.syntax.ParseFault.{ParseFault}
use Rattle.dl_parser.specs.declared.syntax.ParseFault.TheVariants as faults

-- with real tokens behind them these tokens spell a program
pub record Begins (ts : List Lexeme) : Type 0 where
  pub rest : List Lexeme
  pub real : All IsReal rest
  pub begun : Program
  pub spelled : Spells program begun (ts ++ rest)

-- the first k tokens begin some program
abbrev pub Viable : List Lexeme → ℕ → Type 0
Viable ts k = Begins (take k ts)

-- the tokens spell no program, and k is the greatest number of them that begin one
pub record Stops (ts : List Lexeme) (k : ℕ) : Type 0 where
  pub unspelled : (p : Program) → Spells program p ts → ⊥
  pub within : k ≤ length ts
  pub viable : Viable ts k
  pub greatest : (j : ℕ) → j ≤ length ts → Viable ts j → j ≤ k

-- the words of continuous severities
abbrev pub continuous : List Kind
continuous =
    Word words.Lognorm ∷ Word words.Gamma ∷ Word words.Expon ∷ Word words.Pareto
    ∷ Word words.Weibull ∷ Word words.Norm ∷ Word words.Uniform ∷ Word words.Beta
    ∷ Word words.Chistogram ∷ []

-- token k is the word of a continuous severity, and with dhistogram in its place a program could go
-- on
pub record IsContinuous (ts : List Lexeme) (k : ℕ) : Type 0 where
  pub word : Lexeme
  pub others : List Lexeme
  pub here : drop k ts ≡ word ∷ others
  pub continues : Contains continuous word.kind
  pub discrete : Lexeme
  pub dhistogram : discrete.kind ≡ Word words.Dhistogram
  pub real : IsReal discrete
  pub viable : Begins (take k ts ++ discrete ∷ [])

-- what a fault says of the tokens
abbrev pub IsRefused : List Lexeme → ParseFault → Type 0
IsRefused ts (faults.Syntax k) = Stops ts k × (IsContinuous ts k → ⊥)
IsRefused ts (faults.Continuous k) = Stops ts k × IsContinuous ts k
IsRefused ts faults.OutOfMemory = ⊤
