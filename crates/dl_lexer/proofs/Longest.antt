-- The longest start of some bytes that is spelled in a way.
use Rattle.dl_lexer.proofs.Common.{ℕ, ◌≤◌, ◌⊎◌, List, length, take, max, inl, inr, arith, IsLongest}

-- a bound on either kind is one on both
pub either : {A B : Type 0} {C : Type 0} → A ⊎ B → (A → C) → (B → C) → C
either (inl a) f g = f a
either (inr b) f g = g b

-- the longer of two is the longest of either kind
pub longest_either : (P Q R : List ℕ → Type 0) (bytes : List ℕ) (m n : ℕ) → ((bs : List ℕ) → P bs → R bs)
    → ((bs : List ℕ) → Q bs → R bs)
    → ((bs : List ℕ) → R bs → P bs ⊎ Q bs) → IsLongest P bytes m → IsLongest Q bytes n → IsLongest R bytes (max m n)
longest_either P Q R bytes m n left right parts p q = grind (arith, either)

-- nothing that is spelled so begins the bytes
pub longest_none : (P : List ℕ → Type 0) (bytes : List ℕ) → ((m : ℕ) → m ≤ length bytes → P (take m bytes) → ⊥)
    → IsLongest P bytes 0
longest_none P bytes none = grind arith
