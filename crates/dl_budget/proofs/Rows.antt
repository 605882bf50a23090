-- Pairs of pairs, whose parts stand one under the other.

infixr 3 ◌also◌
pub ◌also◌ : {A B : Type 0} → A → B → A × B
a also b = (a, b)
