-- A text that is not a word.
use Rattle.dl_arguments.proofs.Common.{◌≡◌, false, bytes_eq, bytes_eq-Decides, Text, false_from_ne_true}

pub other : (head word : Text) → (head ≡ word → ⊥) → bytes_eq head word ≡ false
other head word differ = false_from_ne_true _ (λ same. differ ((bytes_eq-Decides head word).0 same))
