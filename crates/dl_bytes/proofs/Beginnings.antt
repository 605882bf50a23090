-- Bytes begin with some others exactly where the first of them are these.
use Rattle.dl_bytes.proofs.Common.{ℕ, ◌≡◌, List, ◌++◌, length, take, drop, true, false, arith}
use Rattle.std.proofs.Common.{◌≢◌}
use Rattle.std.proofs.lemmas.List.{take-append-drop}
use Rattle.std.proofs.lemmas.Slice.Eq.{bytes_eq-Decides}
use Rattle.std.proofs.Math.Seq.{take-append_seam}
use Rattle.std.specs.Str.{bytes_eq}

pub begins_so : (front bytes text : List ℕ) → bytes_eq (take (length front) bytes) front ≡ true
    → text ≡ drop (length front) bytes → bytes ≡ front ++ text
begins_so front bytes text same rest =
    grind (arith, bytes_eq-Decides (take (length front) bytes) front, take-append-drop (length front) bytes)

pub begins_otherwise : (front bytes : List ℕ) → bytes_eq (take (length front) bytes) front ≡ false → (text : List ℕ)
    → bytes ≢ front ++ text
begins_otherwise front bytes differ text e =
    grind (arith, take-append_seam front text, bytes_eq-Decides (take (length front) bytes) front)
