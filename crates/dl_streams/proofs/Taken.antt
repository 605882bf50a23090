-- What was taken from a source so far, as lists of bytes and as numbers.
use Rattle.std.proofs.Common.{ℕ, ◌≡◌, ◌+◌, ◌≤◌, ◌++◌, List, length, take, drop, append_assoc, Option, None, Some, arith, sym, ◌∙◌, ap, length-append}
use Rattle.std.proofs.Math.Seq.{drop-append_seam}
use Rattle.std.proofs.lemmas.List.{drop-drop, length-take}
use Rattle.std.specs.Io.KnownBytes.{Consumes, Keeps}
use Rattle.dl_streams.specs.Bytes.{Takes, TakesAtMost}

-- bytes that were taken are counted by their length
pub Consumes-Takes : (before after : Option (List ℕ)) (bytes : List ℕ) → Consumes before after bytes
    → Takes before after (length bytes)
Consumes-Takes None after bytes h = tt
Consumes-Takes (Some left) None bytes h = absurd h
Consumes-Takes (Some left) (Some rest) bytes h =
    (rw (h, length-append) (omega arith), rw h (sym (drop-append_seam bytes rest)))

-- a call that keeps the bytes takes none
pub Keeps-TakesAtMost : (before after : Option (List ℕ)) (most : ℕ) → Keeps before after → TakesAtMost before after most
Keeps-TakesAtMost None after most h = (0, omega arith, tt)
Keeps-TakesAtMost (Some left) None most h = absurd h
Keeps-TakesAtMost (Some left) (Some rest) most h = (0, omega arith, (omega arith, h))

-- a call that took some bytes of its buffer takes no more than it has room for
pub filled-TakesAtMost : (before after : Option (List ℕ)) (buf : List ℕ) (n most : ℕ) → Consumes before after (take n buf)
    → n ≤ length buf → length buf ≡ most → TakesAtMost before after most
filled-TakesAtMost before after buf n most h inside room =
    (length (take n buf), omega (arith, length-take n buf), Consumes-Takes before after (take n buf) h)

-- bytes taken, and others after them
pub Consumes-more : (before mid after : Option (List ℕ)) (xs ys all : List ℕ) → Consumes before mid xs → Consumes mid after ys
    → all ≡ xs ++ ys → Consumes before after all
Consumes-more None mid after xs ys all first second e = tt
Consumes-more (Some left) None after xs ys all first second e = absurd first
Consumes-more (Some left) (Some mid) None xs ys all first second e = absurd second
Consumes-more (Some left) (Some mid) (Some rest) xs ys all first second e =
    rw (first, second, e) (sym (append_assoc xs ys rest))

-- bytes taken, and then some more
pub TakesAtMost-more : (before mid after : Option (List ℕ)) (bytes : List ℕ) (more most : ℕ)
    → Consumes before mid bytes → TakesAtMost mid after more → length bytes + more ≤ most
    → TakesAtMost before after most
TakesAtMost-more None mid after bytes more most taken then fits = (0, omega arith, tt)
TakesAtMost-more (Some left) None after bytes more most taken then fits = absurd taken
TakesAtMost-more (Some left) (Some mid) None bytes more most taken (n, below, then) fits = absurd then
TakesAtMost-more (Some left) (Some mid) (Some rest) bytes more most taken (n, below, then) fits =
    let first = Consumes-Takes (Some left) (Some mid) bytes taken in (
      length bytes + n,
      omega arith,
      (
        rw (taken, length-append) (omega (arith, then.0)),
        then.1
            ∙ (ap (drop n) first.1 ∙ drop-drop n (length bytes) left),
      ),
    )
