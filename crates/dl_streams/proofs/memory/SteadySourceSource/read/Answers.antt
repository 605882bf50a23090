-- The bytes given and the bytes left are the bytes that were left.
use Rattle.std.proofs.Common.{◌≡◌, ℕ, ◌+◌, ◌-◌, ◌<◌, ◌≤◌, length, List, [], ◌++◌, take, drop, arith, refl, length-drop, length-append, min}
use Rattle.std.proofs.lemmas.List.{take-append-drop, drop-drop, take_at, length-take, drop_all}
use Rattle.dl_streams.proofs.memory.SteadySourceSource.read.Goals as goal

-- the part handed over, and then what is left
handed : (xs sub rest : List ℕ) (at n m : ℕ) → at + n ≤ length xs → m ≡ n → sub ≡ take m (drop at xs)
    → drop at xs ≡ take n (sub ++ rest) ++ drop (at + n) xs
handed xs sub rest at n m fits same e =
    let part : length sub ≡ n = rw (e, same) (omega (arith, length-take n (drop at xs), length-drop at xs)) in
    rw (take_at sub rest n part, e, same, ← drop-drop n at xs, take-append-drop) refl

-- nothing was handed over into a buffer with room: nothing is left
ended : (xs : List ℕ) (at n piece room : ℕ) → n ≡ min (min piece room) (length xs - at) → 0 < piece → 0 < room → n ≡ 0
    → drop (at + n) xs ≡ []
ended xs at n piece room e moves has_room none = drop_all (at + n) xs (omega arith)

-- a buffer that has room now had room before
had_room : (sub buf : List ℕ) (n : ℕ) → length sub ≤ length buf → 0 < length (sub ++ drop n buf) → 0 < length buf
had_room sub buf n fits h = omega (arith, length-append sub (drop n buf), length-drop n buf)

pub returns-clause-bytes : goal.returns-clause-bytes
returns-clause-bytes c =
    let at : ℕ = c.self.inside.at in
    let xs : List ℕ = c.self.inside.bytes.items in
    let n : ℕ = c.min-count.result in
    let room : ℕ = length c.args.buf.now in
    let count : n ≡ min (min c.self.inside.piece room) (length xs - at) =
    omega (arith, c.len.ensures, c.min.ensures, c.min-count.ensures) in
    let part : c.copy_from_slice.new.self ≡ take (at + n - at) (drop at xs) =
    rw (← c.deref.ensures.value) c.copy_from_slice.ensures.after in
    rw (← c.self.view_is) (
      handed xs _ _ at n (at + n - at) (omega arith) (omega arith) part,
      λ none has_room. ended xs at n _ room count (omega arith)
          (had_room c.copy_from_slice.new.self c.args.buf.now n
          (omega (arith, c.copy_from_slice.ensures.len, length-take n c.args.buf.now)) has_room) none,
    )
