-- A parser takes tokens, its choices, and its loops.
use Rattle.dl_parser.proofs.Common.{◌≡◌, ◌<◌, true, false, cond, length, map, length-map, Rule, many, ◌or◌, got, begins, first, is_empty, is_plain, read, lexeme, state, and_parts, Result, Ok, Err, ReadsBy, Parser, Stop, Wanted, OutOfMemory}
use Rattle.dl_parser.proofs.ReadsBack.{is_no}
use Rattle.dl_parser.proofs.Stopped.{less}

pub fewer_tokens : {A : Type 0} (a : Rule A) → is_plain (many a) ≡ true → (p q : Parser) (x : A)
    → read a (state p) ≡ got x (state q) → length q.rest.now < length p.rest.now
fewer_tokens a ok p q x e =
    let i : (is_plain a ≡ true) × _ = and_parts _ _ ok in
    let j : (cond (is_empty a) false true ≡ true) × _ = and_parts _ _ i.1 in
    let lt : length (map (lexeme q.source.now) q.rest.now) < length (map (lexeme p.source.now) p.rest.now) =
    less a i.0 (is_no _ j.0) (state p) (state q) x e in
    simp length-map at lt

-- the next token tells which of two rules is read

pub or_first : {A : Type 0} (a b : Rule A) (p q : Parser) (r : Result A Stop) → begins (first a) (state p).rest ≡ true
    → ReadsBy a p q r → ReadsBy (a or b) p q r
or_first a b p q (Ok x) t h = rw t h
or_first a b p q (Err (Wanted k)) t h = rw t h
or_first a b p q (Err OutOfMemory) t h = h
