-- Two pieces written one after the other are one piece.
use Rattle.std.proofs.Common.{◌≡◌, ℕ, ◌+◌, ◌-◌, length, List, take, drop, arith, Option, None, Some, take-add, append_assoc, length-drop, refl}
use Rattle.std.specs.Io.KnownBytes.{Appends}
use Rattle.dl_streams.specs.Steps.{unwritten, write_on}
use Rattle.std.proofs.lemmas.List.{take_all}
use Rattle.dl_streams.proofs.Appended.{appends_nothing}
use Rattle.dl_streams.proofs.whole.write_all.Goals as goal

-- two pieces that follow each other are one
Appends-take : (before mid after : Option (List ℕ)) (xs : List ℕ) (i n : ℕ)
    → Appends before mid (take i xs) → Appends mid after (take n (drop i xs)) → Appends before after (take (i + n) xs)
Appends-take None mid after xs i n p q = tt
Appends-take (Some a) None after xs i n p q = absurd p
Appends-take (Some a) (Some b) None xs i n p q = absurd q
Appends-take (Some a) (Some b) (Some c) xs i n p q =
    rw (q, p, take-add i n xs) (append_assoc a (take i xs) (take n (drop i xs)))

-- `&xs[i..]` is what follows
rest_of : (xs : List ℕ) (i : ℕ) → take (length xs - i) (drop i xs) ≡ drop i xs
rest_of xs i = take_all _ _ (omega (arith, length-drop i xs))

-- a write that failed is told as a fault, so there is nothing that a success says
pub returns-in-Err-clause-whole : goal.returns-in-Err-clause-whole
returns-in-Err-clause-whole g c = tt

pub returns-in-Err-clause-offered : goal.returns-in-Err-clause-offered
returns-in-Err-clause-offered g c = tt

pub returns-in-Err-clause-steady : goal.returns-in-Err-clause-steady
returns-in-Err-clause-steady g c = tt

pub writing-init : goal.writing-init
writing-init g c = record {
  within = omega arith;
  written = appends_nothing _;
  offered = unwritten;
  unused = λ none. refl;
  steady = refl;
}

pub writing-preserved : goal.writing-preserved
writing-preserved g c =
    let piece = rw (rest_of c.args.bytes.now c.writing.done) at c.in-Ok.ensures.bytes in
    let bound = rw (rest_of c.args.bytes.now c.writing.done) at c.in-Ok.ensures.bound in
    let step = rw (rest_of c.args.bytes.now c.writing.done) at c.in-Ok.ensures.step in
    record {
      within = omega (arith, length-drop c.writing.done c.args.bytes.now);
      written = Appends-take _ _ _ c.args.bytes.now c.writing.done c.in-Ok.count c.writing.invariant.written piece;
      offered = write_on c.writing.done c.in-Ok.count _ _ c.writing.invariant.offered (omega arith) step;
      unused = λ none. absurd (omega arith);
      steady = omega (arith, c.in-Ok.ensures.steady);
    }

pub returns-in-Err-clause-failed : goal.returns-in-Err-clause-failed
returns-in-Err-clause-failed g c = record {
  before = c.writing.sink;
  done = c.writing.done;
  failure = _;
  writes = c.writing.invariant.offered;
  some_left = c.writing-test.true;
  last = rw (rest_of c.args.bytes.now c.writing.done) at c.in-Err.ensures.step;
}
