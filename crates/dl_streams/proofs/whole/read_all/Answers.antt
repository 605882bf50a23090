-- An error leaves the input as the bytes taken so far leave it.
use Rattle.std.proofs.Common.{◌≡◌, ◌∙◌, ℕ, ◌≤◌, ◌<◌, ◌+◌, List, [], Option, None, Some, length, arith, refl, rules, subst, sym}
use Rattle.std.specs.Io.KnownBytes.{Consumes}
use Rattle.std.proofs.lemmas.List.{append-nil, length-take}
use Rattle.dl_streams.specs.declared.whole.ReadEnd.TheVariants.{Fault}
use Rattle.dl_streams.specs.Steps.{Reads, all_gave, ended_by, unread, read_on}
use Rattle.dl_streams.proofs.Taken.{Consumes-Takes, Keeps-TakesAtMost, TakesAtMost-more}
use Rattle.dl_streams.proofs.whole.read_all.Goals as goal

pub returns-in_err-read_more-clause-before : goal.returns-in_err-read_more-clause-before
returns-in_err-read_more-clause-before g c = λ fault.
    let same : c.in_err-read_more.field-0.0 ≡ Fault = search rules in
    TakesAtMost-more _ _ _ c.reading.bytes.items 0 _ c.reading.invariant.taken
    (Keeps-TakesAtMost _ _ 0 (c.in_err-read_more.ensures.kept (cc))) (omega arith)

pub returns-in_err-read_more-clause-failed : goal.returns-in_err-read_more-clause-failed
returns-in_err-read_more-clause-failed g c = λ fault.
    let same : c.in_err-read_more.field-0.0 ≡ Fault = search rules in
    let room = length-take c.min-room.result c.reading.chunk in
    let same_room = c.read_more.ensures.room in (
      c.reading.bytes.items,
      record {
        before = c.reading.src;
        buf = c.read_more.new.chunk;
        reads = c.reading.invariant.reads;
        room = omega (arith, room, same_room);
        within = omega (arith, room, same_room);
        last = c.in_err-read_more.ensures.failed (cc);
      },
    )

pub returns-then-branch-eq0-clause-ended : goal.returns-then-branch-eq0-clause-ended
returns-then-branch-eq0-clause-ended g c =
    let room = length-take c.min-room.result c.reading.chunk in
    let same_room = c.read_more.ensures.room in
    let given : c.read_more.new.bytes.items ≡ c.reading.bytes.items =
    rw (c.in_ok-read_more.ensures.given, c.if-branch-eq0.true, append-nil) refl in
    record {
      before = c.reading.src;
      buf = c.read_more.new.chunk;
      reads = rw given c.reading.invariant.reads;
      room = omega (arith, room, same_room);
      within = rw given (omega (arith, room, same_room));
      last = rw (← c.if-branch-eq0.true) c.in_ok-read_more.ensures.step;
    }

pub returns-then-branch-eq0-clause-end : goal.returns-then-branch-eq0-clause-end
returns-then-branch-eq0-clause-end g c =
    c.in_ok-read_more.ensures.end c.if-branch-eq0.true
    (omega (arith, length-take c.min-room.result c.reading.chunk))

pub returns-then-branch-eq0-clause-taken : goal.returns-then-branch-eq0-clause-taken
returns-then-branch-eq0-clause-taken g c =
    TakesAtMost-more _ _ _ c.reading.bytes.items _ _ c.reading.invariant.taken c.read_more.ensures.taken
    (omega (arith, length-take c.min-room.result c.reading.chunk))

pub returns-then-branch-eq0-clause-steady : goal.returns-then-branch-eq0-clause-steady
returns-then-branch-eq0-clause-steady g c = λ ok.
    c.in_ok-read_more.ensures.steady (λ e. absurd (cc)) ∙ c.reading.invariant.steady

pub returns-clause-full : goal.returns-clause-full
returns-clause-full g c = λ full.
    (c.reading.bytes.items, omega arith, c.reading.invariant.reads)

pub returns-clause-too_long : goal.returns-clause-too_long
returns-clause-too_long g c = λ full.
    let whole : c.args.limit + 1 ≡ length c.reading.bytes.items = omega arith in
    rw whole (Consumes-Takes _ _ c.reading.bytes.items c.reading.invariant.taken)

pub returns-in_err-read_more-clause-taken : goal.returns-in_err-read_more-clause-taken
returns-in_err-read_more-clause-taken g c =
    TakesAtMost-more _ _ _ c.reading.bytes.items _ _ c.reading.invariant.taken c.read_more.ensures.taken
    (omega (arith, length-take c.min-room.result c.reading.chunk))

Consumes-nil : (left : Option (List ℕ)) (bytes : List ℕ) → bytes ≡ [] → Consumes left left bytes
Consumes-nil None bytes e = tt
Consumes-nil (Some left) bytes e = rw e refl

pub reading-init : goal.reading-init
reading-init g c = record {
  within = omega (arith, c.new-bytes.ensures.len);
  taken = Consumes-nil _ _ c.new-bytes.ensures.items;
  reads = subst (λ bytes. Reads g.R.Source.read_step c.args.src.now (c.args.limit + 1) bytes c.args.src.now)
      (sym c.new-bytes.ensures.items) unread;
  steady = refl;
}

pub reading-preserved : goal.reading-preserved
reading-preserved g c =
    let n = c.in_ok-read_more.field-0 in
    let some : 0 < n = omega arith in
    let fits : length c.reading.bytes.items + length c.read_more.new.chunk ≤ c.args.limit + 1 =
    omega (arith, c.read_more.ensures.room, length-take c.min-room.result c.reading.chunk) in
    record {
      within = omega (
        arith,
        c.in_ok-read_more.ensures.count,
        c.in_ok-read_more.ensures.bound,
        length-take c.min-room.result c.reading.chunk,
      );
      taken = c.in_ok-read_more.ensures.bytes _ c.reading.invariant.taken;
      reads = subst (λ bytes. Reads g.R.Source.read_step c.args.src.now (c.args.limit + 1) bytes c.read_more.new.src)
          (sym {A = List ℕ} c.in_ok-read_more.ensures.given)
          (read_on c.reading.bytes.items c.read_more.new.chunk n c.reading.src c.read_more.new.src
          c.reading.invariant.reads c.in_ok-read_more.ensures.step some fits);
      steady = c.in_ok-read_more.ensures.steady (λ e. absurd (cc)) ∙ c.reading.invariant.steady;
    }

-- one more read, whatever it answered, was the last
pub returns-in_err-read_more-clause-reading : goal.returns-in_err-read_more-clause-reading
returns-in_err-read_more-clause-reading g c =
    let room = length-take c.min-room.result c.reading.chunk in
    let same_room = c.read_more.ensures.room in
    let (answer, step) = c.read_more.ensures.called in
    ended_by c.reading.bytes.items answer _ record {
      before = c.reading.src;
      buf = c.read_more.new.chunk;
      reads = c.reading.invariant.reads;
      room = omega (arith, room, same_room);
      within = omega (arith, room, same_room);
      last = step;
    }

pub returns-then-branch-eq0-clause-reading : goal.returns-then-branch-eq0-clause-reading
returns-then-branch-eq0-clause-reading g c = ended_by _ _ _ (returns-then-branch-eq0-clause-ended g c)

pub returns-clause-reading : goal.returns-clause-reading
returns-clause-reading g c = all_gave _ _ c.reading.invariant.reads
