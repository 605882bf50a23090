-- A whole read and a whole write as rows of calls. A step says what one call did: the state before
-- it, its result, the bytes of its buffer or its piece, and the state after it.
use Rattle.std.specs.Prelude.{ℕ, ◌+◌, ◌<◌, ◌≤◌, List, [], ◌++◌, length, take, drop, Result, Ok, Err}

-- what one call may do
abbrev pub Step : Type 0 → Type 0 → Type 1
Step S E = S → Result ℕ E → List ℕ → S → Type 0

-- the reads so far gave these bytes, each of them some; and none had room for more than was left of
-- so many
pub data Reads {S E : Type 0} (step : Step S E) (start : S) (most : ℕ) : List ℕ → S → Type 0 where
  unread : Reads step start most [] start
  read_on : (bytes buf : List ℕ) (n : ℕ) (before after : S) → Reads step start most bytes before
      → step before (Ok n) buf after → 0 < n
      → length bytes + length buf ≤ most → Reads step start most (bytes ++ take n buf) after

-- after reads that gave these bytes, one more read with room for a byte had this result, and was
-- the last
pub record LastRead {S E : Type 0} (step : Step S E) (start : S) (most : ℕ) (bytes : List ℕ)
    (answer : Result ℕ E) (finish : S) : Type 0 where
  pub before : S
  pub buf : List ℕ
  pub reads : Reads step start most bytes before
  pub room : 0 < length buf
  pub within : length bytes + length buf ≤ most
  pub last : step before answer buf finish

-- one reading: reads of which each but the last gave some bytes, so that none follows one that
-- failed, or that had room and gave nothing; and none had room for more than was left of so many
pub data Reading {S E : Type 0} (step : Step S E) (start : S) (most : ℕ) : S → Type 0 where
  all_gave : (bytes : List ℕ) (finish : S) → Reads step start most bytes finish
      → Reading step start most finish
  ended_by : (bytes : List ℕ) (answer : Result ℕ E) (finish : S)
      → LastRead step start most bytes answer finish → Reading step start most finish

-- the writes so far took this many of the bytes, and each was offered all that were left, which
-- were some
pub data Writes {S E : Type 0} (step : Step S E) (start : S) (bytes : List ℕ) : ℕ → S → Type 0 where
  unwritten : Writes step start bytes 0 start
  write_on : (done n : ℕ) (before after : S) → Writes step start bytes done before
      → done < length bytes
      → step before (Ok n) (drop done bytes) after → Writes step start bytes (done + n) after

-- after such writes, one more that was offered all that were left failed, and was the last
pub record FailedWrite {S E : Type 0} (step : Step S E) (start : S) (bytes : List ℕ)
    (finish : S) : Type 0 where
  pub before : S
  pub done : ℕ
  pub failure : E
  pub writes : Writes step start bytes done before
  pub some_left : done < length bytes
  pub last : step before (Err failure) (drop done bytes) finish
