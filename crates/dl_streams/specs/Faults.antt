-- Counts of calls and of faults: they never fall, and cling to the greatest `u64`.
use Rattle.std.specs.Prelude.{ℕ, ◌≡◌, ◌+◌, ◌-◌, ◌^◌, ◌≤◌, min, List, Contains, Result, MatchResult}

-- one more, or the greatest `u64`
abbrev pub next_count : ℕ → ℕ
next_count n = min (n + 1) (2 ^ 64 - 1)

-- the count of faults rose, or is at its greatest value
abbrev pub Rose : ℕ → ℕ → Type 0
Rose before now = next_count before ≤ now

-- of an object that fails on purpose: the numbers of the calls that fail, the number of calls so
-- far, and how many of them failed
pub record Calls : Type 0 where
  pub fails : List ℕ
  pub made : ℕ
  pub faults : ℕ

-- before the first call
abbrev pub no_calls : List ℕ → Calls
no_calls fails = record { fails = fails; made = 0; faults = 0 }

-- the next call is one of those that fail
abbrev pub FailsNext : Calls → Type 0
FailsNext calls = Contains calls.fails calls.made

-- after a call that succeeded
abbrev pub after_success : Calls → Calls
after_success calls = record calls { made = next_count calls.made }

-- after a call that failed
abbrev pub after_failure : Calls → Calls
after_failure calls = record calls {
  made = next_count calls.made;
  faults =
      next_count calls.faults;
}

-- the calls before and after one that gave this result
abbrev pub IsCounted : {A E : Type 0} → Result A E → Calls → Calls → Type 0
IsCounted result before after = MatchResult result (λ _. after ≡ after_success before)
    (λ _. after ≡ after_failure before)
