-- The cutting of a text goes one way only: a text has at most one cover up to any place, and at most one bad place.
use Rattle.dl_lexer.proofs.Common.{ℕ, zero, suc, ◌≡◌, ◌∙◌, ◌+◌, ◌<◌, ◌≤◌, List, [], ◌∷◌, ◌++◌, length, take, drop, refl, sym, ap, arith, append_assoc, subst, append-nil, Kind, Token, IsSpelled, IsToken, IsLongest, NoToken, blank_length, token_of, Covers, nothing, blank, token, IsBad, cases_lt}
use Rattle.dl_lexer.proofs.Longest.{either}
use Rattle.dl_lexer.proofs.TokenKinds.{kind_one, token_some}

-- from a place on, blanks and these tokens reach the end
data Run (bytes : List ℕ) (end : ℕ) : ℕ → List Token → Type 0 where
  done : (at : ℕ) → at ≡ end → Run bytes end at []
  blank_then : (at : ℕ) (tokens : List Token) → 0 < blank_length (drop at bytes) → NoToken (drop at bytes)
      → Run bytes end (at + blank_length (drop at bytes)) tokens
      → Run bytes end at tokens
  token_then : (at n : ℕ) (kind : Kind) (tokens : List Token) → IsSpelled kind (take n (drop at bytes))
      → IsLongest IsToken (drop at bytes) n → Run bytes end (at + n) tokens
      → Run bytes end at (token_of kind at n ∷ tokens)

join : (bytes : List ℕ) (end at : ℕ) (ts us : List Token) → Covers bytes at ts → Run bytes end at us
    → Run bytes end 0 (ts ++ us)
join bytes end at ts us nothing r = r
join bytes end at ts us (blank from tokens c some none) r =
    join bytes end from tokens us c (blank_then from us some none r)
join bytes end at ts us (token from n kind tokens c spelled longest) r =
    subst (λ all. Run bytes end 0 all) (sym (append_assoc tokens (token_of kind from n ∷ []) us))
    (join bytes end from tokens (token_of kind from n ∷ us) c (token_then from n kind us spelled longest r))

run_of : (bytes : List ℕ) (end : ℕ) (ts : List Token) → Covers bytes end ts → Run bytes end 0 ts
run_of bytes end ts c = subst (λ all. Run bytes end 0 all) (append-nil ts) (join bytes end end ts [] c (done end refl))

-- a token takes at least one byte
pub token_takes : (kind : Kind) (n : ℕ) (bytes : List ℕ) → IsSpelled kind (take n bytes) → 0 < n
token_takes kind zero bytes t = absurd (token_some kind t)
token_takes kind (suc n) bytes t = omega arith

-- where no token begins none stands
none_stands : (kind : Kind) (n : ℕ) (bytes : List ℕ) → NoToken bytes → IsLongest IsToken bytes n
    → IsSpelled kind (take n bytes) → ⊥
none_stands kind n bytes none longest t = grind (arith, token_takes kind n bytes t)

run_le : (bytes : List ℕ) (end at : ℕ) (ts : List Token) → Run bytes end at ts → at ≤ end
run_le bytes end at ts (done from e) = omega arith
run_le bytes end at ts (blank_then from tokens some none r) =
    let more = run_le bytes end (from + blank_length (drop from bytes)) tokens r in omega arith
run_le bytes end at ts (token_then from n kind tokens t longest r) = grind (arith, run_le bytes end (from + n) tokens r)

-- a run that has reached its end has no tokens left
run_stays : (bytes : List ℕ) (end at : ℕ) (ts : List Token) → Run bytes end at ts → end ≤ at → ts ≡ []
run_stays bytes end at ts (done from e) h = refl
run_stays bytes end at ts (blank_then from tokens some none r) h =
    let more = run_le bytes end (from + blank_length (drop from bytes)) tokens r in absurd (omega arith)
run_stays bytes end at ts (token_then from n kind tokens t longest r) h =
    grind (arith, run_le bytes end (from + n) tokens r, token_takes kind n (drop from bytes) t)

-- what is left of a longer run, behind a shorter one from the same place
record Rest (bytes : List ℕ) (end far : ℕ) (ts us : List Token) : Type 0 where
  pub tokens : List Token
  pub run : Run bytes far end tokens
  pub all : us ≡ ts ++ tokens

same_length : (bytes : List ℕ) (j k : Kind) (m n : ℕ) → IsLongest IsToken bytes m → IsSpelled j (take m bytes)
    → IsLongest IsToken bytes n → IsSpelled k (take n bytes) → n ≡ m
same_length bytes j k m n a s b t = grind arith

rest : (bytes : List ℕ) (end far at : ℕ) (ts us : List Token) → end ≤ far → Run bytes end at ts → Run bytes far at us
    → Rest bytes end far ts us
rest bytes end far at ts us h (done from e) r = grind arith
rest bytes end far at ts us h (blank_then from tokens some none r) (done _ e) =
    let more = run_le bytes end (from + blank_length (drop from bytes)) tokens r in absurd (omega arith)
rest bytes end far at ts us h (blank_then from tokens some none r) (blank_then _ others _ _ q) =
    rest bytes end far (from + blank_length (drop from bytes)) tokens others h r q
rest bytes end far at ts us h (blank_then from tokens some none r) (token_then _ n kind others t longest q) =
    absurd (none_stands kind n (drop from bytes) none longest t)
rest bytes end far at ts us h (token_then from n kind tokens t longest r) (done _ e) =
    grind (arith, run_le bytes end (from + n) tokens r, token_takes kind n (drop from bytes) t)
rest bytes end far at ts us h (token_then from n kind tokens t longest r) (blank_then _ others some none q) =
    absurd (none_stands kind n (drop from bytes) none longest t)
rest bytes end far at ts us h (token_then from n kind tokens t longest r) (token_then _ m other others s most q) =
    let count : m ≡ n = same_length (drop from bytes) kind other n m longest t most s in
    let alike : kind ≡ other = kind_one kind other (take n (drop from bytes)) t
    (subst (λ k. IsSpelled other (take k (drop from bytes))) count s) in
    let later = rest bytes end far (from + n) tokens others h r
    (subst (λ k. Run bytes far (from + k) others) count q) in
    record {
      tokens = later.tokens;
      run = later.run;
      all = same_token from m n other kind others (tokens ++ later.tokens) count (sym alike) later.all;
    }
  where
    same_token : (from m n : ℕ) (j k : Kind) (vs ws : List Token) → m ≡ n → j ≡ k → vs ≡ ws
        → token_of j from m ∷ vs ≡ token_of k from n ∷ ws
    same_token from m n j k vs ws count alike e = cc

-- a text has at most one cover up to any place
pub cover_one : (bytes : List ℕ) (end : ℕ) (a b : List Token) → Covers bytes end a → Covers bytes end b → a ≡ b
cover_one bytes end a b c d =
    let left = rest bytes end end 0 a b (omega arith) (run_of bytes end a c) (run_of bytes end b d) in
    let none : left.tokens ≡ [] = run_stays bytes end end left.tokens left.run (omega arith) in
    sym (left.all ∙ ap (λ more. a ++ more) none ∙ append-nil a)

-- no run leaves a bad place
bad_stops : (bytes : List ℕ) (end at : ℕ) (ts : List Token) → blank_length (drop at bytes) ≡ 0
    → NoToken (drop at bytes) → Run bytes end at ts → end ≤ at
bad_stops bytes end at ts no_blank no_token (done from e) = omega arith
bad_stops bytes end at ts no_blank no_token (blank_then from tokens some none r) = absurd (omega arith)
bad_stops bytes end at ts no_blank no_token (token_then from n kind tokens t longest r) =
    absurd (none_stands kind n (drop from bytes) no_token longest t)

-- no cover reaches behind a bad place
pub bad_last : (bytes : List ℕ) (at end : ℕ) (tokens : List Token) → IsBad bytes at → Covers bytes end tokens → end ≤ at
bad_last bytes at end tokens bad c = either (cases_lt at end)
    (λ lt. let left = rest bytes at end 0 bad.tokens tokens (omega arith) (run_of bytes at bad.tokens bad.reached)
    (run_of bytes end tokens c) in
    bad_stops bytes end at left.tokens bad.no_blank bad.no_token left.run)
    (λ ge. ge)

pub bad_one : (bytes : List ℕ) (a b : ℕ) → IsBad bytes a → IsBad bytes b → a ≡ b
bad_one bytes a b p q = grind (arith, bad_last bytes a b q.tokens p q.reached, bad_last bytes b a p.tokens q p.reached)

pub covered_not_bad : (bytes : List ℕ) (tokens : List Token) (at : ℕ) → Covers bytes (length bytes) tokens
    → IsBad bytes at → ⊥
covered_not_bad bytes tokens at c bad =
    let most : length bytes ≤ at = bad_last bytes at (length bytes) tokens bad c in omega (arith, bad.within)
