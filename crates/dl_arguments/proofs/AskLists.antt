-- The asks of texts as a loop reads them: those so far, and what the rest of the texts ask.
use Rattle.dl_arguments.proofs.Common.{◌≡◌, ◌∙◌, ℕ, suc, ◌+◌, ◌<◌, ◌≤◌, List, [], ◌∷◌, ◌++◌, length, map, drop, append_assoc, append-nil, Option, Some, None, Result, Ok, Err, arith, ap, option_map, Bor, Ask, Asked, ask_of, asks_of, with_ask, Rules, Text, add-one, drop-cons, get_or, drop_all}

-- so many asks, in front of what the rest ask
abbrev pub followed : List Asked → ℕ → Result (List Asked) ℕ → Result (List Asked) ℕ
followed asks n (Ok more) = Ok (asks ++ more)
followed asks n (Err i) = Err (n + i)

-- a text with what it asks, where it is an ask
abbrev pub asked_of : Text → Option Ask → Option Asked
asked_of text ask = option_map (λ a. record { text = text; ask = a }) ask

-- one more of them
one_more : (asks : List Asked) (n : ℕ) (text : Text) (ask : Option Ask) (asked : Asked) (rest : Result (List Asked) ℕ)
    → asked_of text ask ≡ Some asked
    → followed asks n (with_ask text ask rest) ≡ followed (asks ++ asked ∷ []) (suc n) rest
one_more asks n text None asked rest e = absurd (cc)
one_more asks n text (Some ask) asked (Err i) e = ap Err (omega arith)
one_more asks n text (Some ask) asked (Ok more) e = grind (arith, append_assoc asks (asked ∷ []) more)

misfit : (asks : List Asked) (n : ℕ) (text : Text) (ask : Option Ask) (rest : Result (List Asked) ℕ)
    → asked_of text ask ≡ None → followed asks n (with_ask text ask rest) ≡ Err n
misfit asks n text None rest e = ap Err (omega arith)
misfit asks n text (Some ask) rest e = absurd (cc)

-- texts that are lent
abbrev pub lent : List (Bor Text) → List Text
lent texts = map (λ text. text.now) texts

-- the texts so far ask these
abbrev pub SoFar : Rules → List (Bor Text) → ℕ → List Asked → Type 0
SoFar rules texts i asks = asks_of rules (lent texts) ≡ followed asks i (asks_of rules (lent (drop i texts)))

module _ (rules : Rules) (texts : List (Bor Text)) (i : ℕ) (asks : List Asked) (so_far : SoFar rules texts i asks) where
  read_on : (d : Bor Text) → i < length texts → asks_of rules (lent texts) ≡ followed asks i
      (with_ask (get_or texts i d).now (ask_of rules (get_or texts i d).now) (asks_of rules (lent (drop (suc i) texts))))
  unfolding asks_of
  read_on d h = so_far ∙ ap (λ rest. followed asks i (asks_of rules (lent rest))) (drop-cons texts i d h)

  pub lent_ask : (d : Bor Text) (asked : Asked) → i < length texts
      → asked_of (get_or texts i d).now (ask_of rules (get_or texts i d).now) ≡ Some asked
      → SoFar rules texts (i + 1) (asks ++ asked ∷ [])
  lent_ask d asked h e = read_on d h ∙ rw (add-one i) (one_more asks i _ _ asked _ e)

  pub lent_misfit : (d : Bor Text) → i < length texts
      → asked_of (get_or texts i d).now (ask_of rules (get_or texts i d).now) ≡ None → asks_of rules (lent texts) ≡ Err i
  lent_misfit d h e = read_on d h ∙ misfit asks i _ _ _ e

  pub all_read : length texts ≤ i → asks_of rules (lent texts) ≡ Ok asks
  unfolding asks_of
  all_read past = so_far ∙ ap (λ rest. followed asks i (asks_of rules (lent rest))) (drop_all i texts past) ∙ ap Ok (append-nil asks)
