-- Rows are told by their lines, and by their records.
use Rattle.dl_report.proofs.Common.{ℕ, ◌≡◌, ◌≢◌, ◌∙◌, List, [], ◌∷◌, ◌++◌, refl, sym, ap, ap₂, length, All, arith, codes, append_assoc, length-append, false, ne_eqb, All-head, All-tail, All-weaker, flat_map, list_any, if◌then◌else◌, end_text, line, calls_for_quotes, doubled, field, row_record, IsPlainByte, IsPlain, Row, list_any_none}
use Rattle.dl_report.proofs.EndLaws.{end_told, end_plain}
use Rattle.dl_report.proofs.Parting.{parted}

-- plain bytes are none of these
pub no_blank : (text : List ℕ) → All IsPlainByte text → All (λ byte. byte ≢ 32) text
no_blank text all = All-weaker IsPlainByte (λ byte. byte ≢ 32) (λ byte h e. omega (arith, h.above)) text all

pub no_newline : (text : List ℕ) → All IsPlainByte text → All (λ byte. byte ≢ 10) text
no_newline text all = All-weaker IsPlainByte (λ byte. byte ≢ 10) (λ byte h e. omega (arith, h.above)) text all

pub no_comma : (text : List ℕ) → All IsPlainByte text → All (λ byte. byte ≢ 44) text
no_comma text all = All-weaker IsPlainByte (λ byte. byte ≢ 44) (λ byte h. h.comma) text all

-- two rows with the same parts
pub same_row : (r s : Row) → r.ask ≡ s.ask → r.low ≡ s.low → r.high ≡ s.high → r ≡ s
same_row r s ask low high = λ i. record { ask = ask i; low = low i; high = high i }

pub not_empty : (front rest : List ℕ) (byte : ℕ) → front ++ byte ∷ rest ≡ [] → ⊥
not_empty front rest byte e = omega (arith, ap length e, length-append front (byte ∷ rest))

-- the parts of a row with a separator between them, a newline, and what stands behind
abbrev pub spaced : ℕ → ℕ → Row → List ℕ → List ℕ
spaced c d row rest = row.ask ++ c ∷ (end_text d row.low ++ c ∷ (end_text d row.high ++ 10 ∷ rest))

-- a separator that is no plain byte
abbrev pub Separates : ℕ → Type 0
Separates c = (text : List ℕ) → All IsPlainByte text → All (λ byte. byte ≢ c) text

row_told : (c d f : ℕ) (r s : Row) (x y : List ℕ) → Separates c → IsPlain r → IsPlain s
    → spaced c d r x ≡ spaced c f s y → (r ≡ s) × (x ≡ y)
row_told c d f r s x y no_c p q e =
    let ask = parted c r.ask s.ask _ _ (no_c _ p.ask) (no_c _ q.ask) e in
    let low = parted c (end_text d r.low) (end_text f s.low) _ _ (no_c _ (end_plain d r.low p.low))
    (no_c _ (end_plain f s.low q.low)) ask.1 in
    let high = parted 10 (end_text d r.high) (end_text f s.high) x y (no_newline _ (end_plain d r.high p.high))
    (no_newline _ (end_plain f s.high q.high)) low.1 in (
      same_row r s ask.0 (end_told d f r.low s.low p.low q.low low.0)
          (end_told d f r.high s.high p.high q.high high.0),
      high.1,
    )

-- rows are told by what is written of each, where that is its parts with a separator between them
pub rows_told : (c : ℕ) (write : ℕ → Row → List ℕ) → Separates c
    → ((d : ℕ) (row : Row) (rest : List ℕ) → IsPlain row → write d row
    ++ rest ≡ spaced c d row rest)
    → (d f : ℕ) (a b : List Row) → All IsPlain a → All IsPlain b → flat_map (write d) a ≡ flat_map (write f) b → a ≡ b
rows_told c write no_c is d f [] [] p q e = refl
rows_told c write no_c is d f [] (s ∷ b) p q e = absurd
    (not_empty s.ask _ c (sym (is f s _ (All-head IsPlain s b q)) ∙ sym e))
rows_told c write no_c is d f (r ∷ a) [] p q e = absurd
    (not_empty r.ask _ c (sym (is d r _ (All-head IsPlain r a p)) ∙ e))
rows_told c write no_c is d f (r ∷ a) (s ∷ b) p q e =
    let plain_r = All-head IsPlain r a p in
    let plain_s = All-head IsPlain s b q in
    let first = row_told c d f r s (flat_map (write d) a) (flat_map (write f) b) no_c plain_r plain_s
    (sym (is d r _ plain_r) ∙ e ∙ is f s _ plain_s) in
    ap₂ (λ x xs. x ∷ xs) first.0 (rows_told c write no_c is d f a b (All-tail IsPlain r a p)
    (All-tail IsPlain s b q) first.1)

row_is : (c : ℕ) (ask low high rest : List ℕ) → ask ++ (c ∷ []) ++ low ++ (c ∷ []) ++ high ++ codes "\n" ++ rest
    ≡ ask ++ c ∷ (low ++ c ∷ (high ++ 10 ∷ rest))
row_is c ask low high rest = simp append_assoc refl

pub lines_told : (d f : ℕ) (a b : List Row) → All IsPlain a → All IsPlain b
    → flat_map (line d) a ≡ flat_map (line f) b → a ≡ b
lines_told = rows_told 32 line no_blank (λ d row rest _.
    row_is 32 row.ask (end_text d row.low) (end_text d row.high) rest)

-- a field of plain bytes needs no quote marks
plain_field : (text : List ℕ) → All IsPlainByte text → field text ≡ text
plain_field text all =
    let none : list_any calls_for_quotes text ≡ false = list_any_none calls_for_quotes text
    (All-weaker IsPlainByte (λ byte. calls_for_quotes byte ≡ false) needs_none text all) in
    ap (λ quoted. if quoted then 34 ∷ (doubled text ++ (34 ∷ [])) else text) none
  where
    needs_none : (byte : ℕ) → IsPlainByte byte → calls_for_quotes byte ≡ false
    needs_none byte h =
        rw (
          ne_eqb byte 44 h.comma,
          ne_eqb byte 34 h.quote_mark,
          ne_eqb byte 13 (λ e. omega (arith, h.above)),
          ne_eqb byte 10
              (λ e. omega (arith, h.above)),
        ) refl

plain_record : (d : ℕ) (row : Row) (rest : List ℕ) → IsPlain row → row_record d row ++ rest ≡ spaced 44 d row rest
plain_record d row rest h =
    rw (
      plain_field row.ask h.ask,
      plain_field (end_text d row.low) (end_plain d row.low h.low),
      plain_field (end_text d row.high)
          (end_plain d row.high h.high),
    )
    (row_is 44 row.ask (end_text d row.low) (end_text d row.high) rest)

pub records_told : (d f : ℕ) (a b : List Row) → All IsPlain a → All IsPlain b
    → flat_map (row_record d) a ≡ flat_map (row_record f) b → a ≡ b
records_told = rows_told 44 row_record no_comma plain_record
