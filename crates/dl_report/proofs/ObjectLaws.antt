-- Rows are told by their JSON objects.
use Rattle.dl_report.proofs.Common.{ℕ, ◌≡◌, ◌≢◌, ◌∙◌, ◌<◌, ◌^◌, false, List, [], ◌∷◌, ◌++◌, refl, sym, ap, ap₂, get_or, map, All, arith, codes, append_assoc, ne_eqb, append_cancel_left, All-head, All-tail, All-weaker, All-append, All-push, decimal, flat_map, ◌==◌, Fraction, end_text, fraction_text, json_of, row_object, with_commas, IsPlainByte, low_plain, IsPlain, Report, Row, inl, inr, cases_Bool, le-ltb, escape, escape_byte, FitsFrac}
use Rattle.dl_report.proofs.EndLaws.{decimal_plain, end_told, end_plain}
use Rattle.dl_report.proofs.Parting.{parted}
use Rattle.dl_report.proofs.RowLaws.{no_comma, same_row}

no_quote_mark : (text : List ℕ) → All IsPlainByte text → All (λ byte. byte ≢ 34) text
no_quote_mark text all = All-weaker IsPlainByte (λ byte. byte ≢ 34) (λ byte h. h.quote_mark) text all

-- a plain byte stands for itself
plain_escape : (byte : ℕ) → IsPlainByte byte → escape_byte byte ≡ byte ∷ []
unfolding escape_byte
plain_escape byte h =
    rw (
      ne_eqb byte 34 h.quote_mark,
      ne_eqb byte 92 h.backslash,
      other 8 (omega arith),
      other 12 (omega arith),
      other 10 (omega arith),
      other 13 (omega arith),
      other 9 (omega arith),
      le-ltb byte 32 (omega (arith, h.above)),
    ) refl
  where
    other : (k : ℕ) → k < 32 → (byte == k) ≡ false
    other k low = ne_eqb byte k (λ e. omega (arith, h.above))

plain_text : (text : List ℕ) → All IsPlainByte text → escape text ≡ text
plain_text [] all = refl
plain_text (byte ∷ rest) all =
    ap₂ (λ (x y : List ℕ). x ++ y) (plain_escape byte (All-head IsPlainByte byte rest all))
    (plain_text rest (All-tail IsPlainByte byte rest all))

object_layout : (ask high low rest : List ℕ)
    → codes "{\"ask\":" ++ (34 ∷ (ask ++ 34 ∷ [])) ++ codes ",\"high\":" ++ (34 ∷ (high ++ 34 ∷ []))
    ++ codes ",\"low\":"
    ++ (34 ∷ (low ++ 34 ∷ [])) ++ codes "}" ++ rest
    ≡ codes "{\"ask\":\"" ++ (ask ++ 34 ∷ (codes ",\"high\":\"" ++
    (high ++ 34 ∷ (codes ",\"low\":\"" ++ (low ++ 34 ∷ (codes "}" ++ rest))))))
object_layout ask high low rest = simp append_assoc refl

object_is : (d : ℕ) (row : Row) (rest : List ℕ) → IsPlain row
    → row_object d row ++ rest
    ≡ codes "{\"ask\":\"" ++ (row.ask ++ 34 ∷ (codes ",\"high\":\"" ++ (end_text d row.high
    ++ 34 ∷ (codes ",\"low\":\"" ++ (end_text d row.low ++ 34 ∷ (codes "}" ++ rest))))))
object_is d row rest h =
    let high = plain_text (end_text d row.high) (end_plain d row.high h.high) in
    let low = plain_text (end_text d row.low) (end_plain d row.low h.low) in
    rw (plain_text row.ask h.ask, high, low) (object_layout row.ask (end_text d row.high) (end_text d row.low) rest)

object_told : (d f : ℕ) (r s : Row) (x y : List ℕ) → IsPlain r → IsPlain s → row_object d r ++ x ≡ row_object f s ++ y
    → (r ≡ s) × (x ≡ y)
object_told d f r s x y p q e =
    let start = append_cancel_left (codes "{\"ask\":\"") _ _ (sym (object_is d r x p) ∙ e ∙ object_is f s y q) in
    let ask = parted 34 r.ask s.ask _ _ (no_quote_mark _ p.ask) (no_quote_mark _ q.ask) start in
    let high = parted 34 (end_text d r.high) (end_text f s.high) _ _ (no_quote_mark _ (end_plain d r.high p.high))
    (no_quote_mark _ (end_plain f s.high q.high)) (append_cancel_left (codes ",\"high\":\"") _ _ ask.1) in
    let low = parted 34 (end_text d r.low) (end_text f s.low) _ _ (no_quote_mark _ (end_plain d r.low p.low))
    (no_quote_mark _ (end_plain f s.low q.low)) (append_cancel_left (codes ",\"low\":\"") _ _ high.1) in (
      same_row r s ask.0 (end_told d f r.low s.low p.low q.low low.0) (end_told d f r.high s.high p.high q.high high.0),
      append_cancel_left (codes "}") x y low.1,
    )

-- the objects behind the first, and the end
abbrev more : ℕ → List Row → List ℕ
more d rows = flat_map (λ next. codes "," ++ next) (map (row_object d) rows) ++ codes "]}\n"

first_differs : (x y : List ℕ) → get_or x 0 0 ≢ get_or y 0 0 → x ≡ y → ⊥
first_differs x y h e = h (ap (λ t. get_or t 0 0) e)

more_told : (d f : ℕ) (a b : List Row) → All IsPlain a → All IsPlain b → more d a ≡ more f b → a ≡ b
more_told d f [] [] p q e = refl
more_told d f [] (s ∷ b) p q e = absurd (first_differs _ _ (λ h. omega (arith, h)) e)
more_told d f (r ∷ a) [] p q e = absurd (first_differs _ _ (λ h. omega (arith, h)) e)
more_told d f (r ∷ a) (s ∷ b) p q e =
    let behind = append_cancel_left (codes ",")
    ((row_object d r ++ flat_map (λ next. codes "," ++ next) (map (row_object d) a)) ++ codes "]}\n")
    ((row_object f s ++ flat_map (λ next. codes "," ++ next) (map (row_object f) b)) ++ codes "]}\n") e in
    let first = object_told d f r s (more d a) (more f b) (All-head IsPlain r a p) (All-head IsPlain s b q)
    (sym (append_assoc (row_object d r) _ (codes "]}\n")) ∙ behind ∙ append_assoc (row_object f s) _ (codes "]}\n")) in
    ap₂ (λ x xs. x ∷ xs) first.0 (more_told d f a b (All-tail IsPlain r a p) (All-tail IsPlain s b q) first.1)

objects_told : (d f : ℕ) (a b : List Row) → All IsPlain a → All IsPlain b
    → with_commas (map (row_object d) a) ++ codes "]}\n" ≡ with_commas (map (row_object f) b) ++ codes "]}\n" → a ≡ b
objects_told d f [] [] p q e = refl
objects_told d f [] (s ∷ b) p q e = absurd (first_differs _ _ (λ h. omega (arith, h)) e)
objects_told d f (r ∷ a) [] p q e = absurd (first_differs _ _ (λ h. omega (arith, h)) e)
objects_told d f (r ∷ a) (s ∷ b) p q e = more_told d f (r ∷ a) (s ∷ b) p q (ap (λ t. codes "," ++ t) e)

fraction_plain : (x : Fraction) → FitsFrac x → All IsPlainByte (fraction_text x)
unfolding fraction_text
fraction_plain x h =
    let num = decimal_plain x.num (omega (arith, h.num)) in
    let den = decimal_plain x.den (omega (arith, h.den)) in
    elim (cases_Bool (x.den == 1)) [
      | inl one ↦ rw one num
      | inr more ↦ rw more (All-append IsPlainByte (decimal x.num ++ codes "/") (decimal x.den)
          (All-push IsPlainByte (decimal x.num) 47 num (low_plain 47 (omega arith) (omega arith))) den)
    ]

report_layout : (bs cells rows : List ℕ)
    → codes "{\"bs\":" ++ (34 ∷ (bs ++ 34 ∷ [])) ++ codes ",\"cells\":" ++ cells ++ codes ",\"rows\":[" ++ rows
    ++ codes "]}\n"
    ≡ codes "{\"bs\":\"" ++ (bs ++ 34 ∷ (codes ",\"cells\":" ++
    (cells ++ 44 ∷ (codes "\"rows\":[" ++ (rows ++ codes "]}\n")))))
report_layout bs cells rows = simp append_assoc refl

report_is : (report : Report) (bs : Fraction) (cells : ℕ) → FitsFrac bs
    → json_of report bs cells
    ≡ codes "{\"bs\":\"" ++ (fraction_text bs ++ 34 ∷ (codes ",\"cells\":"
    ++ (decimal cells ++ 44 ∷ (codes "\"rows\":[" ++
    (with_commas (map (row_object report.digits) report.rows) ++ codes "]}\n")))))
report_is report bs cells h = rw (plain_text (fraction_text bs) (fraction_plain bs h))
    (report_layout (fraction_text bs) (decimal cells) (with_commas (map (row_object report.digits) report.rows)))

pub reports_told : (a b : Report) (x y : Fraction) (m n : ℕ) → FitsFrac x → FitsFrac y → m < 2 ^ 32 → n < 2 ^ 32
    → All IsPlain a.rows → All
    IsPlain b.rows
    → json_of a x m ≡ json_of b y n → a.rows ≡ b.rows
reports_told a b x y m n fits_x fits_y small_m small_n plain_a plain_b e =
    let start = append_cancel_left (codes "{\"bs\":\"") _ _
    (sym (report_is a x m fits_x) ∙ e ∙ report_is b y n fits_y) in
    let bs = parted 34 (fraction_text x) (fraction_text y) _ _ (no_quote_mark _ (fraction_plain x fits_x))
    (no_quote_mark _ (fraction_plain y fits_y)) start in
    let cells = parted 44 (decimal m) (decimal n) _ _ (no_comma _ (decimal_plain m (omega arith)))
    (no_comma _ (decimal_plain n (omega arith)))
    (append_cancel_left (codes ",\"cells\":") _ _ bs.1) in
    objects_told a.digits b.digits a.rows b.rows plain_a plain_b (append_cancel_left (codes "\"rows\":[") _ _ cells.1)
