-- The text of a report's JSON is that of the crate `serde_json`.
use Rattle.dl_report.proofs.Common.{◌≡◌, ◌∙◌, ℕ, true, false, refl, sym, ap, ap₂, List, [], ◌∷◌, ◌++◌, append_assoc, codes, map, ◌||◌, flat_map, quoted, items_of, compact_text, has_float, Fraction, end_text, fraction_text, json_of, row_object, with_commas, report_data, row_data, Report, Row, json_on_literals, items_have_float, items_text}
use Rattle.std.proofs.Common.{decimal}

no_floats : (d : ℕ) (rows : List Row) → items_have_float (items_of (map (row_data d) rows)) ≡ false
no_floats d [] = refl
no_floats d (row ∷ rows) = no_floats d rows

pub no_float : (bs : List ℕ) (cells d : ℕ) (rows : List Row)
    → has_float (report_data bs cells (items_of (map (row_data d) rows))) ≡ false
no_float bs cells d rows = ap (λ b. b || false) (no_floats d rows)

-- seven texts
glue : (a b c d e f g : List ℕ) → a ++ (b ++ (c ++ (d ++ (e ++ (f ++ g))))) ≡ a ++ b ++ c ++ d ++ e ++ f ++ g
glue a b c d e f g = simp append_assoc refl

row_text : (d : ℕ) (row : Row) → compact_text (row_data d row) ≡ row_object d row
unfolding json_on_literals
row_text d row = glue (codes "{\"ask\":") (quoted row.ask) (codes ",\"high\":") (quoted (end_text d row.high))
    (codes ",\"low\":")
    (quoted (end_text d row.low)) (codes "}")

more_text : (d : ℕ) (rows : List Row) → items_text true (items_of (map (row_data d) rows))
    ≡ flat_map (λ next. codes "," ++ next)
    (map (row_object d) rows) ++ codes "]"
more_text d [] = refl
more_text d (row ∷ rows) = ap₂ (λ (t u : List ℕ). 44 ∷ (t ++ u)) (row_text d row) (more_text d rows) ∙ sym
    (append_assoc (44 ∷ row_object d row) (flat_map (λ next. codes "," ++ next) (map (row_object d) rows)) (codes "]"))

rows_text : (d : ℕ) (rows : List Row) → items_text false (items_of (map (row_data d) rows))
    ≡ with_commas (map (row_object d) rows) ++ codes "]"
rows_text d [] = refl
rows_text d (row ∷ rows) = ap₂ (λ (t u : List ℕ). t ++ u) (row_text d row) (more_text d rows) ∙ sym
    (append_assoc (row_object d row) (flat_map (λ next. codes "," ++ next) (map (row_object d) rows)) (codes "]"))

-- the texts of a report, with a newline behind them
layout : (a b c d e f : List ℕ) → a ++ (b ++ (c ++ (d ++ (e ++ ((f ++ codes "]") ++ codes "}"))))) ++ codes "\n"
    ≡ a ++ b ++ c ++ d ++ e ++ f
    ++ codes "]}\n"
layout a b c d e f = simp append_assoc refl

pub report_text : (report : Report) (bs : Fraction) (cells : ℕ)
    → compact_text (report_data (fraction_text bs) cells (items_of (map (row_data report.digits) report.rows)))
    ++ codes "\n" ≡ json_of
    report bs cells
unfolding json_on_literals
report_text report bs cells =
    let rows : List ℕ = with_commas (map (row_object report.digits) report.rows) in
    let inner : compact_text (report_data (fraction_text bs) cells
    (items_of (map (row_data report.digits) report.rows)))
    ≡ codes "{\"bs\":" ++ (quoted (fraction_text bs) ++ (codes ",\"cells\":"
    ++ (decimal cells ++ (codes ",\"rows\":[" ++ ((rows ++ codes "]") ++ codes "}"))))) =
    ap (λ (r : List ℕ). codes "{\"bs\":" ++ (quoted (fraction_text bs) ++ (codes ",\"cells\":"
    ++ (decimal cells ++ (codes ",\"rows\":[" ++ (r ++ codes "}")))))) (rows_text report.digits report.rows) in
    ap (λ (t : List ℕ). t ++ codes "\n") inner ∙ layout (codes "{\"bs\":") (quoted (fraction_text bs))
    (codes ",\"cells\":") (decimal cells)
    (codes ",\"rows\":[") rows
