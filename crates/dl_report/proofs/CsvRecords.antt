-- The text of a record of three fields is that of the crate `csv`.
use Rattle.dl_report.proofs.Common.{◌≡◌, ◌∙◌, ℕ, Bool, true, false, refl, ap, ap₂, List, [], ◌∷◌, ◌++◌, append_assoc, ◌==◌, ◌||◌, if◌then◌else◌, list_any, row_text, calls_for_quotes, doubled, field, record_text, append-nil, eqb-true, default_writer, escaped, field_text, fields_text, is_blank, needs_byte, needs_quotes}

same_byte : (b : ℕ) → needs_byte default_writer b ≡ calls_for_quotes b
same_byte b = go (b == 44) (b == 34) (b == 13) (b == 10)
  where
    go : (p q r s : Bool) → (p || q || (r || s) || false || false) ≡ (p || (q || (r || s)))
    go true q r s = refl
    go false true r s = refl
    go false false true s = refl
    go false false false true = refl
    go false false false false = refl

same_need : (text : List ℕ) → needs_quotes default_writer text ≡ list_any calls_for_quotes text
same_need [] = refl
same_need (b ∷ rest) = ap₂ (λ x y. x || y) (same_byte b) (same_need rest)

same_escape : (text : List ℕ) → escaped default_writer text ≡ doubled text
unfolding escaped
same_escape [] = refl
same_escape (b ∷ rest) = ap (λ r. if b == 34 then 34 ∷ b ∷ r else b ∷ r) (same_escape rest) ∙ go (b == 34) refl
  where
    go : (x : Bool) → b == 34 ≡ x → (if b == 34 then 34 ∷ b ∷ doubled rest else b ∷ doubled rest) ≡ doubled (b ∷ rest)
    go true e = ap (λ y. if b == 34 then 34 ∷ y ∷ doubled rest else b ∷ doubled rest) (eqb-true b 34 e)
    go false e = rw e refl

same_field : (text : List ℕ) → field_text default_writer text ≡ field text
same_field text = ap₂ (λ b (t : List ℕ). if b then 34 ∷ (t ++ (34 ∷ [])) else text) (same_need text) (same_escape text)

layout : (a b c : List ℕ) → (a ++ (44 ∷ (b ++ (44 ∷ (c ++ []))))) ++ (10 ∷ [])
    ≡ a ++ (44 ∷ []) ++ b ++ (44 ∷ []) ++ c ++ (10 ∷ [])
layout a b c = simp (append_assoc, append-nil) refl

pub same_record : (a b c : List ℕ) → row_text default_writer (a ∷ b ∷ c ∷ []) ≡ record_text a b c
unfolding fields_text is_blank
same_record a b c = rw (same_field a, same_field b, same_field c) (layout (field a) (field b) (field c))
