-- The bytes of some tokens, with what stands between them, are cut into just these tokens.
use Rattle.dl_printer.proofs.Common.{ℕ, ◌≡◌, ◌∙◌, ◌+◌, ◌<◌, List, [], ◌∷◌, ◌++◌, length, take, map, Bool, true, false, ◌||◌, refl, sym, ap, arith, subst, append_assoc, length-append, Option, Some, None, codes, IsSpelled, IsToken, Program, lexemes, Piece, program_pieces, is_tight_behind, gap, spaced, canonical, drop, cond, All, take-append_seam, drop-append_seam, append-nil, map-append, All-head, All-tail, Kind, Token, lexeme, IsWellFormed, is_tight_before, begins_line, between, Close, Colon, blank_no_token, ReadsBack}
use Rattle.dl_lexer.specs.Prelude.{is_white, IsLongest, Covers, blank_length, token_of, nothing, blank, token}
use Rattle.dl_lexer.specs.declared.token.Kind.TheVariants as kinds
use Rattle.dl_printer.proofs.Shown.{piece_of, pieces_of, IsPiece}
use Rattle.dl_printer.proofs.Ends.{Stops, is_stop, token_ends}
use Rattle.dl_printer.proofs.Nodes.{program_shown}

-- up to this place the text is cut into tokens that are these pieces
pub record Cut (bytes : List ℕ) (at : ℕ) (ps : List Piece) : Type 0 where
  pub tokens : List Token
  pub covers : Covers bytes at tokens
  pub shown : pieces_of (lexemes bytes tokens) ≡ ps

cut_as : (bytes : List ℕ) (a b : ℕ) (ps qs : List Piece) → a ≡ b → ps ≡ qs → Cut bytes a ps → Cut bytes b qs
cut_as bytes a b ps qs e f c = subst (λ n. Cut bytes n qs) e (subst (Cut bytes a) f c)

-- a blank

white_blank : (b : ℕ) (rest : List ℕ) → is_white b ≡ true → blank_length (b ∷ rest) ≡ 1
white_blank b rest h = rw h refl

blank_cut : (bytes front rest : List ℕ) (b : ℕ) (ps : List Piece) → is_white b ≡ true → bytes ≡ front ++ b ∷ rest
    → Cut bytes (length front) ps → Cut bytes (length front + 1) ps
blank_cut bytes front rest b ps white e c =
    let behind : drop (length front) bytes ≡ b ∷ rest = ap (drop (length front)) e
    ∙ drop-append_seam front (b ∷ rest) in
    let count : blank_length (drop (length front) bytes) ≡ 1 = ap blank_length behind ∙ white_blank b rest white in
    let some : 0 < blank_length (drop (length front) bytes) = omega arith in
    record {
      tokens = c.tokens;
      covers = subst (λ n. Covers bytes (length front + n) c.tokens) count
          (blank (length front) c.tokens c.covers some (blank_no_token (drop (length front) bytes) some));
      shown = c.shown;
    }

-- a token

-- the token that stands on n bytes from a place on, with its text
stands : (bytes text : List ℕ) (k : Kind) (at : ℕ) → take (length text) (drop at bytes) ≡ text
    → piece_of (lexeme bytes (token_of k at (length text))) ≡ record { kind = k; text = text }
stands bytes text k at e = grind arith

token_cut : (bytes front text rest : List ℕ) (k : Kind) (ps : List Piece) → bytes ≡ front ++ (text ++ rest)
    → IsSpelled k text
    → IsLongest IsToken (text ++ rest) (length text)
    → Cut bytes (length front) ps → Cut bytes (length front + length text) (ps ++ record { kind = k; text = text } ∷ [])
token_cut bytes front text rest k ps e spelled longest c =
    let behind : drop (length front) bytes ≡ text ++ rest = ap (drop (length front)) e
    ∙ drop-append_seam front (text ++ rest) in
    let here : take (length text) (drop (length front) bytes) ≡ text = ap (take (length text)) behind
    ∙ take-append_seam text rest in
    let t = token_of k (length front) (length text) in
    record {
      tokens = c.tokens ++ t ∷ [];
      covers = token (length front) (length text) k c.tokens c.covers (subst (IsSpelled k) (sym here) spelled)
          (subst (λ ys. IsLongest IsToken ys (length text)) (sym behind) longest);
      shown = ap (map piece_of) (map-append (lexeme bytes) c.tokens (t ∷ []))
          ∙ map-append piece_of (lexemes bytes c.tokens) (lexeme bytes t ∷ [])
          ∙ ap (λ qs. qs ++ piece_of (lexeme bytes t) ∷ []) c.shown
          ∙ ap (λ q. ps ++ q ∷ []) (stands bytes text k (length front) here);
    }

-- what stands before a token: nothing, or one blank
data IsGap (bytes : List ℕ) : Type 0 where
  no_byte : bytes ≡ [] → IsGap bytes
  one_byte : (b : ℕ) → is_white b ≡ true → bytes ≡ b ∷ [] → IsGap bytes

gap_is : (j : Option Kind) (k : Kind) → IsGap (gap j k)
unfolding gap between
gap_is None k = no_byte refl
gap_is (Some j) k = here (is_tight_behind j || is_tight_before k) (begins_line k)
  where
    here : (tight line : Bool) → IsGap (cond tight [] (cond line (codes "\n") (codes " ")))
    here true line = no_byte refl
    here false true = one_byte 10 refl refl
    here false false = one_byte 32 refl refl

gap_cut : (bytes front space after : List ℕ) (ps : List Piece) → IsGap space → bytes ≡ front ++ (space ++ after)
    → Cut bytes (length front) ps → Cut bytes (length (front ++ space)) ps
gap_cut bytes front space after ps (no_byte none) e c = grind (arith, append-nil front, cut_as)
gap_cut bytes front space after ps (one_byte b white one) e c =
    let size : length front + 1 ≡ length (front ++ space) = sym (length-append front (b ∷ []))
    ∙ ap (λ ys. length (front ++ ys)) (sym one) in
    cut_as bytes _ _ ps ps size refl (blank_cut bytes front after b ps white
    (e ∙ ap (λ ys. front ++ (ys ++ after)) one) c)

-- behind a token that is not tight a stop follows

sign_stops : (b : ℕ) (text rest : List ℕ) → text ≡ b ∷ [] → is_stop b ≡ true → Stops (text ++ rest)
sign_stops b text rest e stop = record { byte = b; more = rest; whole = ap (λ ys. ys ++ rest) e; stop = stop }

tight_stops : (k : Kind) (text rest : List ℕ) → IsSpelled k text → is_tight_before k ≡ true → Stops (text ++ rest)
tight_stops (kinds.Sign Close) text rest spelled tight = sign_stops 93 text rest spelled refl
tight_stops (kinds.Sign Colon) text rest spelled tight = sign_stops 58 text rest spelled refl
tight_stops _ text rest spelled tight = absurd cc

gap_stops : (j k : Kind) (text rest : List ℕ) → is_tight_behind j ≡ false → IsSpelled k text
    → Stops (between j k ++ (text ++ rest))
unfolding between
gap_stops j k text rest loose spelled = grind (arith, tight_stops)

follows : (k : Kind) (ps : List Piece) → All IsPiece ps → is_tight_behind k ≡ false
    → Stops (spaced (Some k) ps ++ codes "\n")
unfolding spaced gap
follows k [] real loose = record { byte = 10; more = []; whole = refl; stop = refl }
follows k (p ∷ ps) real loose =
    subst Stops (simp append_assoc) (gap_stops k p.kind p.text (spaced (Some p.kind) ps ++ codes "\n") loose
    (All-head IsPiece p ps real))

-- all of them
all_cut : (bytes front : List ℕ) (j : Option Kind) (done ps : List Piece) → All IsPiece ps
    → bytes ≡ front ++ (spaced j ps ++ codes "\n")
    → Cut bytes (length front) done
    → Cut bytes (length bytes) (done ++ ps)
unfolding spaced
all_cut bytes front j done [] real e c =
    let size : length front + 1 ≡ length bytes = sym (length-append front (codes "\n")) ∙ sym (ap length e) in
    cut_as bytes _ _ done (done ++ []) size (sym (append-nil done)) (blank_cut bytes front [] 10 done refl e c)
all_cut bytes front j done (p ∷ ps) real e c =
    let more : List ℕ = spaced (Some p.kind) ps ++ codes "\n" in
    let space : List ℕ = gap j p.kind in
    let spelled = All-head IsPiece p ps real in
    let others = All-tail IsPiece p ps real in
    let regroup : (space ++ p.text ++ spaced (Some p.kind) ps) ++ codes "\n" ≡ space ++ (p.text ++ more) =
    simp append_assoc in
    let first : bytes ≡ front ++ (space ++ (p.text ++ more)) = e ∙ ap (λ ys. front ++ ys) regroup in
    let second : bytes ≡ (front ++ space) ++ (p.text ++ more) = first
    ∙ sym (append_assoc front space (p.text ++ more)) in
    let third : bytes ≡ ((front ++ space) ++ p.text) ++ more = second
    ∙ sym (append_assoc (front ++ space) p.text more) in
    let behind = gap_cut bytes front space (p.text ++ more) done (gap_is j p.kind) first c in
    let longest = token_ends p.kind p.text more spelled (follows p.kind ps others) in
    let taken = token_cut bytes (front ++ space) p.text more p.kind done second spelled longest behind in
    let moved = cut_as bytes _ (length ((front ++ space) ++ p.text)) _ (done ++ p ∷ [])
    (sym (length-append (front ++ space) p.text)) refl taken in
    cut_as bytes _ _ _ (done ++ p ∷ ps) refl (append_assoc done (p ∷ []) ps)
    (all_cut bytes ((front ++ space) ++ p.text) (Some p.kind) (done ++ p ∷ []) ps others third moved)

-- so the canonical text reads back
pub reads_back : (p : Program) → IsWellFormed p → ReadsBack p
unfolding canonical
reads_back p w =
    let shown = program_shown p w in
    let cut = all_cut (canonical p) [] None [] (program_pieces p) shown.real refl
    (record { tokens = []; covers = nothing; shown = refl }) in
    let read = shown.shows (lexemes (canonical p) cut.tokens) cut.shown in
    record { tokens = cut.tokens; covered = cut.covers; read = read.value; spelled = read.spelled; same = read.same }
