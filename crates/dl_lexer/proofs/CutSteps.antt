-- One step of the cutting: what stands at the front of the rest of a text goes on with its cover, or is a bad place.
use Rattle.dl_lexer.proofs.Common.{ℕ, ◌≡◌, ◌∙◌, ◌+◌, ◌-◌, ◌<◌, List, [], ◌∷◌, ◌++◌, length, take, drop, sym, ap, arith, subst, length-drop, Kind, Token, IsSpelled, IsToken, IsLongest, blank_length, token_of, Covers, blank, token, take_all}
use Rattle.dl_lexer.proofs.BlankLemmas.{blank_no_token}

pub blank_step : (source : List ℕ) (at n : ℕ) (tokens : List Token) → Covers source at tokens
    → n ≡ blank_length (take (length source - at) (drop at source)) → 0 < n → Covers source (at + n) tokens
blank_step source at n tokens c e some =
    let size : n ≡ blank_length (drop at source) = e
    ∙ ap blank_length (take_all (length source - at) (drop at source) (omega (arith, length-drop at source))) in
    let more : 0 < blank_length (drop at source) = omega arith in
    subst (λ k. Covers source (at + k) tokens) (sym size)
    (blank at tokens c more (blank_no_token (drop at source) more))

pub token_step : (source : List ℕ) (at n : ℕ) (kind : Kind) (tokens items : List Token) → Covers source at tokens
    → IsSpelled kind (take n (take (length source - at) (drop at source)))
    → IsLongest IsToken (take (length source - at) (drop at source)) n → items ≡ tokens ++ token_of kind at n ∷ []
    → Covers source (at + n) items
token_step source at n kind tokens items c t longest e =
    let spelled = subst (λ bytes. IsSpelled kind (take n bytes))
    (take_all (length source - at) (drop at source) (omega (arith, length-drop at source))) t in
    let most = subst (λ bytes. IsLongest IsToken bytes n)
    (take_all (length source - at) (drop at source) (omega (arith, length-drop at source))) longest in
    subst (λ all. Covers source (at + n) all) (sym e) (token at n kind tokens c spelled most)
