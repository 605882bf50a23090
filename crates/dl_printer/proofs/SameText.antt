-- The canonical tokens of a node do not depend on its spans.
use Rattle.dl_printer.proofs.Common.{◌≡◌, ◌∙◌, List, [], ◌∷◌, ◌++◌, map, Option, Some, None, codes, refl, sym, ap, flat_map, Program, Piece, numeral_piece, optional, behind_colon, word_piece, item_pieces, list_pieces, limit_pieces, layer_pieces, atom_pieces, weights_pieces, mixture_pieces, cost_pieces, sev_pieces, definition_pieces, zero_pieces, common_pieces, share_pieces, ceded_pieces, and_ceded_pieces, ceded_layers_pieces, clause_pieces, freq_pieces, exposure_pieces, listed_pieces, count_pieces, late_count_pieces, unit_pieces, head_pieces, program_pieces, spaced, canonical, option_map, Keyword, ListItem, ListAst, LimitAst, Finite, Infinite, Layer, Atom, MixAst, SevBody, Mixture, Ref, SevAst, SevDef, ZeroAst, Plain, PortHead, CountAst, Exposed, Listed, Share, CededLayer, Cession, FreqAst, Exposure, Claims, UnitAst, ap₂, bare_numeral, bare_item, bare_list, bare_limit, bare_layer, bare_atom, bare_mix, bare_body, bare_sev, bare_definition, bare_zero, bare_ceded, bare_cession, bare_freq, bare_exposure, bare_count, bare_unit, bare_head, bare, SameProgram, bare_share, Numeral, Whole, Fixed}
use Rattle.dl_lexer.specs.declared.token.Keyword.TheVariants as words

-- what holds of each holds of all, and of what may be left out

all_same : {A : Type 0} (f : A → List Piece) (g : A → A) → ((x : A) → f (g x) ≡ f x) → (xs : List A)
    → flat_map f (map g xs) ≡ flat_map f xs
all_same f g each [] = refl
all_same f g each (x ∷ xs) = rw (each x, all_same f g each xs) refl

option_same : {A : Type 0} (f : A → List Piece) (g : A → A) → ((x : A) → f (g x) ≡ f x) → (o : Option A)
    → optional f (option_map g o) ≡ optional f o
unfolding optional
option_same f g each None = refl
option_same f g each (Some x) = each x

-- the nodes

item_same : (i : ListItem) → item_pieces (bare_item i) ≡ item_pieces i
unfolding item_pieces
item_same i = rw (numbers i.to, numbers i.step) refl
  where
    numbers : (o : Option Numeral) → optional behind_colon (option_map bare_numeral o) ≡ optional behind_colon o
    numbers = option_same behind_colon bare_numeral (λ n. refl)

list_same : (l : ListAst) → list_pieces (bare_list l) ≡ list_pieces l
unfolding list_pieces
list_same l = simp (all_same item_pieces bare_item item_same l.items)

layer_same : (l : Layer) → layer_pieces (bare_layer l) ≡ layer_pieces l
unfolding layer_pieces limit_pieces
layer_same l = ap (λ ps. ps ++ word_piece words.Xs ++ numeral_piece l.attach) (limits l.limit)
  where
    limits : (limit : LimitAst) → limit_pieces (bare_limit limit) ≡ limit_pieces limit
    limits (Finite n) = refl
    limits Infinite = refl

atom_same : (a : Atom) → atom_pieces (bare_atom a) ≡ atom_pieces a
unfolding atom_pieces
atom_same a = simp (list_same a.values, option_same list_pieces bare_list list_same a.probs)

weights_same : (l : ListAst) → weights_pieces (bare_list l) ≡ weights_pieces l
weights_same l = rw (list_same l) refl

mixture_same : (m : MixAst) → mixture_pieces (bare_mix m) ≡ mixture_pieces m
unfolding mixture_pieces
mixture_same m = rw (
  all_same atom_pieces bare_atom atom_same m.atoms,
  option_same weights_pieces bare_list weights_same m.weights,
) refl

cost_same : (b : SevBody) → cost_pieces (bare_body b) ≡ cost_pieces b
unfolding cost_pieces
cost_same (Mixture m) = mixture_same m
cost_same (Ref n) = refl

sev_same : (s : SevAst) → sev_pieces (bare_sev s) ≡ sev_pieces s
unfolding sev_pieces
sev_same s = rw (cost_same s.body) refl

definition_same : (d : SevDef) → definition_pieces (bare_definition d) ≡ definition_pieces d
unfolding definition_pieces
definition_same d = rw (mixture_same d.mix) refl

ceded_same : (c : CededLayer) → ceded_pieces (bare_ceded c) ≡ ceded_pieces c
unfolding ceded_pieces share_pieces
ceded_same c = ap₂ (λ share layer. share ++ layer) (shares c.share) (layer_same c.layer)
  where
    shares : (share : Share) → share_pieces (bare_share share) ≡ share_pieces share
    shares Whole = refl
    shares _ = refl

and_ceded_same : (c : CededLayer) → and_ceded_pieces (bare_ceded c) ≡ and_ceded_pieces c
unfolding and_ceded_pieces
and_ceded_same c = rw (ceded_same c) refl

layers_same : (cs : List CededLayer) → ceded_layers_pieces (map bare_ceded cs) ≡ ceded_layers_pieces cs
unfolding ceded_layers_pieces
layers_same [] = refl
layers_same (c ∷ cs) = rw (ceded_same c, all_same and_ceded_pieces bare_ceded and_ceded_same cs) refl

clause_same : (k : Keyword) (c : Cession) → clause_pieces k (bare_cession c) ≡ clause_pieces k c
unfolding clause_pieces
clause_same k c = rw (layers_same c.layers) refl

freq_same : (f : FreqAst) → freq_pieces (bare_freq f) ≡ freq_pieces f
unfolding freq_pieces
freq_same (Fixed _) = refl
freq_same _ = refl

zero_same : (z : ZeroAst) → zero_pieces (bare_zero z) ≡ zero_pieces z
unfolding zero_pieces
zero_same Plain = refl
zero_same _ = refl

exposure_same : (e : Exposure) → exposure_pieces (bare_exposure e) ≡ exposure_pieces e
unfolding exposure_pieces
exposure_same (Claims n _) = refl
exposure_same _ = refl

count_same : (c : CountAst) → count_pieces (bare_count c) ≡ count_pieces c
unfolding count_pieces listed_pieces
count_same (Exposed e f z) = exposure_same e
count_same (Listed l o _) = rw (list_same l, option_same list_pieces bare_list list_same o) refl

late_count_same : (c : CountAst) → late_count_pieces (bare_count c) ≡ late_count_pieces c
unfolding late_count_pieces
late_count_same (Exposed e f z) = rw (freq_same f, zero_same z) refl
late_count_same (Listed l o _) = refl

unit_same : (u : UnitAst) → unit_pieces (bare_unit u) ≡ unit_pieces u
unfolding unit_pieces
unit_same u =
    let layer = option_same layer_pieces bare_layer layer_same u.layer in
    let occ = option_same (clause_pieces words.Occurrence) bare_cession (clause_same words.Occurrence) u.occ in
    let agr = option_same (clause_pieces words.Aggregate) bare_cession (clause_same words.Aggregate) u.agr in
    rw (count_same u.count, layer, sev_same u.sev, occ, late_count_same u.count, agr) refl

head_same : (h : PortHead) → head_pieces (bare_head h) ≡ head_pieces h
unfolding head_pieces
head_same h = rw (option_same common_pieces bare_numeral (λ n. refl) h.common) refl

program_same : (p : Program) → program_pieces (bare p) ≡ program_pieces p
unfolding program_pieces
program_same p =
    let head = option_same head_pieces bare_head head_same p.port in
    rw (all_same definition_pieces bare_definition definition_same p.sevs, head, all_same unit_pieces bare_unit unit_same p.units)
    refl

pub same_text : (p q : Program) → SameProgram p q → canonical p ≡ canonical q
unfolding canonical
same_text p q e =
    let same : program_pieces p ≡ program_pieces q = sym (program_same p) ∙ ap program_pieces e ∙ program_same q in
    ap (λ ps. spaced None ps ++ codes "\n") same
