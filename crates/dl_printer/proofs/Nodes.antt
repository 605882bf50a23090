-- The canonical tokens of a well-formed node are tokens, and spell the node by its line of the grammar.
use Rattle.dl_printer.proofs.Common.{◌≡◌, ◌∙◌, ◌<◌, ℕ, List, [], ◌∷◌, ◌++◌, map, length, Option, Some, None, Bool, true, false, refl, sym, ap, arith, append_assoc, flat_map, sign_byte, Program, Lexeme, Piece, piece, word_piece, name_piece, numeral_piece, note_piece, optional, behind_colon, item_pieces, list_pieces, limit_pieces, layer_pieces, atom_pieces, mixture_pieces, cost_pieces, bang_pieces, sev_pieces, definition_pieces, ref_piece, zero_pieces, common_pieces, share_pieces, ceded_pieces, and_ceded_pieces, ceded_layers_pieces, side_pieces, clause_pieces, freq_pieces, exposure_pieces, listed_pieces, count_pieces, late_count_pieces, unit_pieces, head_pieces, program_pieces, option_map, Keyword, ListItem, ListAst, LimitAst, Finite, Infinite, Layer, Atom, MixAst, SevBody, Mixture, Ref, SevAst, SevDef, ZeroAst, Plain, Truncated, Modified, PortHead, CountAst, Exposed, Listed, Share, CededLayer, Cession, FreqAst, Exposure, Claims, Loss, Premium, UnitAst, is_some, codes, drop, All, IfSome, IsNone, append-nil, All-head, All-tail, Span, bare_numeral, bare_item, bare_list, bare_limit, bare_layer, bare_atom, bare_mix, bare_body, bare_sev, bare_definition, bare_zero, bare_ceded, bare_cession, bare_freq, bare_exposure, bare_count, bare_unit, bare_head, bare, nowhere, bare_name, option_map_id, spelling, NameAst, Numeral}
use Rattle.dl_ast.specs.Prelude.{Rule, one, ◌▸◌, maybe, ◌≫◌, ◌≪◌, ◌means◌, some_of, program, numeral, name, note, item, next_item, list, limit, layer, atom, mixture, reference, cost, sev, sevdef, cession, side, next_cession, clause, count, zero_change, plain_or, freq, claims, premium, exposure, listed, exposed_unit, listed_unit, unit, common, head, book, IsWellFormed, IsFormedName, IsFormedNumeral, IsFormedNote, IsFormedItem, IsFormedList, IsFormedLimit, IsFormedLayer, IsFormedAtom, IsFormedMixture, IsFormedReference, IsFormedBody, IsFormedSeverity, IsFormedDefinition, IsFormedZero, IsFormedShare, IsFormedCeded, IsFormedCession, IsFormedFrequency, IsFormedExposure, IsFormedUnit, IsFormedHead}
use Rattle.dl_lexer.specs.declared.token.Keyword.TheVariants as words
use Rattle.dl_lexer.specs.declared.token.Sign.TheVariants as signs
use Rattle.dl_lexer.specs.declared.token.Kind.TheVariants as kinds
use Rattle.dl_lexer.specs.declared.token.Kind.TheVariants.{Word, Sign}
use Rattle.dl_ast.specs.declared.ast.Share.TheVariants as shares
use Rattle.dl_ast.specs.declared.ast.FreqAst.TheVariants as freqs
use Rattle.dl_printer.proofs.Shown.{piece_of, Shows, shows_one, shows_seq, shows_left, shows_right, shows_none, shows_some, shows_maybe, shows_many, shows_made, shows_node, shows_spanned, shows_behind, shows_before, shows_means, shows_some_of, shows_seen, shows_as}

-- a keyword or a sign before or behind

behind_word : {A S : Type 0} (k : Keyword) {a : Rule A} {f : A → S} {s : S} {us : List Piece} → Shows a f s us
    → Shows (Word k ≫ a) f s (word_piece k ++ us)
behind_word {A} {S} k {a} {f} {s} {us} x = shows_behind (Word k) (spelling k) refl x

before_word : {A S : Type 0} (k : Keyword) {a : Rule A} {f : A → S} {s : S} {us : List Piece} → Shows a f s us
    → Shows (a ≪ Word k) f s (us ++ word_piece k)
before_word {A} {S} k {a} {f} {s} {us} x = shows_before (Word k) (spelling k) refl x

word_means : {A S : Type 0} (k : Keyword) {x : A} {f : A → S} → Shows (Word k means x) f (f x) (word_piece k)
word_means {A} {S} k {x} {f} = shows_means (Word k) (spelling k) refl

-- numbers, names and notes

numeral_shown : (n : Numeral) → IsFormedNumeral n → Shows numeral bare_numeral (bare_numeral n) (numeral_piece n)
unfolding numeral
numeral_shown n h = shows_made (shows_one kinds.Numeral n.text h)
    (λ t e. ap (λ p. record { text = p.text; span = nowhere }) e)

name_shown : (n : NameAst) → IsFormedName n → Shows name bare_name (bare_name n) (name_piece n)
unfolding name
name_shown n h = shows_made (shows_one kinds.Name n.text h)
    (λ t e. ap (λ p. record { text = p.text; span = nowhere }) e)

note_shown : (n : List ℕ) → IsFormedNote n → Shows note (λ x. x) n (note_piece n)
unfolding note
note_shown n h = shows_made (shows_one kinds.Note n h) (λ t e. ap (λ p. p.text) e)

-- lists

behind_colon_shown : (n : Numeral) → IsFormedNumeral n
    → Shows (Sign signs.Colon ≫ numeral) bare_numeral (bare_numeral n) (behind_colon n)
behind_colon_shown n h = shows_behind (Sign signs.Colon) (sign_byte signs.Colon ∷ []) refl (numeral_shown n h)

item_of : (from : Numeral) (to step : Option Numeral) (span : Span)
    → IsFormedItem (record { from = from; to = to; step = step; span = span })
    → Shows item bare_item (bare_item (record { from = from; to = to; step = step; span = span }))
    (item_pieces (record { from = from; to = to; step = step; span = span }))
unfolding item item_pieces optional piece
item_of from None None span h = shows_spanned (shows_left (shows_made (numeral_shown from h.from) (λ n e. ap
    (λ m _. record { from = m; to = None; step = None; span = nowhere }) e)))
item_of from None (Some step) span h = let none : false ≡ true = h.beside refl in absurd cc
item_of from (Some to) None span h = shows_spanned
    (shows_right (shows_left (shows_made (shows_seq (numeral_shown from h.from) (behind_colon_shown to h.to))
    (λ n e. ap (λ m _. record { from = m.0; to = Some m.1; step = None; span = nowhere }) e))))
item_of from (Some to) (Some step) span h = shows_spanned
    (shows_right (shows_right (shows_made (shows_seq (numeral_shown from h.from)
    (shows_behind (Sign signs.Colon) (sign_byte signs.Colon ∷ []) refl
    (shows_seq (numeral_shown to h.to) (behind_colon_shown step h.step))))
    (λ n e. ap (λ m _. record { from = m.0; to = Some m.1.0; step = Some m.1.1; span = nowhere }) e))))

item_shown : (i : ListItem) → IsFormedItem i → Shows item bare_item (bare_item i) (item_pieces i)
item_shown i h = item_of i.from i.to i.step i.span h

next_item_shown : (i : ListItem) → IsFormedItem i → Shows next_item bare_item (bare_item i) (item_pieces i)
unfolding next_item
next_item_shown i h = shows_made (shows_seq (shows_none {f = piece_of}) (item_shown i h)) (λ p e. ap (λ q. q.1) e)

items_shown : (is : List ListItem) → 0 < length is → All IsFormedItem is
    → Shows (some_of item next_item) (map bare_item) (map bare_item is) (flat_map item_pieces is)
items_shown [] some h = absurd (omega arith)
items_shown (i ∷ is) some h = shows_some_of item_shown next_item_shown i is (All-head IsFormedItem i is h)
    (All-tail IsFormedItem i is h)

list_shown : (l : ListAst) → IsFormedList l → Shows list bare_list (bare_list l) (list_pieces l)
unfolding list list_pieces
list_shown l h = shows_node (shows_as (shows_behind (Sign signs.Open) (sign_byte signs.Open ∷ []) refl
    (shows_before (Sign signs.Close) (sign_byte signs.Close ∷ []) refl (items_shown l.items h.some h.items)))
    (simp append_assoc)) (λ is at e. ap (λ js. record { items = js; span = nowhere }) e)

-- layers

limit_shown : (l : LimitAst) → IsFormedLimit l → Shows limit bare_limit (bare_limit l) (limit_pieces l)
unfolding limit limit_pieces
limit_shown (Finite n) h = shows_left (shows_made (numeral_shown n h) (λ m e. ap Finite e))
limit_shown Infinite h = shows_right (word_means words.Inf)

layer_shown : (l : Layer) → IsFormedLayer l → Shows layer bare_layer (bare_layer l) (layer_pieces l)
unfolding layer layer_pieces
layer_shown l h = shows_node (shows_seq (before_word words.Xs (limit_shown l.limit h.limit))
    (numeral_shown l.attach h.attach)) (λ p at e. ap (λ q. record { limit = q.0; attach = q.1; span = nowhere }) e)

-- severities

-- a list and perhaps another
abbrev bare_lists : ListAst × Option ListAst → ListAst × Option ListAst
bare_lists p = (bare_list p.0, option_map bare_list p.1)

lists_shown : (l : ListAst) (o : Option ListAst) → IsFormedList l → IfSome o IsFormedList
    → Shows (list ▸ maybe list) bare_lists (bare_list l, option_map bare_list o)
    (list_pieces l ++ optional list_pieces o)
lists_shown l o h k = shows_seq (list_shown l h) (shows_maybe list_shown o k)

atom_shown : (a : Atom) → IsFormedAtom a → Shows atom bare_atom (bare_atom a) (atom_pieces a)
unfolding atom atom_pieces
atom_shown a h = shows_made
    (shows_as (shows_left (behind_word words.Dsev (lists_shown a.values a.probs h.values h.probs)))
    (simp append_assoc)) (λ p e. ap (λ q. record { values = q.0; probs = q.1 }) e)

mixture_of : (atoms : List Atom) (w : Option ListAst) (span : Span)
    → IsFormedMixture (record { atoms = atoms; weights = w; span = span })
    → Shows mixture bare_mix (bare_mix (record { atoms = atoms; weights = w; span = span }))
    (mixture_pieces (record { atoms = atoms; weights = w; span = span }))
unfolding mixture mixture_pieces optional
mixture_of [] w span h = absurd (omega (arith, h.some))
mixture_of (a ∷ []) None span h = shows_spanned (shows_left
    (shows_made (shows_as (atom_shown a (All-head IsFormedAtom a [] h.atoms)) (simp append-nil))
    (λ b e. ap (λ c _. record { atoms = c ∷ []; weights = None; span = nowhere }) e)))
mixture_of (a ∷ b ∷ others) None span h = let none : false ≡ true = h.several (omega arith) in absurd cc
mixture_of (a ∷ others) (Some w) span h = shows_spanned (shows_right
    (shows_made (shows_as (shows_seq (atom_shown a (All-head IsFormedAtom a others h.atoms))
    (shows_seq (shows_many atom_shown others (All-tail IsFormedAtom a others h.atoms))
    (behind_word words.Wts (list_shown w h.weights)))) (simp append_assoc))
    (λ p e. ap (λ q _. record { atoms = q.0 ∷ q.1.0; weights = Some q.1.1; span = nowhere }) e)))

mixture_shown : (m : MixAst) → IsFormedMixture m → Shows mixture bare_mix (bare_mix m) (mixture_pieces m)
mixture_shown m h = mixture_of m.atoms m.weights m.span h

some_is : (y : Option Lexeme) (p : Piece) → option_map piece_of y ≡ Some p → is_some y ≡ true
some_is None p e = absurd cc
some_is (Some t) p e = refl

none_is : (y : Option Lexeme) → option_map piece_of y ≡ None → is_some y ≡ false
none_is None e = refl
none_is (Some t) e = absurd cc

bang_shown : (b : Bool) → Shows (maybe (one (Sign signs.Bang))) is_some b (bang_pieces b)
unfolding bang_pieces
bang_shown true = shows_seen (shows_some (shows_one (Sign signs.Bang) (sign_byte signs.Bang ∷ []) refl))
    (λ y e. some_is y _ e)
bang_shown false = shows_seen (shows_none {f = piece_of}) (λ y e. none_is y e)

reference_shown : (n : NameAst) → IsFormedReference n → Shows reference bare_name (bare_name n) (ref_piece n)
unfolding reference
reference_shown n h = shows_made (shows_one kinds.Ref (codes "sev." ++ n.text) h)
    (λ t e. ap (λ p. record { text = drop 4 p.text; span = nowhere }) e)

cost_shown : (b : SevBody) → IsFormedBody b → Shows cost bare_body (bare_body b) (cost_pieces b)
unfolding cost cost_pieces
cost_shown (Mixture m) h = shows_left (shows_made (mixture_shown m h) (λ x e. ap Mixture e))
cost_shown (Ref n) h = shows_right (shows_made (reference_shown n h) (λ x e. ap Ref e))

sev_shown : (s : SevAst) → IsFormedSeverity s → Shows sev bare_sev (bare_sev s) (sev_pieces s)
unfolding sev sev_pieces
sev_shown s h = shows_node (shows_seq (cost_shown s.body h) (bang_shown s.bang))
    (λ p at e. ap (λ q. record { body = q.0; bang = q.1; span = nowhere }) e)

definition_shown : (d : SevDef) → IsFormedDefinition d
    → Shows sevdef bare_definition (bare_definition d) (definition_pieces d)
unfolding sevdef definition_pieces
definition_shown d h = shows_node
    (shows_as (behind_word words.Sev (shows_seq (name_shown d.name h.name) (mixture_shown d.mix h.mix)))
    (simp append_assoc)) (λ p at e. ap (λ q. record { name = q.0; mix = q.1; span = nowhere }) e)

-- cessions

part_shown : (k : Keyword) (n : Numeral) (l : Layer) → IsFormedNumeral n → IsFormedLayer l
    → Shows {X = Numeral × Layer} {S = Numeral × Layer} (numeral ▸ Word k ≫ layer)
    (λ p. (bare_numeral p.0, bare_layer p.1))
    (bare_numeral n, bare_layer l) (numeral_piece n ++ (word_piece k ++ layer_pieces l))
part_shown k n l h j = shows_seq (numeral_shown n h) (behind_word k (layer_shown l j))

ceded_of : (s : Share) (l : Layer) (span : Span) → IsFormedShare s → IsFormedLayer l
    → Shows cession bare_ceded (bare_ceded (record { share = s; layer = l; span = span }))
    (ceded_pieces (record { share = s; layer = l; span = span }))
unfolding cession ceded_pieces share_pieces
ceded_of shares.Whole l span h k = shows_spanned
    (shows_left
    (shows_made (layer_shown l k) (λ m e. ap (λ n _. record { share = shares.Whole; layer = n; span = nowhere }) e)))
ceded_of (shares.So n) l span h k = shows_spanned
    (shows_right (shows_left (shows_made (shows_as (part_shown words.So n l h k) (simp append_assoc))
    (λ m e. ap (λ q _. record { share = shares.So q.0; layer = q.1; span = nowhere }) e))))
ceded_of (shares.Po n) l span h k = shows_spanned
    (shows_right (shows_right (shows_made (shows_as (part_shown words.Po n l h k) (simp append_assoc))
    (λ m e. ap (λ q _. record { share = shares.Po q.0; layer = q.1; span = nowhere }) e))))

ceded_shown : (c : CededLayer) → IsFormedCeded c → Shows cession bare_ceded (bare_ceded c) (ceded_pieces c)
ceded_shown c h = ceded_of c.share c.layer c.span h.share h.layer

and_ceded_shown : (c : CededLayer) → IsFormedCeded c → Shows next_cession bare_ceded (bare_ceded c) (and_ceded_pieces c)
unfolding next_cession and_ceded_pieces
and_ceded_shown c h = behind_word words.And (ceded_shown c h)

layers_shown : (cs : List CededLayer) → 0 < length cs → All IsFormedCeded cs
    → Shows (some_of cession next_cession) (map bare_ceded) (map bare_ceded cs) (ceded_layers_pieces cs)
unfolding ceded_layers_pieces
layers_shown [] some h = absurd (omega arith)
layers_shown (c ∷ cs) some h = shows_some_of ceded_shown and_ceded_shown c cs (All-head IsFormedCeded c cs h)
    (All-tail IsFormedCeded c cs h)

side_shown : (b : Bool) → Shows side (λ x. x) b (side_pieces b)
unfolding side side_pieces
side_shown true = shows_left (behind_word words.Net (word_means words.Of))
side_shown false = shows_right (behind_word words.Ceded (word_means words.To))

clause_shown : (k : Keyword) (c : Cession) → IsFormedCession c
    → Shows (clause (Word k)) bare_cession (bare_cession c) (clause_pieces k c)
unfolding clause clause_pieces
clause_shown k c h = shows_node
    (shows_as (behind_word k (shows_seq (side_shown c.net) (layers_shown c.layers h.some h.layers)))
    (simp append_assoc)) (λ p at e. ap (λ q. record { net = q.0; layers = q.1; span = nowhere }) e)

-- claim counts

count_shown : (f : FreqAst) → IsFormedFrequency f → Shows count bare_freq (bare_freq f) (freq_pieces f)
unfolding count freq_pieces
count_shown (freqs.Fixed span) h = shows_spanned (shows_left (word_means words.Fixed))
count_shown (freqs.Poisson span) h = shows_spanned (shows_right (shows_left (word_means words.Poisson)))
count_shown (freqs.Geometric span) h = shows_spanned
    (shows_right (shows_right (shows_left (word_means words.Geometric))))
count_shown (freqs.Bernoulli span) h = shows_spanned
    (shows_right (shows_right (shows_right (shows_left (word_means words.Bernoulli)))))
count_shown (freqs.Binomial n span) h = shows_spanned (shows_right (shows_right (shows_right (shows_right (shows_left
    (shows_made (behind_word words.Binomial (numeral_shown n h)) (λ m e. ap (λ q _. freqs.Binomial q nowhere) e)))))))
count_shown (freqs.Gamma n span) h = shows_spanned (shows_right (shows_right (shows_right (shows_right (shows_right
    (shows_made (shows_as (behind_word words.Mixed (behind_word words.Gamma (numeral_shown n h))) (simp append_assoc))
    (λ m e. ap (λ q _. freqs.Gamma q nowhere) e)))))))

zero_as : (o : Option ZeroAst) (z : ZeroAst) → option_map bare_zero o ≡ Some z → bare_zero (plain_or o) ≡ z
zero_as None z e = absurd cc
zero_as (Some x) z e = cc

zero_none : (o : Option ZeroAst) → option_map bare_zero o ≡ None → bare_zero (plain_or o) ≡ Plain
zero_none None e = refl
zero_none (Some x) e = absurd cc

zero_shown : (z : ZeroAst) → IsFormedZero z
    → Shows (maybe zero_change) (λ o. bare_zero (plain_or o)) (bare_zero z) (zero_pieces z)
unfolding zero_change zero_pieces
zero_shown Plain h = shows_seen (shows_none {f = bare_zero}) (λ o e. zero_none o e)
zero_shown (Truncated span) h =
    shows_seen (shows_some (shows_spanned {g = bare_zero} (shows_left (word_means words.Zt)))) (λ o e. zero_as o _ e)
zero_shown (Modified n span) h = shows_seen (shows_some (shows_spanned {g = bare_zero} (shows_right (shows_made
    (behind_word words.Zm (numeral_shown n h)) (λ m e. ap (λ q _. Modified q nowhere) e))))) (λ o e. zero_as o _ e)

-- a distribution, and the change of the probability of no claim
abbrev bare_change : FreqAst × ZeroAst → FreqAst × ZeroAst
bare_change p = (bare_freq p.0, bare_zero p.1)

freq_shown : (f : FreqAst) (z : ZeroAst) → IsFormedFrequency f → IsFormedZero z
    → Shows freq bare_change (bare_freq f, bare_zero z) (freq_pieces f ++ zero_pieces z)
unfolding freq
freq_shown f z h k = shows_made (shows_seq (count_shown f h) (zero_shown z k)) (λ p e. e)

exposure_shown : (x : Exposure) → IsFormedExposure x
    → Shows exposure bare_exposure (bare_exposure x) (exposure_pieces x)
unfolding exposure exposure_pieces claims premium
exposure_shown (Claims n span) h = shows_spanned (shows_left (shows_made (shows_seq (numeral_shown n h) (shows_right
    (shows_one (Word words.Claims) (spelling words.Claims) refl)))
    (λ p e. ap (λ q _. Claims q.0 nowhere) e)))
exposure_shown (Loss n span) h = shows_spanned (shows_right (shows_left (shows_made (before_word words.Loss
    (numeral_shown n h)) (λ p e. ap (λ q _. Loss q nowhere) e))))
exposure_shown (Premium n r span) h = shows_spanned (shows_right (shows_right (shows_made (shows_as (shows_seq
    (numeral_shown n h.0) (shows_seq (shows_right (shows_one (Word words.Premium) (spelling words.Premium) refl)) (behind_word words.At (before_word words.Lr
    (numeral_shown r h.1))))) (simp append_assoc)) (λ p e. ap (λ q _. Premium q.0 q.1.1 nowhere) e))))

listed_shown : (l : ListAst) (o : Option ListAst) (span : Span) → IsFormedList l → IfSome o IsFormedList
    → Shows listed bare_count (bare_count (Listed l o span)) (listed_pieces l o)
unfolding listed listed_pieces
listed_shown l o span h k = shows_node (shows_as (behind_word words.Dfreq (lists_shown l o h k)) (simp append_assoc))
    (λ p at e. ap (λ q. Listed q.0 q.1 nowhere) e)

-- units and programs

note_option_shown : (o : Option (List ℕ)) → IfSome o IsFormedNote
    → Shows (maybe note) (λ x. x) o (optional note_piece o)
note_option_shown o h = shows_seen (shows_maybe note_shown o h) (λ y e. sym (option_map_id y) ∙ e ∙ option_map_id o)

unit_of : (n : NameAst) (c : CountAst) (l : Option Layer) (s : SevAst) (o a : Option Cession) (t : Option (List ℕ))
    → IsFormedUnit (record { name = n; count = c; layer = l; sev = s; occ = o; agr = a; note = t })
    → Shows unit bare_unit (bare_unit (record { name = n; count = c; layer = l; sev = s; occ = o; agr = a; note = t }))
    (unit_pieces (record { name = n; count = c; layer = l; sev = s; occ = o; agr = a; note = t }))
unfolding unit unit_pieces count_pieces late_count_pieces
unit_of n (Exposed e f z) l s o a t h = shows_left (shows_made (shows_as (behind_word words.Agg (shows_seq
    (name_shown n h.name) (shows_seq (exposure_shown e h.count.0) (shows_seq (shows_maybe layer_shown l h.layer)
    (shows_seq (sev_shown s h.sev) (shows_seq (shows_maybe (clause_shown words.Occurrence) o h.occ)
    (shows_seq (freq_shown f z h.count.1.0 h.count.1.1) (shows_seq (shows_maybe (clause_shown words.Aggregate) a h.agr)
    (note_option_shown t h.note))))))))) (simp append_assoc)) (λ p e. ap exposed_unit e))
unit_of n (Listed c p span) l s o a t h = shows_right (shows_made (shows_as (behind_word words.Agg (shows_seq
    (name_shown n h.name) (shows_seq (listed_shown c p span h.count.0 h.count.1) (shows_seq
    (shows_maybe layer_shown l h.layer)
    (shows_seq (sev_shown s h.sev) (shows_seq (shows_maybe (clause_shown words.Occurrence) o h.occ)
    (shows_seq (shows_maybe (clause_shown words.Aggregate) a h.agr) (note_option_shown t h.note))))))))
    (simp (append_assoc, append-nil))) (λ p e. ap listed_unit e))

unit_shown : (u : UnitAst) → IsFormedUnit u → Shows unit bare_unit (bare_unit u) (unit_pieces u)
unit_shown u h = unit_of u.name u.count u.layer u.sev u.occ u.agr u.note h

common_shown : (n : Numeral) → IsFormedNumeral n → Shows common bare_numeral (bare_numeral n) (common_pieces n)
unfolding common
common_shown n h = behind_word words.Common (numeral_shown n h)

head_shown : (h : PortHead) → IsFormedHead h → Shows head bare_head (bare_head h) (head_pieces h)
unfolding head head_pieces
head_shown h k = shows_made (shows_as (behind_word words.Port (shows_seq (name_shown h.name k.name)
    (shows_seq (shows_maybe common_shown h.common k.common) (note_option_shown h.note k.note)))) (simp append_assoc))
    (λ p e. ap (λ q. record { name = q.0; common = q.1.0; note = q.1.1 }) e)

-- the head, and the units
abbrev bare_book : Option PortHead × List UnitAst → Option PortHead × List UnitAst
bare_book b = (option_map bare_head b.0, map bare_unit b.1)

book_shown : (h : Option PortHead) (us : List UnitAst) → IfSome h IsFormedHead → 0 < length us → All IsFormedUnit us
    → (IsNone h → length us ≡ 1)
    → Shows book bare_book (option_map bare_head h, map bare_unit us)
    (optional head_pieces h ++ flat_map unit_pieces us)
unfolding book optional
book_shown None [] k some all alone = absurd (omega arith)
book_shown None (u ∷ []) k some all alone = shows_left
    (shows_made (shows_as (unit_shown u (All-head IsFormedUnit u [] all)) (simp append-nil))
    (λ v e. ap (λ x. (None, x ∷ [])) e))
book_shown None (u ∷ v ∷ us) k some all alone = grind arith
book_shown (Some h) [] k some all alone = absurd (omega arith)
book_shown (Some h) (u ∷ us) k some all alone = shows_right
    (shows_made (shows_seq (head_shown h k) (shows_some_of unit_shown unit_shown u us
    (All-head IsFormedUnit u us all) (All-tail IsFormedUnit u us all)))
    (λ p e. ap (λ q. (Some q.0, q.1)) e))

-- so is the program
pub program_shown : (p : Program) → IsWellFormed p → Shows program bare (bare p) (program_pieces p)
unfolding program program_pieces
program_shown p w = shows_made
    (shows_as (shows_seq (shows_many definition_shown p.sevs w.sevs)
    (book_shown p.port p.units w.head w.some w.units w.one)) (simp append_assoc))
    (λ q e. ap (λ r. record { sevs = r.0; port = r.1.0; units = r.1.1 }) e)
