-- The tokens of the canonical text of each node of the syntax.
use Rattle.std.specs.Prelude.{ℕ, Bool, true, false, List, [], ◌∷◌, ◌++◌, flat_map, codes, Option, Some, None}
use Rattle.dl_lexer.specs.declared.token.Keyword.{Keyword}
use Rattle.dl_lexer.specs.declared.token.Keyword.TheVariants as words
use Rattle.dl_lexer.specs.declared.token.Sign.{Sign}
use Rattle.dl_lexer.specs.declared.token.Sign.TheVariants as signs
use Rattle.dl_lexer.specs.declared.token.Kind.{Kind}
use Rattle.dl_lexer.specs.declared.token.Kind.TheVariants as kinds
use Rattle.dl_lexer.specs.Prelude.{spelling, sign_byte}
use Rattle.dl_ast.specs.declared.ast.NameAst.{NameAst}
use Rattle.dl_ast.specs.declared.ast.Numeral.{Numeral}
use Rattle.dl_ast.specs.declared.ast.ListItem.{ListItem}
use Rattle.dl_ast.specs.declared.ast.ListAst.{ListAst}
use Rattle.dl_ast.specs.declared.ast.LimitAst.{LimitAst}
use Rattle.dl_ast.specs.declared.ast.LimitAst.TheVariants.{Finite, Infinite}
use Rattle.dl_ast.specs.declared.ast.Layer.{Layer}
use Rattle.dl_ast.specs.declared.ast.Atom.{Atom}
use Rattle.dl_ast.specs.declared.ast.MixAst.{MixAst}
use Rattle.dl_ast.specs.declared.ast.SevBody.{SevBody}
use Rattle.dl_ast.specs.declared.ast.SevBody.TheVariants.{Mixture, Ref}
use Rattle.dl_ast.specs.declared.ast.SevAst.{SevAst}
use Rattle.dl_ast.specs.declared.ast.SevDef.{SevDef}
use Rattle.dl_ast.specs.declared.ast.PortHead.{PortHead}
use Rattle.dl_ast.specs.declared.ast.CountAst.{CountAst}
use Rattle.dl_ast.specs.declared.ast.CountAst.TheVariants.{Exposed, Listed}
use Rattle.dl_ast.specs.declared.ast.Share.{Share}
use Rattle.dl_ast.specs.declared.ast.Share.TheVariants as shares
use Rattle.dl_ast.specs.declared.ast.CededLayer.{CededLayer}
use Rattle.dl_ast.specs.declared.ast.Cession.{Cession}
use Rattle.dl_ast.specs.declared.ast.FreqAst.{FreqAst}
use Rattle.dl_ast.specs.declared.ast.FreqAst.TheVariants as freqs
use Rattle.dl_ast.specs.declared.ast.ZeroAst.{ZeroAst}
use Rattle.dl_ast.specs.declared.ast.ZeroAst.TheVariants.{Plain, Truncated, Modified}
use Rattle.dl_ast.specs.declared.ast.Exposure.{Exposure}
use Rattle.dl_ast.specs.declared.ast.Exposure.TheVariants.{Claims, Loss, Premium}
use Rattle.dl_ast.specs.declared.ast.UnitAst.{UnitAst}
use Rattle.dl_ast.specs.declared.ast.Program.{Program}

-- a token: its kind and its bytes
pub record Piece : Type 0 where
  pub kind : Kind
  pub text : List ℕ

unfoldable pub piece : Kind → List ℕ → List Piece
piece kind text = record { kind = kind; text = text } ∷ []

abbrev pub word_piece : Keyword → List Piece
word_piece k = piece (kinds.Word k) (spelling k)

abbrev pub sign_piece : Sign → List Piece
sign_piece s = piece (kinds.Sign s) (sign_byte s ∷ [])

-- names, references, numerals and notes as they were written
abbrev pub name_piece : NameAst → List Piece
name_piece n = piece kinds.Name n.text

abbrev pub ref_piece : NameAst → List Piece
ref_piece n = piece kinds.Ref (codes "sev." ++ n.text)

abbrev pub numeral_piece : Numeral → List Piece
numeral_piece n = piece kinds.Numeral n.text

abbrev pub note_piece : List ℕ → List Piece
note_piece text = piece kinds.Note text

-- those of what may be left out
unfoldable pub optional : {A : Type 0} → (A → List Piece) → Option A → List Piece
optional f None = []
optional f (Some x) = f x

-- `1`, `1:6` or `1:6:2`
abbrev pub behind_colon : Numeral → List Piece
behind_colon n = sign_piece signs.Colon ++ numeral_piece n

unfoldable pub item_pieces : ListItem → List Piece
item_pieces i = numeral_piece i.from ++ optional behind_colon i.to ++ optional behind_colon i.step

-- `[1 2:4]`, without commas
unfoldable pub list_pieces : ListAst → List Piece
list_pieces l = sign_piece signs.Open ++ flat_map item_pieces l.items ++ sign_piece signs.Close

-- `50 xs 10` or `inf xs 10`
unfoldable pub limit_pieces : LimitAst → List Piece
limit_pieces (Finite n) = numeral_piece n
limit_pieces Infinite = word_piece words.Inf

unfoldable pub layer_pieces : Layer → List Piece
layer_pieces l = limit_pieces l.limit ++ word_piece words.Xs ++ numeral_piece l.attach

-- `dsev`, also where `sev dhistogram xps` was written
unfoldable pub atom_pieces : Atom → List Piece
atom_pieces a = word_piece words.Dsev ++ list_pieces a.values ++ optional list_pieces a.probs

abbrev pub weights_pieces : ListAst → List Piece
weights_pieces w = word_piece words.Wts ++ list_pieces w

unfoldable pub bang_pieces : Bool → List Piece
bang_pieces true = sign_piece signs.Bang
bang_pieces false = []

unfoldable pub mixture_pieces : MixAst → List Piece
mixture_pieces m = flat_map atom_pieces m.atoms ++ optional weights_pieces m.weights

unfoldable pub cost_pieces : SevBody → List Piece
cost_pieces (Mixture m) = mixture_pieces m
cost_pieces (Ref n) = ref_piece n

unfoldable pub sev_pieces : SevAst → List Piece
sev_pieces s = cost_pieces s.body ++ bang_pieces s.bang

-- `sev A dsev [1:6]`
unfoldable pub definition_pieces : SevDef → List Piece
definition_pieces d = word_piece words.Sev ++ name_piece d.name ++ mixture_pieces d.mix

-- `4 xs 2`, `0.5 so 4 xs 2` or `2 po 4 xs 2`
unfoldable pub share_pieces : Share → List Piece
share_pieces shares.Whole = []
share_pieces (shares.So n) = numeral_piece n ++ word_piece words.So
share_pieces (shares.Po n) = numeral_piece n ++ word_piece words.Po

unfoldable pub ceded_pieces : CededLayer → List Piece
ceded_pieces c = share_pieces c.share ++ layer_pieces c.layer

unfoldable pub and_ceded_pieces : CededLayer → List Piece
and_ceded_pieces c = word_piece words.And ++ ceded_pieces c

unfoldable pub ceded_layers_pieces : List CededLayer → List Piece
ceded_layers_pieces [] = []
ceded_layers_pieces (c ∷ cs) = ceded_pieces c ++ flat_map and_ceded_pieces cs

-- `occurrence` or `aggregate`, the side, and the layers
unfoldable pub side_pieces : Bool → List Piece
side_pieces true = word_piece words.Net ++ word_piece words.Of
side_pieces false = word_piece words.Ceded ++ word_piece words.To

unfoldable pub clause_pieces : Keyword → Cession → List Piece
clause_pieces kind c = word_piece kind ++ side_pieces c.net ++ ceded_layers_pieces c.layers

unfoldable pub freq_pieces : FreqAst → List Piece
freq_pieces (freqs.Fixed _) = word_piece words.Fixed
freq_pieces (freqs.Poisson _) = word_piece words.Poisson
freq_pieces (freqs.Geometric _) = word_piece words.Geometric
freq_pieces (freqs.Bernoulli _) = word_piece words.Bernoulli
freq_pieces (freqs.Binomial p _) = word_piece words.Binomial ++ numeral_piece p
freq_pieces (freqs.Gamma c _) = word_piece words.Mixed ++ word_piece words.Gamma ++ numeral_piece c

-- nothing, `zt` or `zm 0.5`
unfoldable pub zero_pieces : ZeroAst → List Piece
zero_pieces Plain = []
zero_pieces (Truncated _) = word_piece words.Zt
zero_pieces (Modified p _) = word_piece words.Zm ++ numeral_piece p

-- `claims` also where `claim`, and `premium` where `prem` was written
unfoldable pub exposure_pieces : Exposure → List Piece
exposure_pieces (Claims n _) = numeral_piece n ++ word_piece words.Claims
exposure_pieces (Loss n _) = numeral_piece n ++ word_piece words.Loss
exposure_pieces (Premium p r _) =
    numeral_piece p ++ word_piece words.Premium ++ word_piece words.At ++ numeral_piece r
    ++ word_piece words.Lr

unfoldable pub listed_pieces : ListAst → Option ListAst → List Piece
listed_pieces counts probs =
    word_piece words.Dfreq ++ list_pieces counts ++ optional list_pieces probs

-- what the claim count puts before the layer, and what behind the occurrence clause
unfoldable pub count_pieces : CountAst → List Piece
count_pieces (Exposed e _ _) = exposure_pieces e
count_pieces (Listed counts probs _) = listed_pieces counts probs

unfoldable pub late_count_pieces : CountAst → List Piece
late_count_pieces (Exposed _ f z) = freq_pieces f ++ zero_pieces z
late_count_pieces (Listed _ _ _) = []

unfoldable pub unit_pieces : UnitAst → List Piece
unit_pieces u =
    word_piece words.Agg ++ name_piece u.name ++ count_pieces u.count
    ++ optional layer_pieces u.layer
    ++ sev_pieces u.sev ++ optional (clause_pieces words.Occurrence) u.occ
    ++ late_count_pieces u.count ++ optional (clause_pieces words.Aggregate) u.agr
    ++ optional note_piece u.note

abbrev pub common_pieces : Numeral → List Piece
common_pieces c = word_piece words.Common ++ numeral_piece c

unfoldable pub head_pieces : PortHead → List Piece
head_pieces h =
    word_piece words.Port ++ name_piece h.name ++ optional common_pieces h.common
    ++ optional note_piece h.note

unfoldable pub program_pieces : Program → List Piece
program_pieces p =
    flat_map definition_pieces p.sevs ++ optional head_pieces p.port ++ flat_map unit_pieces p.units
