-- The grammar as it is read spells the same as the grammar as it is written.
use Rattle.dl_parser.proofs.Common.{◌≡◌, ℕ, List, [], ◌∷◌, ◌++◌, Some, None, refl, sym, ap, ◌∙◌, subst, inl, inr, append_assoc, append-nil, Kind, Word, Sign, Atom, Lexeme, Rule, ◌▸◌, ◌or◌, maybe, many, unless, made, node, Each, Spells, span_of, some_of, numeral, name, note, layer, limit, freq, premium, loss, ending, closing, body, item, next_item, items, list, atom, weighted, mixture, cost, sev, defined, sevdef, cession, next_cession, layers, clause, ratio, exposure, exposed, listed, counted, unit, units, book, Option, Span, NameAst, ListItem, ListAst, LimitAst, Layer, CededLayer, MixAst, SevAst, CountAst, Cession, FreqAst, ZeroAst, Exposure, UnitAst, Loss, Body}
use Rattle.dl_lexer.specs.declared.token.Keyword.TheVariants as words
use Rattle.dl_lexer.specs.declared.token.Sign.TheVariants as signs
use Rattle.dl_lexer.specs.declared.token.Kind.TheVariants as kinds
use Rattle.dl_ast.specs.declared.ast.Numeral.{Numeral}
use Rattle.dl_ast.specs.declared.ast.LimitAst.TheVariants as limits
use Rattle.dl_ast.specs.declared.ast.CountAst.TheVariants as counts
use Rattle.dl_ast.specs.declared.ast.Exposure.TheVariants as exposures
use Rattle.dl_ast.specs.Grammar as written
use Rattle.dl_ast.specs.Grammar.{◌≫◌, ◌≪◌, spanned, whole, so, po, exposed_unit, listed_unit}
use Rattle.dl_parser.specs.Factored.{named, SpellAlike, item_of, mix_of, whole_of, behind_number, occ, agr, base, program}

-- rules that are made alike of rules that spell alike do so

same : {A : Type 0} {a : Rule A} → SpellAlike a a
same {A} {a} = record { to = λ x ts s. s; from = λ x ts s. s }

seq_into : {A B : Type 0} (a c : Rule A) (b d : Rule B) → ((x : A) (ts : List Lexeme) → Spells a x ts → Spells c x ts)
    → ((y : B) (ts : List Lexeme) → Spells b y ts → Spells d y ts)
    → (p : A × B) (ts : List Lexeme) → Spells (a ▸ b) p ts → Spells (c ▸ d) p ts
seq_into a c b d f g p ts (us, vs, h, s, t) = (us, vs, h, f p.0 us s, g p.1 vs t)

alike_seq : {A B : Type 0} {a c : Rule A} {b d : Rule B} → SpellAlike a c → SpellAlike b d → SpellAlike (a ▸ b) (c ▸ d)
alike_seq {A} {B} {a} {c} {b} {d} f g = record {
  to = seq_into a c b d f.to g.to;
  from = seq_into c a d b f.from g.from;
}

or_into : {A : Type 0} (a c b d : Rule A) → ((x : A) (ts : List Lexeme) → Spells a x ts → Spells c x ts)
    → ((x : A) (ts : List Lexeme) → Spells b x ts → Spells d x ts)
    → (x : A) (ts : List Lexeme) → Spells (a or b) x ts → Spells (c or d) x ts
or_into a c b d f g x ts (inl s) = inl (f x ts s)
or_into a c b d f g x ts (inr s) = inr (g x ts s)

alike_or : {A : Type 0} {a c b d : Rule A} → SpellAlike a c → SpellAlike b d → SpellAlike (a or b) (c or d)
alike_or {A} {a} {c} {b} {d} f g = record { to = or_into a c b d f.to g.to; from = or_into c a d b f.from g.from }

maybe_into : {A : Type 0} (a c : Rule A) → ((x : A) (ts : List Lexeme) → Spells a x ts → Spells c x ts)
    → (o : Option A) (ts : List Lexeme) → Spells (maybe a) o ts → Spells (maybe c) o ts
maybe_into a c f None ts s = s
maybe_into a c f (Some x) ts s = f x ts s

alike_maybe : {A : Type 0} {a c : Rule A} → SpellAlike a c → SpellAlike (maybe a) (maybe c)
alike_maybe {A} {a} {c} f = record { to = maybe_into a c f.to; from = maybe_into c a f.from }

many_into : {A : Type 0} (a c : Rule A) → ((x : A) (ts : List Lexeme) → Spells a x ts → Spells c x ts)
    → (xs : List A) (ts : List Lexeme) → Each (Spells a) xs ts → Each (Spells c) xs ts
many_into a c f [] ts s = s
many_into a c f (x ∷ xs) ts (us, vs, h, s, t) = (us, vs, h, f x us s, many_into a c f xs vs t)

alike_many : {A : Type 0} {a c : Rule A} → SpellAlike a c → SpellAlike (many a) (many c)
alike_many {A} {a} {c} f = record { to = many_into a c f.to; from = many_into c a f.from }

alike_made : {A B : Type 0} {f : A → B} {a c : Rule A} → SpellAlike a c → SpellAlike (made f a) (made f c)
alike_made {A} {B} {f} {a} {c} g =
    record { to = λ y ts (x, e, s). (x, e, g.to x ts s); from = λ y ts (x, e, s). (x, e, g.from x ts s) }

alike_node : {A B : Type 0} {f : A → Span → B} {a c : Rule A} → SpellAlike a c → SpellAlike (node f a) (node f c)
alike_node {A} {B} {f} {a} {c} g =
    record { to = λ y ts (x, e, s). (x, e, g.to x ts s); from = λ y ts (x, e, s). (x, e, g.from x ts s) }

alike_behind : {A : Type 0} (k : Kind) {a c : Rule A} → SpellAlike a c → SpellAlike (k ≫ a) (k ≫ c)
alike_behind {A} k {a} {c} f = alike_made (alike_seq same f)

alike_some_of : {A : Type 0} {a c b d : Rule A} → SpellAlike a c → SpellAlike b d
    → SpellAlike (some_of a b) (some_of c d)
alike_some_of {A} {a} {c} {b} {d} f g = alike_made (alike_seq f (alike_many g))

by : {A : Type 0} (a b c : Rule A) → SpellAlike a b → SpellAlike b c → SpellAlike a c
by a b c f g = record { to = λ x ts s. g.to x ts (f.to x ts s); from = λ x ts s. f.from x ts (g.from x ts s) }

-- nothing behind
no_tail : {ts us vs : List Lexeme} → ts ≡ us ++ vs → vs ≡ [] → ts ≡ us
no_tail {ts} {us} {vs} h e = h ∙ ap (λ zs. us ++ zs) e ∙ append-nil us

-- behind a token of a kind
pub behind : {A : Type 0} (k : Kind) (r : Rule A) (x : A) (ts : List Lexeme) → Spells (k ≫ r) x ts
    → (t : Lexeme) × (us : List Lexeme) × (t.kind ≡ k) × (ts ≡ t ∷ us) × Spells r x us
behind k r x ts (p, e, (us, vs, h, a, b)) =
    (p.0, vs, a.0, h ∙ ap (λ zs. zs ++ vs) a.1, subst (λ y. Spells r y vs) (sym e) b)

pub lead : {A : Type 0} (k : Kind) (r : Rule A) (x : A) (t : Lexeme) (us : List Lexeme) → t.kind ≡ k → Spells r x us
    → Spells (k ≫ r) x (t ∷ us)
lead k r x t us e s = ((t, x), refl, (t ∷ [], us, refl, (e, refl), s))

-- the items

abbrev second : Rule Numeral
second = Sign signs.Colon ≫ numeral

abbrev further : Rule (Numeral × Option Numeral)
further = Sign signs.Colon ≫ numeral ▸ maybe second

item_range : (n m : Numeral) (o : Option Numeral) (x : ListItem) (ts us ws : List Lexeme) (t : Lexeme)
    → ts ≡ us ++ (t ∷ ws) → t.kind ≡ Sign signs.Colon → x ≡ item_of (n, Some (m, o)) (span_of ts)
    → Spells numeral n us → Spells (numeral ▸ maybe second) (m, o) ws → Spells written.item x ts
unfolding written.item
item_range n m None x ts us ws t h k e a b = (
  λ span. record { from = n; to = Some m; step = None; span = span },
  e,
  inr (inl (
    (n, m),
    refl,
    (
      us,
      t ∷ ws,
      h,
      a,
      lead (Sign signs.Colon) numeral m t ws k
          (subst (Spells numeral m) (sym (no_tail b.2 b.4)) b.3),
    ),
  )),
)
item_range n m (Some s) x ts us ws t h k e a b = (
  λ span. record { from = n; to = Some m; step = Some s; span = span },
  e,
  inr (inr ((n, (m, s)), refl, (us, t ∷ ws, h, a, lead (Sign signs.Colon) (numeral ▸ second) (m, s) t ws k b))),
)

item_to : (n : Numeral) (o : Option (Numeral × Option Numeral)) (x : ListItem) (ts us vs : List Lexeme) → ts ≡ us ++ vs
    → x ≡ item_of (n, o) (span_of ts) → Spells numeral n us → Spells (maybe further) o vs
    → Spells written.item x ts
unfolding written.item
item_to n None x ts us vs h e a b = (
  λ span. record { from = n; to = None; step = None; span = span },
  e,
  inl
      (n, refl, subst (Spells numeral n) (sym (no_tail h b)) a),
)
item_to n (Some q) x ts us vs h e a b =
    let c = behind (Sign signs.Colon) (numeral ▸ maybe second) q vs b in
    item_range n q.0 q.1 x ts us c.1 c.0 (h ∙ ap (λ zs. us ++ zs) c.3) c.2 e a c.4

item_from : (x : ListItem) (ts : List Lexeme) → Spells written.item x ts → Spells item x ts
unfolding written.item item
item_from x ts (f, e, inl (n, g, s)) = (
  (n, None),
  e
      ∙ ap (λ make. make (span_of ts)) g,
  (ts, [], sym (append-nil ts), s, refl),
)
item_from x ts (f, e, inr (inl (p, g, (us, vs, h, a, b)))) =
    let c = behind (Sign signs.Colon) numeral p.1 vs b in (
      (p.0, Some (p.1, None)),
      e ∙ ap (λ make. make (span_of ts)) g,
      (
        us,
        vs,
        h,
        a,
        subst (Spells further (p.1, None)) (sym c.3)
            (lead (Sign signs.Colon) (numeral ▸ maybe second) (p.1, None) c.0 c.1 c.2
            (c.1, [], sym (append-nil c.1), c.4, refl)),
      ),
    )
item_from x ts (f, e, inr (inr (p, g, (us, vs, h, a, b)))) =
    let c = behind (Sign signs.Colon) (numeral ▸ second) p.1 vs b in (
      (p.0, Some (p.1.0, Some p.1.1)),
      e ∙ ap (λ make. make (span_of ts)) g,
      (
        us,
        vs,
        h,
        a,
        subst (Spells further (p.1.0, Some p.1.1)) (sym c.3)
            (lead (Sign signs.Colon) (numeral ▸ maybe second) (p.1.0, Some p.1.1) c.0 c.1 c.2 c.4),
      ),
    )

pub item_alike : SpellAlike item written.item
unfolding item
item_alike = record { to = λ x ts (p, e, (us, vs, h, a, b)). item_to p.0 p.1 x ts us vs h e a b; from = item_from }

next_item_alike : SpellAlike next_item written.next_item
unfolding next_item written.next_item
next_item_alike = alike_made (alike_seq same item_alike)

list_alike : SpellAlike list written.list
unfolding list items written.list
list_alike = alike_node
    (alike_behind (Sign signs.Open) (alike_made (alike_seq (alike_some_of item_alike next_item_alike) same)))

lists_alike : SpellAlike (list ▸ maybe list) (written.list ▸ maybe written.list)
lists_alike =
    alike_seq list_alike (alike_maybe list_alike)

atom_alike : SpellAlike atom written.atom
unfolding atom written.atom
atom_alike = alike_made (alike_or (alike_behind (Word words.Dsev) lists_alike) (alike_behind (Word words.Sev)
    (alike_behind (Word words.Dhistogram) (alike_behind (Word words.Xps) lists_alike))))

-- the mixture, of the same and lists

mixture_of : Rule Atom → Rule ListAst → Rule MixAst
mixture_of a l = spanned (
    made (λ x span. record { atoms = x ∷ []; weights = None; span = span }) a
    or made (λ (x, (others, weights)) span. record { atoms = x ∷ others; weights = Some weights; span = span })
    (a ▸ many a ▸ Word words.Wts ≫ l))

mixture_to : (a : Atom) (o : Option (List Atom × ListAst)) (x : MixAst) (ts us vs : List Lexeme)
    → ts ≡ us ++ vs → x ≡ mix_of (a, o) (span_of ts) → Spells atom a us → Spells (maybe weighted) o vs
    → Spells (mixture_of atom list) x ts
unfolding mixture_of weighted
mixture_to a None x ts us vs h e s b = (
  λ span. record { atoms = a ∷ []; weights = None; span = span },
  e,
  inl (a, refl, subst (Spells atom a) (sym (no_tail h b)) s),
)
mixture_to a (Some q) x ts us vs h e s b = (
  λ span. record { atoms = a ∷ q.0; weights = Some q.1; span = span },
  e,
  inr ((a, q), refl, (us, vs, h, s, b)),
)

mixture_from : (x : MixAst) (ts : List Lexeme) → Spells (mixture_of atom list) x ts → Spells mixture x ts
unfolding mixture_of mixture weighted
mixture_from x ts (f, e, inl (a, g, s)) =
    ((a, None), e ∙ ap (λ make. make (span_of ts)) g, (ts, [], sym (append-nil ts), s, refl))
mixture_from x ts (f, e, inr (p, g, s)) = ((p.0, Some p.1), e ∙ ap (λ make. make (span_of ts)) g, s)

pub mixture_alike : SpellAlike mixture written.mixture
unfolding mixture mixture_of written.mixture
mixture_alike = by mixture (mixture_of atom list) written.mixture
    (record { to = λ x ts (p, e, (us, vs, h, a, b)). mixture_to p.0 p.1 x ts us vs h e a b; from = mixture_from })
    (alike_node (alike_or (alike_made atom_alike) (alike_made (alike_seq atom_alike (alike_seq (alike_many atom_alike)
    (alike_behind (Word words.Wts) list_alike))))))

cost_alike : SpellAlike cost written.cost
unfolding cost written.cost
cost_alike = alike_or (alike_made mixture_alike) same

sev_alike : SpellAlike sev written.sev
unfolding sev written.sev
sev_alike = alike_node (alike_seq cost_alike same)

-- a look at the next two tokens changes nothing in what is spelled
unless_into : {A : Type 0} (j k : Kind) (a : Rule A) (o : Option A) (ts : List Lexeme) → Spells (unless j k a) o ts
    → Spells (maybe a) o ts
unless_into j k a None ts s = s
unless_into j k a (Some x) ts s = s

unless_from : {A : Type 0} (j k : Kind) (a : Rule A) (o : Option A) (ts : List Lexeme) → Spells (maybe a) o ts
    → Spells (unless j k a) o ts
unless_from j k a None ts s = s
unless_from j k a (Some x) ts s = s

alike_unless : {A : Type 0} (j k : Kind) {a : Rule A} → SpellAlike (unless j k a) (maybe a)
alike_unless {A} j k {a} = record { to = unless_into j k a; from = unless_from j k a }

defined_alike : SpellAlike defined written.mixture
unfolding defined mixture
defined_alike = by defined mixture written.mixture
    (alike_node (alike_seq same (alike_unless (Word words.Sev) kinds.Name))) mixture_alike

pub definition_alike : SpellAlike sevdef written.sevdef
unfolding sevdef written.sevdef
definition_alike = alike_node (alike_behind (Word words.Sev) (alike_seq same defined_alike))

-- exposure

exposure_to : (n : Numeral) (g : Numeral → Span → Exposure) (x : Exposure) (ts us vs : List Lexeme) → ts ≡ us ++ vs
    → x ≡ g n (span_of ts) → Spells numeral n us → Spells base g vs → Spells written.exposure x ts
unfolding written.exposure ratio
exposure_to n g x ts us vs h e a (inl (t, f, s)) =
    (λ span. exposures.Claims n span, e ∙ ap (λ make. make n (span_of ts)) f, inl ((n, t), refl, (us, vs, h, a, s)))
exposure_to n g x ts us vs h e a (inr (inl (t, f, s))) = (
  λ span. exposures.Loss n span,
  e ∙ ap (λ make. make n (span_of ts)) f,
  inr
      (inl (n, refl, ((n, t), refl, (us, vs, h, a, s)))),
)
exposure_to n g x ts us vs h e a (inr (inr (r, f, (p, i, s)))) = (
  λ span. exposures.Premium n r span,
  e ∙ ap (λ make. make n (span_of ts)) f,
  inr (inr (
    (n, (p.0, r)),
    refl,
    (us, vs, h, a, subst (λ y. Spells (premium ▸ Word words.At ≫ numeral ≪ Word words.Lr) (p.0, y) vs) (sym i) s),
  )),
)

exposure_from : (x : Exposure) (ts : List Lexeme) → Spells written.exposure x ts → Spells exposure x ts
unfolding written.exposure exposure ratio
exposure_from x ts (f, e, inl (p, g, (us, vs, h, a, b))) =
    (f, e, ((p.0, λ number span. exposures.Claims number span), g, (us, vs, h, a, inl (p.1, refl, b))))
exposure_from x ts (f, e, inr (inl (n, g, (p, i, (us, vs, h, a, b))))) = (
  f,
  e,
  (
    (n, λ number span. exposures.Loss number span),
    g,
    (us, vs, h, subst (λ m. Spells numeral m us) (sym i) a, inr (inl (p.1, refl, b))),
  ),
)
exposure_from x ts (f, e, inr (inr (p, g, (us, vs, h, a, s)))) = (
  f,
  e,
  (
    (p.0, λ number span. exposures.Premium number p.1.1 span),
    g,
    (us, vs, h, a, inr (inr (p.1.1, refl, (p.1, refl, s)))),
  ),
)

pub exposure_alike : SpellAlike exposure written.exposure
unfolding exposure
exposure_alike = record {
  to = λ x ts (f, e, (p, g, (us, vs, h, a, b))). exposure_to p.0 p.1 x ts us vs h
      (e ∙ ap (λ make. make (span_of ts)) g) a b;
  from = exposure_from;
}

-- cession

number_to : (n : Numeral) (g : Numeral → Span → CededLayer) (x : CededLayer) (ts us vs : List Lexeme) → ts ≡ us ++ vs
    → x ≡ g n (span_of ts) → Spells numeral n us → Spells behind_number g vs → Spells written.cession x ts
unfolding written.cession layer limit
number_to n g x ts us vs h e a (inl (attach, f, s)) =
    let c = behind (Word words.Xs) numeral attach vs s in
    let l : Layer = record { limit = limits.Finite n; attach = attach; span = span_of ts } in (
      λ span. whole l span,
      e ∙ ap (λ make. make n (span_of ts)) f,
      inl (
        l,
        refl,
        (
          (limits.Finite n, attach),
          refl,
          (
            us ++ c.0 ∷ [],
            c.1,
            h ∙ ap (λ zs. us ++ zs) c.3 ∙ sym (append_assoc us (c.0 ∷ []) c.1),
            ((limits.Finite n, c.0), refl, (us, c.0 ∷ [], refl, inl (n, refl, a), (c.2, refl))),
            c.4,
          ),
        ),
      ),
    )
number_to n g x ts us vs h e a (inr (inl (l, f, s))) =
    (λ span. so n l span, e ∙ ap (λ make. make n (span_of ts)) f, inr (inl ((n, l), refl, (us, vs, h, a, s))))
number_to n g x ts us vs h e a (inr (inr (l, f, s))) =
    (λ span. po n l span, e ∙ ap (λ make. make n (span_of ts)) f, inr (inr ((n, l), refl, (us, vs, h, a, s))))

infinite_to : (attach : Numeral) (x : CededLayer) (ts : List Lexeme) → x ≡ whole_of limits.Infinite attach (span_of ts)
    → Spells (Word words.Inf ≫ Word words.Xs ≫ numeral) attach ts → Spells written.cession x ts
unfolding written.cession layer limit
infinite_to attach x ts e s =
    let c = behind (Word words.Inf) (Word words.Xs ≫ numeral) attach ts s in
    let d = behind (Word words.Xs) numeral attach c.1 c.4 in
    let l : Layer = record { limit = limits.Infinite; attach = attach; span = span_of ts } in (
      λ span. whole l span,
      e,
      inl (
        l,
        refl,
        (
          (limits.Infinite, attach),
          refl,
          (
            c.0 ∷ d.0 ∷ [],
            d.1,
            c.3 ∙ ap (λ zs. c.0 ∷ zs) d.3,
            ((limits.Infinite, d.0), refl, (c.0 ∷ [], d.0 ∷ [], refl, inr (c.0, refl, (c.2, refl)), (d.2, refl))),
            d.4,
          ),
        ),
      ),
    )

cession_to : (x : CededLayer) (ts : List Lexeme) → Spells cession x ts → Spells written.cession x ts
unfolding cession
cession_to x ts (f, e, inl (attach, g, s)) = infinite_to attach x ts (e ∙ ap (λ make. make (span_of ts)) g) s
cession_to x ts (f, e, inr (p, g, (us, vs, h, a, b))) =
    number_to p.0 p.1 x ts us vs h (e ∙ ap (λ make. make (span_of ts)) g) a b

layer_from : (x : CededLayer) (ts us vs : List Lexeme) (m : LimitAst) (attach : Numeral) (t : Lexeme)
    → x ≡ whole_of m attach (span_of ts) → ts ≡ us ++ t ∷ vs → t.kind ≡ Word words.Xs → Spells limit m us
    → Spells numeral attach vs → Spells cession x ts
unfolding cession limit
layer_from x ts us vs m attach t e h k (inl (n, g, a)) b = (
  λ span. whole_of (limits.Finite n) attach span,
  e ∙ ap (λ l. whole_of l attach (span_of ts)) g,
  inr (
    (n, λ number. whole_of (limits.Finite number) attach),
    refl,
    (us, t ∷ vs, h, a, inl (attach, refl, lead (Word words.Xs) numeral attach t vs k b)),
  ),
)
layer_from x ts us vs m attach t e h k (inr (u, g, a)) b = (
  whole_of limits.Infinite attach,
  e ∙ ap (λ l. whole_of l attach (span_of ts)) g,
  inl (
    attach,
    refl,
    subst (Spells (Word words.Inf ≫ Word words.Xs ≫ numeral) attach) (sym (h ∙ ap (λ zs. zs ++ t ∷ vs) a.1))
        (lead (Word words.Inf) (Word words.Xs ≫ numeral) attach u (t ∷ vs) a.0
        (lead (Word words.Xs) numeral attach t vs k b)),
  ),
)

cession_from : (x : CededLayer) (ts : List Lexeme) → Spells written.cession x ts → Spells cession x ts
unfolding written.cession cession layer
cession_from x ts (f, e, inl (l, g, (p, i, (us, vs, h, (q, j, (ws, zs, o, a, t)), b)))) =
    layer_from x ts ws vs p.0 p.1 q.1 (e ∙ ap (λ make. make (span_of ts)) g ∙ ap (λ m. whole m (span_of ts)) i)
    (h ∙ ap (λ ys. ys ++ vs) (o ∙ ap (λ ys. ws ++ ys) t.1) ∙ append_assoc ws (q.1 ∷ []) vs) t.0
    (subst (λ m. Spells limit m ws) (sym j) a) b
cession_from x ts (f, e, inr (inl (p, g, (us, vs, h, a, b)))) =
    (f, e, inr ((p.0, λ number. so number p.1), g, (us, vs, h, a, inr (inl (p.1, refl, b)))))
cession_from x ts (f, e, inr (inr (p, g, (us, vs, h, a, b)))) =
    (f, e, inr ((p.0, λ number. po number p.1), g, (us, vs, h, a, inr (inr (p.1, refl, b)))))

pub cession_alike : SpellAlike cession written.cession
cession_alike = record { to = cession_to; from = cession_from }

next_cession_alike : SpellAlike next_cession written.next_cession
unfolding next_cession written.next_cession
next_cession_alike = alike_behind (Word words.And) cession_alike

clause_alike : (k : Kind) → SpellAlike (clause k) (written.clause k)
unfolding clause layers written.clause
clause_alike k = alike_node (alike_behind k (alike_seq same (alike_some_of cession_alike next_cession_alike)))

-- the unit, of the same

abbrev ExposedParts : Type 0
ExposedParts = NameAst × (Exposure ×
    (Option Layer × (SevAst × (Option Cession × ((FreqAst × ZeroAst) × (Option Cession × Option (List ℕ)))))))

abbrev ListedParts : Type 0
ListedParts = NameAst × (CountAst ×
    (Option Layer × (SevAst × (Option Cession × (Option Cession × Option (List ℕ))))))

abbrev exposed_parts : Rule ExposedParts
exposed_parts = name ▸ exposure ▸ maybe layer ▸ sev ▸ maybe occ ▸ freq ▸ maybe agr ▸ maybe note

abbrev listed_parts : Rule ListedParts
listed_parts = name ▸ listed ▸ maybe layer ▸ sev ▸ maybe occ ▸ maybe agr ▸ maybe note

unit_of_parts : Rule UnitAst
unit_of_parts = made exposed_unit (Word words.Agg ≫ exposed_parts) or made listed_unit (Word words.Agg ≫ listed_parts)

-- what stands behind the sizes of the claims, all in one row
row_of_loss : {A B : Type 0} (a : Rule A) (r : Rule B) (x : A) (l : Loss) (y : B) (ts : List Lexeme)
    → Spells (a ▸ loss ▸ r) (x, (l, y)) ts
    → Spells (a ▸ maybe layer ▸ sev ▸ maybe occ ▸ r) (x, (l.layer, (l.sev, (l.occ, y)))) ts
unfolding loss
row_of_loss a r x l y ts (us, vs, h, s, (ps, qs, i, (p, e, (p0, p1, j, t, (s0, s1, k, u, w))), v)) = (
  us,
  vs,
  h,
  s,
  subst (λ (m : Loss). Spells (maybe layer ▸ sev ▸ maybe occ ▸ r) (m.layer, (m.sev, (m.occ, y))) vs) (sym e) (
    p0,
    p1 ++ qs,
    i ∙ ap (λ zs. zs ++ qs) j ∙ append_assoc p0 p1 qs,
    t,
    (s0, s1 ++ qs, ap (λ zs. zs ++ qs) k ∙ append_assoc s0 s1 qs, u, (s1, qs, refl, w, v)),
  ),
)

loss_of_row : {A B : Type 0} (a : Rule A) (r : Rule B) (x : A) (l : Loss) (y : B) (ts : List Lexeme)
    → Spells (a ▸ maybe layer ▸ sev ▸ maybe occ ▸ r) (x, (l.layer, (l.sev, (l.occ, y)))) ts
    → Spells (a ▸ loss ▸ r) (x, (l, y)) ts
unfolding loss
loss_of_row a r x l y ts (us, vs, h, s, (p0, p1, i, t, (s0, s1, j, u, (o0, o1, k, w, v)))) = (
  us,
  vs,
  h,
  s,
  (
    p0 ++ (s0 ++ o0),
    o1,
    i ∙ ap (λ zs. p0 ++ zs) (j ∙ ap (λ zs. s0 ++ zs) k ∙ sym (append_assoc s0 o0 o1))
        ∙ sym (append_assoc p0 (s0 ++ o0) o1),
    ((l.layer, (l.sev, l.occ)), refl, (p0, s0 ++ o0, refl, t, (s0, o0, refl, u, w))),
    v,
  ),
)

unit_to : (n : NameAst) (b : Body) (x : UnitAst) (ts us ws : List Lexeme) (t : Lexeme) → ts ≡ t ∷ (us ++ ws)
    → t.kind ≡ Word words.Agg → x ≡ named n b → Spells name n us → Spells body b ws → Spells unit_of_parts x ts
unfolding unit_of_parts body counted exposed closing ending
unit_to n b x ts us ws t h k e a (inl (v, f, s)) =
    let p : ListedParts = (n, (v.0, (v.1.0.layer, (v.1.0.sev, (v.1.0.occ, v.1.1))))) in inr (
      p,
      e ∙ ap (named n) f,
      subst (Spells (Word words.Agg ≫ listed_parts) p) (sym h) (lead (Word words.Agg) listed_parts p t (us ++ ws) k
          (us, ws, refl, a, row_of_loss listed ending v.0 v.1.0 v.1.1 ws s)),
    )
unit_to n b x ts us ws t h k e a (inr (v, f, s)) =
    let p : ExposedParts = (n, (v.0, (v.1.0.layer, (v.1.0.sev, (v.1.0.occ, v.1.1))))) in inl (
      p,
      e ∙ ap (named n) f,
      subst (Spells (Word words.Agg ≫ exposed_parts) p) (sym h) (lead (Word words.Agg) exposed_parts p t (us ++ ws) k
          (us, ws, refl, a, row_of_loss exposure closing v.0 v.1.0 v.1.1 ws s)),
    )

unit_from : (x : UnitAst) (ts : List Lexeme) → Spells unit_of_parts x ts → Spells unit x ts
unfolding unit_of_parts unit body counted exposed closing ending
unit_from x ts (inl ((n, (v, (y, (m, (o, r))))), e, s)) =
    let l : Loss = record { layer = y; sev = m; occ = o } in
    let b : Body = record { count = counts.Exposed v r.0.0 r.0.1; loss = l; agr = r.1.0; note = r.1.1 } in
    let c = behind (Word words.Agg) exposed_parts (n, (v, (y, (m, (o, r))))) ts s in (
      (n, b),
      e,
      subst (Spells (Word words.Agg ≫ name ▸ body) (n, b)) (sym c.3)
          (lead (Word words.Agg) (name ▸ body) (n, b) c.0 c.1 c.2
          (c.4.0, c.4.1, c.4.2, c.4.3, inr ((v, (l, r)), refl, loss_of_row exposure closing v l r c.4.1 c.4.4))),
    )
unit_from x ts (inr ((n, (v, (y, (m, (o, r))))), e, s)) =
    let l : Loss = record { layer = y; sev = m; occ = o } in
    let b : Body = record { count = v; loss = l; agr = r.0; note = r.1 } in
    let c = behind (Word words.Agg) listed_parts (n, (v, (y, (m, (o, r))))) ts s in (
      (n, b),
      e,
      subst (Spells (Word words.Agg ≫ name ▸ body) (n, b)) (sym c.3)
          (lead (Word words.Agg) (name ▸ body) (n, b) c.0 c.1 c.2
          (c.4.0, c.4.1, c.4.2, c.4.3, inl ((v, (l, r)), refl, loss_of_row listed ending v l r c.4.1 c.4.4))),
    )

listed_alike : SpellAlike listed written.listed
unfolding listed written.listed
listed_alike = alike_node (alike_behind (Word words.Dfreq) lists_alike)

pub unit_alike : SpellAlike unit written.unit
unfolding unit unit_of_parts written.unit
unit_alike = by unit unit_of_parts written.unit
    (record {
      to = λ x ts (p, e, s).
          let c = behind (Word words.Agg) (name ▸ body) p ts s in
          unit_to p.0 p.1 x ts c.4.0 c.4.1 c.0 (c.3 ∙ ap (λ zs. c.0 ∷ zs) c.4.2) c.2 e c.4.3 c.4.4;
      from = unit_from;
    })
    (alike_or (alike_made (alike_behind (Word words.Agg) (alike_seq same
    (alike_seq exposure_alike (alike_seq same (alike_seq sev_alike (alike_seq (alike_maybe
    (clause_alike (Word words.Occurrence))) (alike_seq same (alike_seq (alike_maybe (clause_alike
    (Word words.Aggregate))) same))))))))) (alike_made (alike_behind (Word words.Agg) (alike_seq same
    (alike_seq listed_alike (alike_seq same (alike_seq sev_alike (alike_seq (alike_maybe
    (clause_alike (Word words.Occurrence))) (alike_seq (alike_maybe (clause_alike (Word words.Aggregate)))
    same)))))))))

book_alike : SpellAlike book written.book
unfolding book units written.book
book_alike = alike_or (alike_made unit_alike) (alike_made (alike_seq same (alike_some_of unit_alike unit_alike)))

pub program_alike : SpellAlike program written.program
unfolding program written.program
program_alike = alike_made (alike_seq (alike_many definition_alike) book_alike)
