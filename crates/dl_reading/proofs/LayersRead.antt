-- Layers that are read, and shares of them: both are right where the limit is.
use Rattle.dl_reading.proofs.Common.{ℕ, ◌≡◌, ◌∙◌, ◌∷◌, [], Option, Some, None, sym, ap, take, Fraction, Span, refl, arith, IsClean, IsRead, flaws_else, GridLayer, GridCeded, number_of, grid_layer, grid_ceded, Flaws, Gridded, IsReadTo, AreNone, spans, flaws_within, limit_value, share_beside, flaws_of_amount, flaws_of_numeral, flaws_of_money, flaws_of_limit, flaws_of_limit_number, flaws_of_layer, flaws_of_share, flaws_of_ceded, value, if_there, Layer, CededLayer, LimitAst, Finite, Infinite, GridShare}
use Rattle.dl_reading.proofs.Agreeing.{read_longer, read_both, read_after, keeps_first}
use Rattle.dl_reading.proofs.Clean.{clean_first, clean_second}

module _ (most : ℕ) (bs : Fraction) where
  abbrev amount_flaws : Span → Option Fraction → Flaws
  amount_flaws span limit = flaws_within (λ x. flaws_of_amount most bs x span) limit

  -- an amount is no bad numeral, whichever it is
  no_numeral : (span : Span) (x : Option Fraction) → take 1 (spans (amount_flaws span x)) ≡ None ∷ []
  no_numeral span None = refl
  no_numeral span (Some x) = refl

  limit_flaws : (span : Span) (limit : LimitAst)
      → flaws_else (flaws_of_limit_number limit) (amount_flaws span (limit_value limit))
      ≡ flaws_of_limit most bs span limit
  limit_flaws span (Finite n) = refl
  limit_flaws span Infinite = refl

  limit_clean : (span : Span) (limit : LimitAst) → IsClean (flaws_of_limit most bs span limit)
      → AreNone (take 1 (spans (flaws_of_limit_number limit)))
  limit_clean span (Finite n) clean =
      keeps_first 1 (flaws_of_numeral n) (flaws_of_amount most bs (value n) span) (clean.0, tt)
  limit_clean span Infinite clean = (refl, tt)

  pub layer_read : (l : Layer) {limit : Gridded (Option Fraction)} {paid : Gridded (Option ℕ)} {attach : Gridded ℕ}
      {limits all : Flaws} → IsReadTo 1 (flaws_of_limit_number l.limit) (limit_value l.limit) limit
      → IsRead (amount_flaws l.span limit.part) (if_there (number_of bs) limit.part) paid
      → IsRead (flaws_of_money most bs l.span l.attach) (number_of bs (value l.attach)) attach
      → limits ≡ flaws_else limit.flaws paid.flaws → all ≡ flaws_else limits attach.flaws
      → IsRead (flaws_of_layer most bs l) (grid_layer bs l)
      (record { part = record { limit = paid.part; attach = attach.part; span = l.span }; flaws = all })
  layer_read l {limit = limit} number amount attached joined is =
      let both = read_after 1 7 (amount_flaws l.span) (if_there (number_of bs)) (λ x n. n) (omega arith) number
      (no_numeral l.span limit.part ∙ sym (no_numeral l.span (limit_value l.limit))) amount joined in
      read_both (λ (n : Option ℕ) (a : ℕ). record { limit = n; attach = a; span = l.span })
      (rw (limit_flaws l.span l.limit) at both) attached is

  pub ceded_read : (c : CededLayer) {limit : Gridded (Option Fraction)} {share : Gridded GridShare}
      {layer : Gridded GridLayer} {all : Flaws}
      → IsReadTo 1 (flaws_of_limit_number c.layer.limit) (limit_value c.layer.limit) limit
      → IsReadTo 1 (flaws_of_share c.share) (share_beside c.share limit.part) share
      → IsRead (flaws_of_layer most bs c.layer) (grid_layer bs c.layer) layer → all ≡ flaws_else share.flaws layer.flaws
      → IsRead (flaws_of_ceded most bs c) (grid_ceded bs c)
      (record { part = record { share = share.part; layer = layer.part; span = c.span }; flaws = all })
  ceded_read c number beside own is =
      let make : GridShare → GridLayer → GridCeded = λ s l. record { share = s; layer = l; span = c.span } in
      let both = read_both make (read_longer 1 7 (omega arith) beside) own is in
      record {
        first = both.first;
        right = λ clean.
            let in_layer = clean_second (flaws_of_share c.share) (flaws_of_layer most bs c.layer) clean in
            let in_limit = clean_first (flaws_of_limit most bs c.layer.span c.layer.limit) _ in_layer in
            both.right clean ∙ ap (λ o. make (share_beside c.share o) (grid_layer bs c.layer))
            (number.right (limit_clean c.layer.span c.layer.limit in_limit));
      }
