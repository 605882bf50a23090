use Rattle.dl_budget.proofs.Common.{ℕ, suc, ◌≡◌, ◌≤◌, length, arith, inl, inr, refl, ap, ◌∙◌, leb_tells, Some, None, rules, tests, bytes_eq, cond, ltb, unwrap_or, prefix_len-le-length, index_of, YieldsList-from_slice, position_from_yields_List}
use Rattle.dl_budget.proofs.asks.index_of.Goals as goal

-- a place among n, and n where there is none
found_or_all : (index_of n : ℕ) → index_of ≤ n → unwrap_or (cond (ltb index_of n) (Some index_of) None) n ≡ index_of
found_or_all index_of n within = elim (leb_tells (suc index_of) n)
    [ inl inside ↦ rw inside.0 refl | inr past ↦ rw past.0 (omega (arith, within, past.1)) ]

pub returns : goal.returns
returns c =
    let found : c.position-index.result ≡ cond (ltb (index_of c.args.name.now c.args.units.now)
    (length c.args.units.now)) (Some (index_of c.args.name.now c.args.units.now)) None =
    position_from_yields_List (λ unit. bytes_eq unit.name c.args.name.now) _ _ c.position-index.result
    c.position-index.ensures.ran (YieldsList-from_slice _ c.iter.ensures.rest) (λ x b q k. search (rules, tests)) in
    c.unwrap_or.ensures ∙ ap (λ r. unwrap_or r (length c.args.units.now)) found
    ∙ found_or_all (index_of c.args.name.now c.args.units.now) (length c.args.units.now)
    (prefix_len-le-length _ c.args.units.now)
