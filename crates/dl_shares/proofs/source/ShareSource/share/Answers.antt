use Rattle.dl_shares.proofs.Common.{◌^◌, ◌∙◌, ◌*◌, arith, ap, length, subst, subst₂, sym, Some, low_at, low_cdf, IsFirstFound, in_order, IsBracketIn}
use Rattle.dl_shares.proofs.Absent.{not_past}
use Rattle.dl_shares.proofs.source.ShareSource.share.Goals as goal

pub first_joints-first-requires : goal.first_joints-first-requires
first_joints-first-requires g c =
    let grid = c.args.total.now in
    let found = subst (IsFirstFound (low_cdf (2 ^ g.row.B) (low_at grid)) c.args.p (length grid)) c.in_ok-hi.was
    c.quantile-bracket.ensures.hi in
    let order = in_order grid c.args.p c.quantile-bracket.result.lo c.in_ok-hi.hi c.cells.ensures.grid
    c.quantile-bracket.ensures.lo found in
    let at = c.joints-last.ensures.total in (
      omega arith,
      (
        omega arith,
        (
          omega (arith, at, order),
          (
            omega (arith, at, found.0, c.requires.cells),
            (c.joints-last.ensures.holds, omega (arith, c.joints-last.ensures.small, ap (λ x. x * 2 ^ g.row.B) at)),
          ),
        ),
      ),
    )

pub share_between-requires : goal.share_between-requires
share_between-requires g c =
    let grid = c.args.total.now in
    let found = subst (IsFirstFound (low_cdf (2 ^ g.row.B) (low_at grid)) c.args.p (length grid)) c.in_ok-hi.was
    c.quantile-bracket.ensures.hi in
    let order = in_order grid c.args.p c.quantile-bracket.result.lo c.in_ok-hi.hi c.cells.ensures.grid
    c.quantile-bracket.ensures.lo found in
    let first = c.first_joints-first.ensures.total in
    let last = c.joints-last.ensures.total in
    let bracket = subst₂ (λ lo hi. IsBracketIn grid c.args.p lo (Some hi)) (sym first) (sym last)
    record { first = c.quantile-bracket.ensures.lo; found = found } in (
      omega arith,
      (
        omega arith,
        (
          omega arith,
          (
            c.requires.below_one,
            (
              c.requires.small,
              (
                omega (arith, order, first, last),
                (
                  λ same. c.first_joints-first.ensures.same (sym first ∙ same),
                  (
                    omega (arith, found.0, last),
                    (
                      bracket,
                      (
                        c.requires.mean,
                        (
                          omega (arith, c.first_joints-first.ensures.small, ap (λ x. x * 2 ^ g.row.B) first),
                          omega (arith, c.joints-last.ensures.small, ap (λ x. x * 2 ^ g.row.B) last),
                        ),
                      ),
                    ),
                  ),
                ),
              ),
            ),
          ),
        ),
      ),
    )

pub returns-clause-none : goal.returns-clause-none
returns-clause-none g c =
    let grid = c.args.total.now in
    let found = subst (IsFirstFound (low_cdf (2 ^ g.row.B) (low_at grid)) c.args.p (length grid))
    c.in_ok-hi.was c.quantile-bracket.ensures.hi in
    (λ none. cc, λ past. absurd (not_past grid c.args.p c.in_ok-hi.hi found past))

pub returns-clause-holds : goal.returns-clause-holds
returns-clause-holds g c plan i valid named from = c.share_between.ensures.holds plan i _ valid from.total from.mean
    (c.first_joints-first.ensures.holds plan i valid from.joints) (c.joints-last.ensures.holds plan i valid from.joints)

pub returns-clause-width : goal.returns-clause-width
returns-clause-width g c plan i valid named from m t of_mean of_total =
    c.share_between.ensures.width plan i m _ t valid from.total
    (c.first_joints-first.ensures.holds plan i valid from.joints) (c.joints-last.ensures.holds plan i valid from.joints)
    of_mean of_total
